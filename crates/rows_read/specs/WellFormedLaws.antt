-- Laws of well-formed rows: the test taken apart, one cell replaced, and oMObjectClass: a well-formed row is left as it is by settling, and a row
-- whose cells are well-formed is well-formed once it is settled.
use Rattle.std.specs.Prelude.{Bool, true, false, not, ◌||◌, List, [], ◌∷◌, ◌⊎◌, ◌≡◌, ℕ, ◌+◌, ◌≤◌, ◌<◌, ◌-◌, eqb, get_or}
use Rattle.std.proofs.lemmas.Bool.{false≢true}
use Rattle.std.proofs.Common.{inl, inr, sym, ap, ◌∙◌}
use Rattle.std.proofs.Math.Path.{refl}
use Rattle.std.proofs.Math.Decide.{ℕ_discrete}
use native.Mathlib.Omega.{arith}
use Rattle.std.proofs.Math.ListN.{length}
use Rattle.prelude.specs.SaysLaws.{says_and, says_eq, says_test, says_true, says_false, true_or_false}
use Rattle.prelude.specs.Part.{part, splice, zeros, is_zero, padded}
use Rattle.prelude.specs.PartLaws.{part_at, part_length, zero_zeros, part_part, part_between, length_nil}
use Rattle.prelude.specs.SpliceLaws.{splice_part, splice_at_before, splice_at_same, splice_at_after, part_splice_same}
use Rattle.schema.specs.ObjectClasses.{first_object_class}
use Rattle.schema.specs.ObjectClassesLaws.{first_short}
use Rattle.schema.specs.Layout.{object_class_limit, syntax_at, om_syntax_at, object_class_at, single_valued_at, attribute_width, row_width}
use Rattle.schema.specs.AttributeRow.{syntax_of, om_syntax_of, object_class_length, object_class_of}
use Rattle.schema.specs.declared.number.TableId.{TableId}
use Rattle.schema.specs.declared.number.TableId.TheVariants.{Attributes, Classes}
use Rattle.rows_format.specs.declared.column.Encoding.TheVariants.{Counted}
use Rattle.rows_format.specs.declared.column.Presence.TheVariants.{Optional}
use Rattle.rows_format.specs.declared.format.Format.{Format}
use Rattle.rows_format.specs.declared.format.Format.TheVariants.{Row}
use Rattle.rows_format.specs.Encodings.{image, room, sound, skippable}
use Rattle.rows_format.specs.EncodingsLaws.{says_accepts, says_holds}
use Rattle.rows_format.specs.Columns.{lead, mark, required, possible, column_width, takes}
use Rattle.rows_format.specs.Columns.{cell_of, cell_at, has_value, well_formed_cell, well_formed_by, sound_column, clear}
use Rattle.rows_format.proofs.ColumnsLaws.{formed_at, cell_replaced, absent_formed, taken_formed, sound_column_lem}
use Rattle.rows_format.specs.Formats.{column, common_columns, attribute_columns, own_columns, columns_of, format_width, no_column}
use Rattle.rows_format.proofs.FormatsLaws.{format_laid}
use Rattle.rows_read.specs.ObjectClass.{object_class_width, object_class_cell, settled, is_settled, finished_row}
use Rattle.rows_read.specs.ObjectClassLaws.{settled_none, settled_first, settled_given, settled_length, cell_long, no_cell}
use Rattle.rows_read.specs.Stopping.{column_at}
use Rattle.rows_read.specs.WellFormed.{is_finished, well_formed, stands_exactly}

-- ---- the test, taken apart

pub formed_parts : (t : TableId) (row : List ℕ) → well_formed t row ≡ true → (well_formed_by (columns_of (Row t)) row ≡ true) × (is_finished t row ≡ true)
unfolding well_formed
formed_parts t row h = (says_and (says_test (well_formed_by (columns_of (Row t)) row)) (says_test (is_finished t row))).holds h

pub parts_formed : (t : TableId) (row : List ℕ) → well_formed_by (columns_of (Row t)) row ≡ true → is_finished t row ≡ true → well_formed t row ≡ true
unfolding well_formed
parts_formed t row h k = rw (h, k)

-- ---- cells

-- the cell of a column becomes another well-formed cell: the row stays well-formed
pub format_replaced : (format : Format) (i : ℕ) (new row : List ℕ) → format_width format ≤ length row → i < length (columns_of format) → length new
    ≡ column_width (column_at (columns_of format) i)
    → well_formed_cell (column_at (columns_of format) i) new ≡ true → well_formed_by (columns_of format) row ≡ true
    → well_formed_by (columns_of format) (splice (column_at (columns_of format) i).at new row) ≡ true
format_replaced format i new row fits l k w f = cell_replaced (columns_of format) no_column 0 (format_width format) i new row (format_laid format) fits l k w f

-- ---- oMObjectClass

-- three bytes decide
same_settled : (row row' : List ℕ) → om_syntax_of row ≡ om_syntax_of row' → syntax_of row ≡ syntax_of row' → object_class_length row ≡ object_class_length row'
    → is_settled row ≡ is_settled row'
unfolding is_settled
same_settled row row' a b c = rw (a, b, c)

-- a change before the syntax or behind oMObjectClass leaves it
pub settled_elsewhere : (at : ℕ) (new row : List ℕ) → at + length new ≤ length row → (at + length new ≤ syntax_at) ⊎ (single_valued_at ≤ at)
    → is_settled (splice at new row) ≡ is_settled row
settled_elsewhere at new row h (inl k) = same_settled (splice at new row) row (splice_at_after at new row h om_syntax_at (omega arith))
    (splice_at_after at new row h syntax_at (omega arith)) (splice_at_after at new row h object_class_at (omega arith))
settled_elsewhere at new row h (inr k) = same_settled (splice at new row) row (splice_at_before at new row h om_syntax_at (omega arith))
    (splice_at_before at new row h syntax_at (omega arith)) (splice_at_before at new row h object_class_at (omega arith))

-- a class row has no such cell
pub finished_elsewhere : (t : TableId) (at : ℕ) (new row : List ℕ) → at + length new ≤ length row → (at + length new ≤ syntax_at) ⊎ (single_valued_at ≤ at)
    → is_finished t (splice at new row) ≡ is_finished t row
unfolding is_finished
finished_elsewhere Attributes at new row h d = settled_elsewhere at new row h d
finished_elsewhere Classes at new row h d = refl

-- the same for whole rows
pub row_replaced : (t : TableId) (i : ℕ) (new row : List ℕ) → row_width t ≤ length row → i < length (columns_of (Row t)) → length new
    ≡ column_width (column_at (columns_of (Row t)) i)
    → well_formed_cell (column_at (columns_of (Row t)) i) new ≡ true
    → ((column_at (columns_of (Row t)) i).at + length new ≤ syntax_at) ⊎ (single_valued_at ≤ (column_at (columns_of (Row t)) i).at)
    → (column_at (columns_of (Row t)) i).at + length new ≤ length row
    → well_formed t row ≡ true → well_formed t (splice (column_at (columns_of (Row t)) i).at new row) ≡ true
unfolding format_width
row_replaced t i new row fits l k w d inside f =
    let p = formed_parts t row f in
    parts_formed t (splice (column_at (columns_of (Row t)) i).at new row) (format_replaced (Row t) i new row fits l k w p.0)
    (finished_elsewhere t (column_at (columns_of (Row t)) i).at new row inside d ∙ p.1)

-- the column of oMObjectClass, and its cell
class_column : column_at (columns_of (Row Attributes)) 7 ≡ column Optional 8 (Counted 1 object_class_limit) object_class_at
unfolding columns_of own_columns common_columns attribute_columns
class_column = refl

class_zero : (cell : List ℕ) → length cell ≡ object_class_width → get_or cell 0 0 ≡ 0
    → well_formed_cell (column Optional 8 (Counted 1 object_class_limit) object_class_at) cell ≡ true → cell ≡ zeros object_class_width
unfolding well_formed_cell has_value mark
class_zero cell l z f = go (true_or_false (is_zero cell))
  where
    go : (is_zero cell ≡ true) ⊎ (is_zero cell ≡ false) → cell ≡ zeros object_class_width
    go (inl q) = zero_zeros object_class_width cell l q
    go (inr q) = absurd (omega (arith, ((says_holds (Counted 1 object_class_limit) cell).holds (rw q at f)).0))

-- the cell of given bytes is well-formed
class_formed : (v : List ℕ) → length v ≤ object_class_limit
    → well_formed_cell (column Optional 8 (Counted 1 object_class_limit) object_class_at) (object_class_cell v) ≡ true
class_formed [] h = rw no_cell (absent_formed (column Optional 8 (Counted 1 object_class_limit) object_class_at) object_class_width (unfold required in refl))
class_formed (x ∷ v) h =
    unfold cell_of lead object_class_cell in
    (taken_formed (column Optional 8 (Counted 1 object_class_limit) object_class_at) (x ∷ v)
    (sound_column_lem (column Optional 8 (Counted 1 object_class_limit) object_class_at) (unfold sound_column sound clear skippable in refl))
    (unfold takes possible in (says_accepts (Counted 1 object_class_limit) (x ∷ v)).passes (omega arith, h))).1

put_formed : (v row : List ℕ) → attribute_width ≤ length row → length v ≤ object_class_limit → well_formed_by (columns_of (Row Attributes)) row ≡ true
    → well_formed_by (columns_of (Row Attributes)) (splice object_class_at (object_class_cell v) row) ≡ true
unfolding format_width columns_of own_columns common_columns attribute_columns column_width mark room
put_formed v row fits h f = format_replaced (Row Attributes) 7 (object_class_cell v) row fits (omega arith) (cell_long v h) (class_formed v h) f

-- what the test says, case by case
settled_other : (row : List ℕ) → ¬ (om_syntax_of row ≡ 127) → is_settled row ≡ true → object_class_length row ≡ 0
unfolding is_settled
settled_other row d h = (says_eq (object_class_length row) 0).holds (rw (says_false (says_eq (om_syntax_of row) 127) d) at h)

settled_without : (row : List ℕ) → om_syntax_of row ≡ 127 → object_class_length row ≡ 0 → is_settled row ≡ true → first_object_class (syntax_of row) ≡ []
unfolding is_settled
settled_without row e z h =
    length_nil (first_object_class (syntax_of row))
    ((says_eq (length (first_object_class (syntax_of row))) 0).holds
    (rw (says_true (says_eq (om_syntax_of row) 127) e, says_true (says_eq (object_class_length row) 0) z) at h))

settled_some : (row : List ℕ) → om_syntax_of row ≡ 127 → ¬ (object_class_length row ≡ 0) → is_settled row ≡ true
unfolding is_settled
settled_some row e d = rw (says_true (says_eq (om_syntax_of row) 127) e, says_false (says_eq (object_class_length row) 0) d)

-- oMObjectClass put into the row: the bytes that decide
put_bytes : (v row : List ℕ) → attribute_width ≤ length row → length v ≤ object_class_limit
    → (om_syntax_of (splice object_class_at (object_class_cell v) row) ≡ om_syntax_of row)
    × ((syntax_of (splice object_class_at (object_class_cell v) row) ≡ syntax_of row)
    × (object_class_length (splice object_class_at (object_class_cell v) row) ≡ length v))
put_bytes v row fits h =
    let cell : List ℕ = object_class_cell v in
    let inside : object_class_at + length cell ≤ length row = omega (arith, cell_long v h) in
    let some : 0 < length cell = omega (arith, cell_long v h) in (
      splice_at_before object_class_at cell row inside om_syntax_at (omega arith),
      (splice_at_before object_class_at cell row inside syntax_at (omega arith), splice_at_same object_class_at cell row inside 0 some ∙ count v),
    )
  where
    count : (v : List ℕ) → get_or (object_class_cell v) 0 0 ≡ length v
    count v = unfold object_class_cell image in refl

-- and what is read back
put_value : (v row : List ℕ) → attribute_width ≤ length row → length v ≤ object_class_limit → object_class_of (splice object_class_at (object_class_cell v) row) ≡ v
put_value v row fits h =
    let cell : List ℕ = object_class_cell v in
    let new : List ℕ = splice object_class_at cell row in
    let inside : object_class_at + length cell ≤ length row = omega (arith, cell_long v h) in
    let whole : part object_class_at object_class_width new ≡ cell = part_splice_same object_class_at cell row inside object_class_width (sym (cell_long v h)) in
    ap (λ (n : ℕ). part (object_class_at + 1) n new) (put_bytes v row fits h).1.1
    ∙ sym (part_part object_class_at object_class_width new 1 (length v) (omega arith)) ∙ ap (part 1 (length v)) whole ∙ value
  where
    value : part 1 (length v) (object_class_cell v) ≡ v
    value = unfold object_class_cell image padded in part_between (length v ∷ []) v (zeros (object_class_limit - length v)) 1 (length v) refl refl

put_none : (row : List ℕ) → attribute_width ≤ length row → ¬ (om_syntax_of row ≡ 127) → is_settled (splice object_class_at (object_class_cell []) row) ≡ true
unfolding is_settled
put_none row fits d = let b = put_bytes [] row fits (omega arith) in rw (b.0, says_false (says_eq (om_syntax_of row) 127) d, b.1.1)

put_first : (row : List ℕ) → attribute_width ≤ length row → om_syntax_of row ≡ 127
    → is_settled (splice object_class_at (object_class_cell (first_object_class (syntax_of row))) row) ≡ true
unfolding is_settled
put_first row fits e =
    let v : List ℕ = first_object_class (syntax_of row) in
    let b = put_bytes v row fits (first_short (syntax_of row)) in
    rw (b.0, says_true (says_eq (om_syntax_of row) 127) e, b.1.1, b.1.0) (one_or_other (eqb (length v) 0))
  where
    one_or_other : (b : Bool) → (not b || b) ≡ true
    one_or_other true = refl
    one_or_other false = refl

-- no bytes counted: the cell is zero
no_class_lem : (row : List ℕ) → attribute_width ≤ length row → well_formed_by (columns_of (Row Attributes)) row ≡ true → object_class_length row ≡ 0
    → splice object_class_at (zeros object_class_width) row ≡ row
no_class_lem row fits f z =
    let cell : List ℕ = part object_class_at object_class_width row in
    let inside : object_class_at + object_class_width ≤ length row = omega arith in
    let first : get_or cell 0 0 ≡ 0 = part_at object_class_at object_class_width row 0 (omega arith) ∙ z in
    let formed = rw class_column at (formed_at (columns_of (Row Attributes)) no_column row 7 f table_long) in
    ap (λ (x : List ℕ). splice object_class_at x row)
    (sym (class_zero cell (part_length object_class_at object_class_width row inside) first (unfold cell_at column_width mark room in formed)))
    ∙ splice_part object_class_at object_class_width row inside
  where
    table_long : 7 < length (columns_of (Row Attributes))
    table_long = unfold columns_of own_columns common_columns attribute_columns in omega arith

-- a row that has an oMObjectClass exactly where it should is left as it is
settled_when : (row : List ℕ) → attribute_width ≤ length row → well_formed_by (columns_of (Row Attributes)) row ≡ true
    → (¬ (om_syntax_of row ≡ 127) → object_class_length row ≡ 0)
    → (om_syntax_of row ≡ 127 → object_class_length row ≡ 0 → first_object_class (syntax_of row) ≡ []) → settled row ≡ row
settled_when row fits f other first = go (ℕ_discrete (om_syntax_of row) 127) (ℕ_discrete (object_class_length row) 0)
  where
    go : Dec (om_syntax_of row ≡ 127) → Dec (object_class_length row ≡ 0) → settled row ≡ row
    go (no d) n = settled_none row d ∙ no_class_lem row fits f (other d)
    go (yes e) (no d) = settled_given row e d
    go (yes e) (yes z) =
        settled_first row e z ∙ ap (λ (v : List ℕ). splice object_class_at (object_class_cell v) row) (first e z)
        ∙ ap (λ (x : List ℕ). splice object_class_at x row) no_cell ∙ no_class_lem row fits f z

-- so a row that is settled
settled_same : (row : List ℕ) → attribute_width ≤ length row → well_formed_by (columns_of (Row Attributes)) row ≡ true → is_settled row ≡ true → settled row ≡ row
settled_same row fits f g = settled_when row fits f (λ d. settled_other row d g) (λ e z. settled_without row e z g)

-- settling leaves both syntaxes
pub settled_syntaxes : (row : List ℕ) → attribute_width ≤ length row → (om_syntax_of (settled row) ≡ om_syntax_of row) × (syntax_of (settled row) ≡ syntax_of row)
settled_syntaxes row fits = go (ℕ_discrete (om_syntax_of row) 127) (ℕ_discrete (object_class_length row) 0)
  where
    put : (v : List ℕ) → length v ≤ object_class_limit → settled row ≡ splice object_class_at (object_class_cell v) row
        → (om_syntax_of (settled row) ≡ om_syntax_of row) × (syntax_of (settled row) ≡ syntax_of row)
    put v h e = let b = put_bytes v row fits h in (ap om_syntax_of e ∙ b.0, ap syntax_of e ∙ b.1.0)

    go : Dec (om_syntax_of row ≡ 127) → Dec (object_class_length row ≡ 0) → (om_syntax_of (settled row) ≡ om_syntax_of row) × (syntax_of (settled row) ≡ syntax_of row)
    go (no d) n = put [] (omega arith) (settled_none row d ∙ ap (λ (x : List ℕ). splice object_class_at x row) (sym no_cell))
    go (yes e) (no d) = (ap om_syntax_of (settled_given row e d), ap syntax_of (settled_given row e d))
    go (yes e) (yes z) = put (first_object_class (syntax_of row)) (first_short (syntax_of row)) (settled_first row e z)

-- and stores the first value where there is none
pub settled_value : (row : List ℕ) → attribute_width ≤ length row → om_syntax_of row ≡ 127 → object_class_length row ≡ 0 → object_class_of (settled row)
    ≡ first_object_class (syntax_of row)
settled_value row fits e z = ap object_class_of (settled_first row e z) ∙ put_value (first_object_class (syntax_of row)) row fits (first_short (syntax_of row))

-- and one that was settled is
pub settled_settled : (row : List ℕ) → attribute_width ≤ length row → is_settled (settled row) ≡ true
settled_settled row fits = go (ℕ_discrete (om_syntax_of row) 127) (ℕ_discrete (object_class_length row) 0)
  where
    go : Dec (om_syntax_of row ≡ 127) → Dec (object_class_length row ≡ 0) → is_settled (settled row) ≡ true
    go (no d) n = ap is_settled (settled_none row d ∙ ap (λ (x : List ℕ). splice object_class_at x row) (sym no_cell)) ∙ put_none row fits d
    go (yes e) (no d) = ap is_settled (settled_given row e d) ∙ settled_some row e d
    go (yes e) (yes z) = ap is_settled (settled_first row e z) ∙ put_first row fits e

settled_formed : (row : List ℕ) → attribute_width ≤ length row → well_formed_by (columns_of (Row Attributes)) row ≡ true
    → well_formed Attributes (settled row) ≡ true
unfolding is_finished
settled_formed row fits f = parts_formed Attributes (settled row) (go (ℕ_discrete (om_syntax_of row) 127) (ℕ_discrete (object_class_length row) 0))
    (settled_settled row fits)
  where
    go : Dec (om_syntax_of row ≡ 127) → Dec (object_class_length row ≡ 0) → well_formed_by (columns_of (Row Attributes)) (settled row) ≡ true
    go (no d) n = ap (well_formed_by (columns_of (Row Attributes))) (settled_none row d ∙ ap (λ (x : List ℕ). splice object_class_at x row) (sym no_cell))
        ∙ put_formed [] row fits (omega arith) f
    go (yes e) (no d) = ap (well_formed_by (columns_of (Row Attributes))) (settled_given row e d) ∙ f
    go (yes e) (yes z) = ap (well_formed_by (columns_of (Row Attributes))) (settled_first row e z)
        ∙ put_formed (first_object_class (syntax_of row)) row fits (first_short (syntax_of row)) f

exact_none : (row : List ℕ) → ¬ (om_syntax_of row ≡ 127) → stands_exactly Attributes row ≡ true → object_class_length row ≡ 0
unfolding stands_exactly
exact_none row d x = (says_eq (object_class_length row) 0).holds (rw (says_false (says_eq (om_syntax_of row) 127) d) at x)

exact_some : (row : List ℕ) → om_syntax_of row ≡ 127 → object_class_length row ≡ 0 → stands_exactly Attributes row ≡ true → ⊥
unfolding stands_exactly
exact_some row e z x = false≢true (rw (says_true (says_eq (om_syntax_of row) 127) e, says_true (says_eq (object_class_length row) 0) z) at x)

-- the fields as they were read, with 08 exactly where oMSyntax is 127, are settled already
exact_settled : (row : List ℕ) → attribute_width ≤ length row → well_formed_by (columns_of (Row Attributes)) row ≡ true → stands_exactly Attributes row
    ≡ true → settled row ≡ row
exact_settled row fits f x = settled_when row fits f (λ d. exact_none row d x) (λ e z. absurd (exact_some row e z x))

-- ---- a row of either table

-- a well-formed row is left as it is once it is finished
pub finished_same : (t : TableId) (row : List ℕ) → row_width t ≤ length row → well_formed t row ≡ true → finished_row t row ≡ row
unfolding finished_row is_finished
finished_same Attributes row fits f = let p = formed_parts Attributes row f in settled_same row fits p.0 p.1
finished_same Classes row fits f = refl

-- a row whose cells are well-formed is well-formed once it is finished
pub finished_formed : (t : TableId) (row : List ℕ) → row_width t ≤ length row → well_formed_by (columns_of (Row t)) row ≡ true
    → well_formed t (finished_row t row) ≡ true
unfolding finished_row is_finished
finished_formed Attributes row fits f = settled_formed row fits f
finished_formed Classes row fits f = parts_formed Classes row f refl

-- the fields as they were read, with 08 exactly where it should stand, are finished already
pub finished_exact : (t : TableId) (row : List ℕ) → row_width t ≤ length row → well_formed_by (columns_of (Row t)) row ≡ true → stands_exactly t row ≡ true
    → finished_row t row ≡ row
unfolding finished_row
finished_exact Attributes row fits f x = exact_settled row fits f x
finished_exact Classes row fits f x = refl

pub finished_length : (t : TableId) (row : List ℕ) → row_width t ≤ length row → length (finished_row t row) ≡ length row
unfolding finished_row
finished_length Attributes row fits = settled_length row (omega arith)
finished_length Classes row fits = refl
