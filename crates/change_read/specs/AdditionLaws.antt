-- Laws of an addition: the row that it carries is a well-formed one of its table, and active.
use Rattle.std.specs.Prelude.{Bool, true, false, cond, ◌&&◌, List, [], ◌∷◌, ◌≡◌, refl, ℕ, ◌+◌, ◌≤◌, ◌<◌, eqb, length, get_or}
use Rattle.std.proofs.Common.{sym, ap, ap₂, ◌∙◌, arith}
use Rattle.prelude.specs.SaysLaws.{says_eq, says_false}
use Rattle.prelude.specs.Part.{part, splice, is_zero, Bytes}
use Rattle.prelude.specs.PartLaws.{part_at, part_length, part_part, says_zero, zeros_at}
use Rattle.prelude.specs.SpliceLaws.{splice_at_before}
use Rattle.schema.specs.declared.number.TableId.{TableId}
use Rattle.schema.specs.declared.number.TableId.TheVariants.{Attributes, Classes}
use Rattle.schema.specs.Layout.{row_width, defunct_at, om_syntax_at, syntax_at, object_class_at, object_class_limit, attribute_width, class_width}
use Rattle.schema.specs.LayoutLaws.{common_narrow, narrow_row}
use Rattle.schema.specs.ObjectClasses.{first_object_class}
use Rattle.schema.specs.ObjectClassesLaws.{first_short}
use Rattle.schema.specs.Row.{is_defunct}
use Rattle.schema.specs.AttributeRow.{syntax_of, object_class_length}
use Rattle.rows_format.specs.declared.column.Column.{Column}
use Rattle.rows_format.specs.declared.format.Format.TheVariants.{Row, NewRow}
use Rattle.rows_format.specs.Columns.{column_width, cell_at, well_formed_by, laid}
use Rattle.rows_format.proofs.ColumnsLaws.{laid_cons, laid_le}
use Rattle.rows_format.specs.Formats.{own_columns, columns_of, format_width}
use Rattle.rows_format.proofs.FormatsLaws.{format_laid}
use Rattle.rows_read.specs.ObjectClass.{object_class_width, is_object, object_class_cell, settled, is_settled, finished, finished_row}
use Rattle.rows_read.specs.ObjectClassLaws.{cell_long}
use Rattle.rows_read.specs.WellFormed.{well_formed, is_finished}
use Rattle.rows_read.specs.RoundTripLaws.{added_row_formed}
use Rattle.rows_read.specs.FormedLaws.{added_unmarked}
use Rattle.change_read.specs.declared.read.Change.TheVariants.{Add}
use Rattle.change_read.specs.Reading.{format_of, scratch}
use Rattle.change_read.specs.Carried.{added_row}
use Rattle.change_read.specs.ChangeLaws.{Reads, Fields, change_parts, change_fields, change_length, scratch_length}

-- ---- the front of a longer row

front_formed : (columns : List Column) (o n : ℕ) (row : List ℕ) → laid columns o n ≡ true → well_formed_by columns (part 0 n row) ≡ well_formed_by columns row
unfolding well_formed_by cell_at
front_formed [] o n row h = refl
front_formed (r ∷ rs) o n row h =
    let l = laid_cons r rs o n h in
    let none : 0 + r.at ≡ r.at = omega arith in
    let within : r.at + column_width r ≤ n = omega (arith, l.place, laid_le rs (o + column_width r) n l.rest) in
    let cell : part r.at (column_width r) (part 0 n row) ≡ part r.at (column_width r) row =
    part_part 0 n row r.at (column_width r) within ∙ ap (λ (k : ℕ). part k (column_width r) row) none in
    rw (cell, front_formed rs (o + column_width r) n row l.rest)

front_finished : (t : TableId) (row : List ℕ) → is_finished t (added_row t row) ≡ is_finished t row
unfolding is_finished is_settled
front_finished Attributes row =
    rw (
      part_at 0 attribute_width row om_syntax_at (omega arith),
      part_at 0 attribute_width row syntax_at (omega arith),
      part_at 0 attribute_width row
          object_class_at (omega arith),
    )
front_finished Classes row = refl

front_row : (t : TableId) (row : List ℕ) → well_formed t row ≡ true → well_formed t (added_row t row) ≡ true
unfolding well_formed format_width
front_row t row f = ap₂ (λ (a b : Bool). a && b) (front_formed (columns_of (Row t)) 0 (format_width (Row t)) row (format_laid (Row t)))
    (front_finished t row) ∙ f

-- ---- 05 is not there: its byte is zero, and finishing leaves it

zero_byte : (at : ℕ) (row : List ℕ) → is_zero (part at 1 row) ≡ true → get_or row at 0 ≡ 0
zero_byte at row z =
    let none : at + 0 ≡ at = omega arith in
    ap (λ (k : ℕ). get_or row k 0) (sym none) ∙ sym (part_at at 1 row 0 (omega arith)) ∙ ap (λ (x : List ℕ). get_or x 0 0) ((says_zero (part at 1 row)).holds z)
    ∙ zeros_at (length (part at 1 row)) 0

never_defunct_lem : (t : TableId) (row : List ℕ) → well_formed_by (columns_of (NewRow t)) row ≡ true → get_or row defunct_at 0 ≡ 0
unfolding columns_of
never_defunct_lem t row f = zero_byte defunct_at row (added_unmarked row (own_columns t) f)

settled_defunct : (row : List ℕ) → object_class_at + object_class_width ≤ length row → get_or (settled row) defunct_at 0 ≡ get_or row defunct_at 0
unfolding settled
settled_defunct row h = go (is_object row) (eqb (object_class_length row) 0)
  where
    put : (v : List ℕ) → length v ≤ object_class_limit → get_or (splice object_class_at (object_class_cell v) row) defunct_at 0 ≡ get_or row defunct_at 0
    put v l = splice_at_before object_class_at (object_class_cell v) row (omega (arith, h, cell_long v l)) defunct_at (omega arith)

    go : (b z : Bool)
        → get_or (cond b (cond z (splice object_class_at (object_class_cell (first_object_class (syntax_of row))) row) row)
        (splice object_class_at (object_class_cell []) row)) defunct_at 0
        ≡ get_or row defunct_at 0
    go true true = put (first_object_class (syntax_of row)) (first_short (syntax_of row))
    go true false = refl
    go false z = put [] (omega arith)

finished_defunct : (t : TableId) (row : List ℕ) → row_width t ≤ length row → get_or (finished_row t row) defunct_at 0 ≡ get_or row defunct_at 0
unfolding finished_row
finished_defunct Attributes row h = settled_defunct row (omega arith)
finished_defunct Classes row h = refl

-- ---- an addition

pub record Added (t : TableId) (row : List ℕ) : Type 0 where
  pub wide : length row ≡ row_width t
  pub formed : well_formed t row ≡ true
  pub active : is_defunct row ≡ false

-- active, as its front tells
front_active : (t : TableId) (row : List ℕ) → get_or row defunct_at 0 ≡ 0 → is_defunct (added_row t row) ≡ false
front_active t row z =
    let within : defunct_at < row_width t = omega (arith, common_narrow t) in
    says_false (says_eq (get_or (added_row t row) defunct_at 0) 1) (λ q. omega (arith, z, q, part_at 0 (row_width t) row defunct_at within))

pub row_added : (t : TableId) (s new : List ℕ) → Bytes s → Reads s (Add t) new → Added t (added_row t new)
unfolding format_of finished
row_added t s new bytes e =
    let p = change_parts s (Add t) new e in
    let f : Fields (NewRow t) s new = change_fields s (Add t) new bytes e in
    let long : length new ≡ class_width = change_length s (Add t) new bytes e in
    let fits = narrow_row t in
    let byte : get_or new defunct_at 0 ≡ 0 =
    ap (λ (x : List ℕ). get_or x defunct_at 0) f.is ∙ finished_defunct t f.raw (omega (arith, f.long)) ∙ never_defunct_lem t f.raw f.formed in
    record {
      wide = part_length 0 (row_width t) new (omega arith);
      formed = front_row t new (added_row_formed t s p.start (length s) scratch new bytes (omega arith) (omega (arith, scratch_length)) p.read);
      active = front_active t new byte;
    }
