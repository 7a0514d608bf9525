-- A well-formed row that is written is read back, whatever stands before and after it and whatever the cells of the row read into held: by one way
-- through the table, for any table whose tags differ. A row may be longer than its cells; what stands behind them stays.
use Rattle.std.specs.Prelude.{Bool, true, false, ◌⊎◌, ◌≡◌, take, drop}
use mathlib.Core.List.{List, [], ◌∷◌, ◌++◌, append_assoc}
use Rattle.std.proofs.Common.{inl, inr, ap₂, ◌∙◌, add-zero, take-append-drop, take-add, eq-eqb}
use Rattle.std.proofs.Math.Path.{refl, sym, ap}
use Prim.Native.Nat.{ℕ, ◌+◌, ◌-◌, ◌≤◌, ◌<◌}
use native.Mathlib.Omega.{arith}
use Rattle.std.proofs.Math.ListN.{length, length-append}
use Rattle.std.proofs.Math.Seq.{take_at, length-take-le}
use Rattle.prelude.specs.SaysLaws.{says_and, says_not, says_eq, says_test, true_or_false}
use Rattle.prelude.specs.Part.{part, splice, Bytes}
use Rattle.prelude.specs.PartLaws.{part_length, part_bytes}
use Rattle.prelude.specs.SpliceLaws.{splice_after, splice_length}
use Rattle.wire.specs.Wire.{field_at, field_bytes}
use Rattle.wire.specs.WireLaws.{field_end, field_length, field_read, value_read_lem}
use Rattle.rows_format.specs.declared.column.Column.{Column}
use Rattle.rows_format.specs.Columns.{column_width, cell_at, has_value, value_of, well_formed_cell, well_formed_by, field_of, write_by, laid}
use Rattle.rows_format.proofs.ColumnsLaws.{Laid, laid_cons, laid_end, laid_le, value_cell, blank_cell, formed_cons, field_none, field_some}
use Rattle.rows_format.proofs.FormatsLaws.{without, distinct}
use Rattle.rows_read.specs.RowRead.{Read}
use Rattle.rows_read.specs.Turn.{Taken, Passed}
use Rattle.rows_read.specs.Reading.{turn_of, took_of, row_of, out, onward, read_by}
use Rattle.rows_read.specs.ReadingLaws.{turn_end, turn_other, turn_taken}

-- ---- cells

-- the cell of a column in a row that is long enough
cell_facts : (r : Column) (rs : List Column) (o n : ℕ) (row : List ℕ) → Laid r rs o n → n ≤ length row → Bytes row
    → (length (cell_at r row) ≡ column_width r) × Bytes (cell_at r row)
unfolding cell_at
cell_facts r rs o n row l fits b = (
  part_length r.at (column_width r) row (omega (arith, l.place, laid_le rs (o + column_width r) n l.rest)),
  part_bytes r.at (column_width r) row b,
)

-- one more cell of the row stored
cell_more : (o w : ℕ) (row st : List ℕ) → o + w ≤ length row → length st ≡ length row → take o st ≡ take o row
    → take (o + w) (splice o (part o w row) st) ≡ take (o + w) row
unfolding splice part
cell_more o w row st h l e =
    let cell : List ℕ = take w (drop o row) in
    let lc : length cell ≡ w = unfold part in part_length o w row h in
    let lt : length (take o st) ≡ o = length-take-le o st (omega arith) in
    let front : length (take o st ++ cell) ≡ o + w = length-append (take o st) cell ∙ omega arith in
    ap (take (o + w)) (sym (append_assoc (take o st) cell (drop (o + length cell) st)))
    ∙ take_at (take o st ++ cell) (drop (o + length cell) st) (o + w) front
    ∙ ap (λ (x : List ℕ). x ++ cell) e ∙ sym (take-add o w row)

cell_state : (at o w : ℕ) (row st : List ℕ) → at ≡ o → o + w ≤ length row → length st ≡ length row → take o st ≡ take o row
    → (length (splice at (part at w row) st) ≡ length row) × (take (o + w) (splice at (part at w row) st) ≡ take (o + w) row)
cell_state at o w row st q h l e = rw q (splice_length o (part o w row) st (omega (arith, part_length o w row h)) ∙ l, cell_more o w row st h l e)

-- ---- a column passes over the fields of the columns after it

abbrev Passes : Column → List ℕ → Type 0
Passes r w = (p q : List ℕ) (end : ℕ) → end ≡ length p + length w → Passed ≡ turn_of (p ++ (w ++ q)) (length p) r (field_at (p ++ (w ++ q)) (length p) end)

passes_nothing : (r : Column) → Passes r []
passes_nothing r p q end e = turn_end (p ++ q) r (length p) end (field_end (p ++ q) (length p) end (omega arith)) refl

passes_field : (r : Column) (tag : ℕ) (v w : List ℕ) → ¬ (tag ≡ r.tag) → length v < 65536 → Passes r (field_bytes tag v ++ w)
passes_field r tag v w d short p q end e =
    let l : length (field_bytes tag v ++ w) ≡ 3 + length v + length w = length-append (field_bytes tag v) w
    ∙ ap (λ (n : ℕ). n + length w) (field_length tag v) in
    rw (append_assoc (field_bytes tag v) w q)
    (turn_other (p ++ (field_bytes tag v ++ (w ++ q))) r (length p) end (sym (field_read p (w ++ q) tag v end short (omega arith))) refl d)

-- tags that differ, apart
pub without_cons : (tag : ℕ) (r : Column) (rs : List Column) → without tag (r ∷ rs) ≡ true → ¬ (r.tag ≡ tag) × (without tag rs ≡ true)
unfolding without
without_cons tag r rs w = (says_and (says_not (says_eq r.tag tag)) (says_test (without tag rs))).holds w

pub distinct_cons : (r : Column) (rs : List Column) → distinct (r ∷ rs) ≡ true → (without r.tag rs ≡ true) × (distinct rs ≡ true)
unfolding distinct
distinct_cons r rs d = (says_and (says_test (without r.tag rs)) (says_test (distinct rs))).holds d

passes_rest : (r : Column) (columns : List Column) (o n : ℕ) (row : List ℕ) → without r.tag columns ≡ true → laid columns o n ≡ true
    → n ≤ length row → Bytes row
    → well_formed_by columns row ≡ true → Passes r (write_by columns row)
unfolding write_by
passes_rest r [] o n row a h fits b f = passes_nothing r
passes_rest r (r' ∷ rs) o n row a h fits b f = go (passes_rest r rs (o + column_width r') n row t.1 l.rest fits b w.1)
    (true_or_false (has_value r'.presence (cell_at r' row)))
  where
    t : ¬ (r'.tag ≡ r.tag) × (without r.tag rs ≡ true)
    t = without_cons r.tag r' rs a

    l : Laid r' rs o n
    l = laid_cons r' rs o n h

    w : (well_formed_cell r' (cell_at r' row) ≡ true) × (well_formed_by rs row ≡ true)
    w = formed_cons r' rs row f

    c : (length (cell_at r' row) ≡ column_width r') × Bytes (cell_at r' row)
    c = cell_facts r' rs o n row l fits b

    has : Bool
    has = has_value r'.presence (cell_at r' row)

    go : Passes r (write_by rs row) → (has ≡ true) ⊎ (has ≡ false) → Passes r (field_of r' row ++ write_by rs row)
    go ih (inl k) = rw (field_some r' row k) (passes_field r r'.tag (value_of r' (cell_at r' row)) (write_by rs row) t.0
        (value_cell r' (cell_at r' row) l.sound c.1 c.0 w.0 k).short)
    go ih (inr k) = rw (field_none r' row k) ih

-- ---- the table

-- a row that holds the cells of another before o, and the same behind n
record Holding (row : List ℕ) (o n : ℕ) (st : List ℕ) : Type 0 where
  long : length st ≡ length row
  front : take o st ≡ take o row
  rest : drop n st ≡ drop n row

abbrev Reads : List Column → List ℕ → List ℕ → ℕ → ℕ → Type 0
Reads columns row w o n = (p q st : List ℕ) → Holding row o n st → read_by (p ++ (w ++ q)) (length p + length w) columns (length p) false st ≡ out Read row

reads_end : (row : List ℕ) (n : ℕ) → Reads [] row [] n n
unfolding read_by
reads_end row n p q st h =
    let same : st ≡ row = sym (take-append-drop n st) ∙ ap₂ (λ (x y : List ℕ). x ++ y) h.front h.rest ∙ take-append-drop n row in
    rw (add-zero (length p), eq-eqb (length p) (length p) refl, same)

module _ (r : Column) (rs : List Column) (o n : ℕ) (row w : List ℕ) (l : Laid r rs o n) (fits : n ≤ length row) (b : Bytes row)
    (f : well_formed_cell r (cell_at r row) ≡ true) where
  c : (length (cell_at r row) ≡ column_width r) × Bytes (cell_at r row)
  c = cell_facts r rs o n row l fits b

  -- the cell stored into a row that holds those before it
  state : (st : List ℕ) → Holding row o n st → Holding row (o + column_width r) n (splice r.at (cell_at r row) st)
  unfolding cell_at
  state st h =
      let inside : o + column_width r ≤ n = laid_le rs (o + column_width r) n l.rest in
      let s = cell_state r.at o (column_width r) row st l.place (omega arith) h.long h.front in
      let wide : length (part r.at (column_width r) row) ≡ column_width r = c.0 in
      record {
        long = s.0;
        front = s.1;
        rest = splice_after r.at (part r.at (column_width r) row) st (omega (arith, l.place, h.long)) n (omega (arith, l.place)) ∙ h.rest;
      }

  reads_absent : has_value r.presence (cell_at r row) ≡ false → Passes r w → Reads rs row w (o + column_width r) n → Reads (r ∷ rs) row w o n
  unfolding read_by onward took_of row_of
  reads_absent h pass ih p q st k =
      let blank = blank_cell r (cell_at r row) c.0 f h in
      rw (← (pass p q (length p + length w) refl), blank.1, ← blank.0) (ih p q (splice r.at (cell_at r row) st) (state st k))

  reads_present : has_value r.presence (cell_at r row) ≡ true → Reads rs row w (o + column_width r) n
      → Reads (r ∷ rs) row (field_bytes r.tag (value_of r (cell_at r row)) ++ w) o n
  unfolding read_by onward took_of row_of
  reads_present h ih p q st k =
      let v : List ℕ = value_of r (cell_at r row) in
      let vc = value_cell r (cell_at r row) l.sound c.1 c.0 f h in
      let field : List ℕ = field_bytes r.tag v in
      let s : List ℕ = p ++ (field ++ (w ++ q)) in
      let lf : length field ≡ 3 + length v = field_length r.tag v in
      let lw : length (field ++ w) ≡ 3 + length v + length w = length-append field w ∙ ap (λ (n : ℕ). n + length w) lf in
      let end : ℕ = length p + length (field ++ w) in
      let span : length p + 3 + length v - (length p + 3) ≡ length v = omega arith in
      let value : part (length p + 3) (length p + 3 + length v - (length p + 3)) s ≡ v = rw span (value_read_lem p (w ++ q) r.tag v) in
      let taken : Taken r.tag (length p + 3) (length p + 3 + length v) ≡ turn_of s (length p) r (field_at s (length p) end) =
      turn_taken s r (length p) end (sym (field_read p (w ++ q) r.tag v end vc.short (omega arith))) refl refl (rw value vc.taken) in
      let longer : length (p ++ field) ≡ length p + 3 + length v = length-append p field ∙ omega arith in
      let ends : end ≡ length (p ++ field) + length w = omega arith in
      let regroup : s ≡ (p ++ field) ++ (w ++ q) = sym (append_assoc p field (w ++ q)) in
      let now : List ℕ = splice r.at (cell_at r row) st in
      let past : ℕ = length (p ++ field) in
      ap (λ (x : List ℕ). read_by (p ++ x) end (r ∷ rs) (length p) false st) (append_assoc field w q)
      ∙ rw (← taken, value, vc.cell_is)
      (ap (λ (e : ℕ). read_by s e rs (length p + 3 + length v) false now) ends
      ∙ ap (λ (a : ℕ). read_by s (past + length w) rs a false now) (sym longer)
      ∙ ap (λ (x : List ℕ). read_by x (past + length w) rs past false now) regroup ∙ ih (p ++ field) q now (state st k))

table_read : (columns : List Column) (o n : ℕ) (row : List ℕ) → laid columns o n ≡ true → distinct columns ≡ true → n ≤ length row → Bytes row
    → well_formed_by columns row ≡ true
    → Reads columns row (write_by columns row) o n
unfolding write_by
table_read [] o n row h d fits b f = rw (laid_end o n h) (reads_end row n)
table_read (r ∷ rs) o n row h d fits b f = go (table_read rs (o + column_width r) n row l.rest t.1 fits b w.1)
    (true_or_false (has_value r.presence (cell_at r row)))
  where
    l : Laid r rs o n
    l = laid_cons r rs o n h

    w : (well_formed_cell r (cell_at r row) ≡ true) × (well_formed_by rs row ≡ true)
    w = formed_cons r rs row f

    t : (without r.tag rs ≡ true) × (distinct rs ≡ true)
    t = distinct_cons r rs d

    has : Bool
    has = has_value r.presence (cell_at r row)

    go : Reads rs row (write_by rs row) (o + column_width r) n → (has ≡ true) ⊎ (has ≡ false) → Reads (r ∷ rs) row (field_of r row ++ write_by rs row) o n
    go ih (inl k) = rw (field_some r row k) (reads_present r rs o n row (write_by rs row) l fits b w.0 k ih)
    go ih (inr k) = rw (field_none r row k)
        (reads_absent r rs o n row (write_by rs row) l fits b w.0 k (passes_rest r rs (o + column_width r) n row t.0 l.rest fits b w.1) ih)

-- the row read into has the same bytes behind the cells
pub write_read : (columns : List Column) (n : ℕ) (row : List ℕ) → laid columns 0 n ≡ true → distinct columns ≡ true → n ≤ length row → Bytes row
    → well_formed_by columns row ≡ true → (p q old : List ℕ) → length old ≡ length row → drop n old ≡ drop n row
    → read_by (p ++ (write_by columns row ++ q)) (length p + length (write_by columns row)) columns (length p) false old ≡ out Read row
write_read columns n row h d fits b f p q old long rest =
    table_read columns 0 n row h d fits b f p q old (record { long = long; front = refl; rest = rest })
