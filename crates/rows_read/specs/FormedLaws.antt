-- What a well-formed row has: its counts and numbers are within their limits. An added row is one of the table.
use Rattle.std.specs.Prelude.{true, false, List, ◌++◌, ◌⊎◌, ◌≡◌, refl, ℕ, ◌+◌, ◌≤◌, eqb, length, get_or}
use Rattle.std.proofs.Common.{inl, inr, ap, ◌∙◌, add-zero, arith}
use Rattle.prelude.specs.SaysLaws.{says_eq, says_false, true_or_false}
use Rattle.prelude.specs.Part.{part, is_zero}
use Rattle.prelude.specs.PartLaws.{part_at, part_length, zero_zeros, zeros_at}
use Rattle.schema.specs.Layout.{name_limit, arc_limit, object_class_limit, name_at, identifier_at, defunct_at, object_class_at, row_width}
use Rattle.schema.specs.Row.{name_length, arc_count}
use Rattle.schema.specs.AttributeRow.{object_class_length}
use Rattle.schema.specs.declared.number.TableId.TheVariants.{Attributes, Classes}
use Rattle.schema.specs.declared.number.TableId.{TableId}
use Rattle.tables.specs.Shaped.{Bounded}
use Rattle.rows_format.specs.declared.column.Column.{Column}
use Rattle.rows_format.specs.declared.column.Encoding.TheVariants.{Counted, Arcs}
use Rattle.rows_format.specs.declared.column.Presence.TheVariants.{Optional}
use Rattle.rows_format.specs.Encodings.{room}
use Rattle.rows_format.specs.EncodingsLaws.{says_holds}
use Rattle.rows_format.specs.Columns.{mark, column_width, cell_at, has_value, well_formed_cell, well_formed_by}
use Rattle.rows_format.proofs.ColumnsLaws.{formed_cons, formed_both, formed_at}
use Rattle.rows_format.specs.Formats.{column, may_be_defunct, never_defunct, common_columns, attribute_columns, columns_of, no_column, own_columns}
use Rattle.rows_format.specs.declared.format.Format.TheVariants.{NewRow, Row}
use Rattle.rows_read.specs.ObjectClass.{object_class_width}
use Rattle.rows_read.specs.WellFormedLaws.{formed_parts}
use Rattle.rows_read.specs.WellFormed.{well_formed}

-- ---- limits

-- what every well-formed row has
common_limits : (row : List ℕ) (rest : List Column) (defunct : Column) → well_formed_by (common_columns defunct ++ rest) row ≡ true
    → (name_length row ≤ name_limit) × (arc_count row ≤ arc_limit)
unfolding common_columns cell_at column_width mark room well_formed_cell has_value
common_limits row rest defunct f =
    let a = formed_cons _ _ row f in
    let b = formed_cons _ _ row a.1 in
    let name = (says_holds (Counted 0 name_limit) (part name_at 65 row)).holds a.0 in
    let arcs = (says_holds (Arcs arc_limit) (part identifier_at 65 row)).holds b.0 in
    (omega (arith, name.1.0, part_at name_at 65 row 0 (omega arith)), omega (arith, arcs.0, part_at identifier_at 65 row 0 (omega arith)))

-- an optional count is within its limit, or 0
counted_within : (at : ℕ) (row : List ℕ) → well_formed_cell (column Optional 8 (Counted 1 object_class_limit) at) (part at object_class_width row) ≡ true
    → at + object_class_width ≤ length row → get_or row at 0 ≤ object_class_limit
unfolding well_formed_cell has_value mark
counted_within at row f fits = go (true_or_false (is_zero cell))
  where
    cell : List ℕ
    cell = part at object_class_width row

    first : get_or cell 0 0 ≡ get_or row at 0
    first = part_at at object_class_width row 0 (omega arith) ∙ ap (λ (n : ℕ). get_or row n 0) (add-zero at)

    go : (is_zero cell ≡ true) ⊎ (is_zero cell ≡ false) → get_or row at 0 ≤ object_class_limit
    go (inl q) = omega (
      arith,
      first,
      ap (λ (x : List ℕ). get_or x 0 0) (zero_zeros object_class_width cell (part_length at object_class_width row fits) q),
      zeros_at object_class_width 0,
    )
    go (inr q) = omega (arith, first, ((says_holds (Counted 1 object_class_limit) cell).holds (rw q at f)).1.0)

eighth : (row : List ℕ) → well_formed_by (columns_of (Row Attributes)) row ≡ true
    → well_formed_cell (column Optional 8 (Counted 1 object_class_limit) object_class_at) (part object_class_at object_class_width row) ≡ true
unfolding columns_of own_columns common_columns attribute_columns cell_at column_width mark room
eighth row f = formed_at (columns_of (Row Attributes)) no_column row 7 f (omega arith)

object_class_within : (t : TableId) (row : List ℕ) → row_width t ≤ length row → well_formed_by (columns_of (Row t)) row ≡ true → t ≡ Attributes
    → object_class_length row ≤ object_class_limit
object_class_within Attributes row fits f e = counted_within object_class_at row (eighth row f) (omega arith)
object_class_within Classes row fits f e = let no : ◌≡◌ {A = ℕ} 0 1 = cc in absurd (omega arith)

-- the parts that a well-formed row bounds itself lie within it
pub formed_bounded : (t : TableId) (row : List ℕ) → row_width t ≤ length row → well_formed t row ≡ true → Bounded t row
formed_bounded t row fits f =
    let p = (formed_parts t row f).0 in
    let c = common_limits row (own_columns t) may_be_defunct (unfold columns_of in p) in
    record { name = c.0; arcs = c.1; object_class = object_class_within t row fits p }

-- ---- an added row is one of the table: 05 is not there, and its cell is zero

never_marked : (cell : List ℕ) → well_formed_cell never_defunct cell ≡ true → (well_formed_cell may_be_defunct cell ≡ true) × (is_zero cell ≡ true)
unfolding well_formed_cell has_value
never_marked cell f =
    let z : eqb (get_or cell 0 0) 1 ≡ false = says_false (says_eq (get_or cell 0 0) 1)
    (λ e. omega (arith, ap (λ (x : List ℕ). get_or x 0 0) (zero_zeros (length cell) cell refl f), zeros_at (length cell) 0)) in
    (rw z f, f)

added_formed : (row : List ℕ) (rest : List Column) → well_formed_by (common_columns never_defunct ++ rest) row ≡ true
    → well_formed_by (common_columns may_be_defunct ++ rest) row ≡ true
unfolding common_columns cell_at column_width mark room
added_formed row rest f =
    let a = formed_cons _ _ row f in
    let b = formed_cons _ _ row a.1 in
    let c = formed_cons _ _ row b.1 in
    let d = formed_cons _ _ row c.1 in
    let e = formed_cons never_defunct rest row d.1 in
    formed_both _ _ row a.0
    (formed_both _ _ row b.0
    (formed_both _ _ row c.0
    (formed_both _ _ row d.0 (formed_both may_be_defunct rest row (never_marked (part defunct_at 1 row) e.0).0 e.1))))

pub added_unmarked : (row : List ℕ) (rest : List Column) → well_formed_by (common_columns never_defunct ++ rest) row ≡ true → is_zero (part defunct_at 1 row) ≡ true
unfolding common_columns cell_at column_width mark room
added_unmarked row rest f =
    let a = formed_cons _ _ row f in
    let b = formed_cons _ _ row a.1 in
    let c = formed_cons _ _ row b.1 in
    let d = formed_cons _ _ row c.1 in
    (never_marked (part defunct_at 1 row) (formed_cons never_defunct rest row d.1).0).1

pub added_row_lem : (t : TableId) (row : List ℕ) → well_formed_by (columns_of (NewRow t)) row ≡ true → well_formed_by (columns_of (Row t)) row ≡ true
unfolding columns_of
added_row_lem t row f = added_formed row (own_columns t) f
