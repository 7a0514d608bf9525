-- A written row is short, whatever its bytes are: a value has at most sixteen bytes for each byte of its cell, or two.
use Rattle.std.specs.Prelude.{◌≡◌, Bool, true, false, ◌⊎◌, List, [], ◌∷◌, ℕ, ◌+◌, ◌*◌, ◌≤◌, ◌<◌, length, drop}
use Rattle.std.proofs.Common.{ap, inl, inr, arith, length-append, length-drop}
use Rattle.rows_format.specs.EncodingsLaws.{stored_bound}
use Rattle.prelude.specs.Part.{part}
use Rattle.prelude.specs.PartLaws.{part_short}
use Rattle.prelude.specs.SaysLaws.{true_or_false}
use Rattle.wire.specs.WireLaws.{field_length}
use Rattle.rows_format.specs.declared.column.Column.{Column}
use Rattle.schema.specs.declared.number.TableId.TheVariants.{Attributes, Classes}
use Rattle.rows_format.specs.declared.format.Format.{Format}
use Rattle.rows_format.specs.declared.format.Format.TheVariants.{Row, NewRow, Range, Name, Target, Entry}
use Rattle.rows_format.specs.Columns.{mark, column_width, cell_at, has_value, value_of, field_of, write_by, laid}
use Rattle.rows_format.proofs.ColumnsLaws.{field_none, field_some, laid_cons, laid_le}
use Rattle.rows_format.specs.Formats.{columns_of, format_width}
use Rattle.rows_format.proofs.FormatsLaws.{format_laid, format_few}

value_bound : (r : Column) (row : List ℕ) → length (value_of r (cell_at r row)) ≤ 2 + 16 * column_width r
unfolding value_of cell_at
value_bound r row =
    let cell : List ℕ = part r.at (column_width r) row in
    omega (
      arith,
      stored_bound r.encoding (drop (mark r.presence) cell),
      length-drop (mark r.presence) cell,
      (part_short r.at
          (column_width r) row).0,
    )

pub field_bound : (r : Column) (row : List ℕ) → length (field_of r row) ≤ 5 + 16 * column_width r
field_bound r row = go (true_or_false has)
  where
    has : Bool
    has = has_value r.presence (cell_at r row)

    go : (has ≡ true) ⊎ (has ≡ false) → length (field_of r row) ≤ 5 + 16 * column_width r
    go (inl q) = omega (arith, ap length (field_some r row q), field_length r.tag (value_of r (cell_at r row)), value_bound r row)
    go (inr q) = omega (arith, ap length (field_none r row q))

table_bound : (columns : List Column) (row : List ℕ) (o n : ℕ) → laid columns o n ≡ true → length (write_by columns row) + 16 * o ≤ 5 * length columns + 16 * n
unfolding write_by
table_bound [] row o n h = omega (arith, laid_le [] o n h)
table_bound (r ∷ rs) row o n h =
    let t = table_bound rs row (o + column_width r) n (laid_cons r rs o n h).rest in
    omega (arith, length-append (field_of r row) (write_by rs row), field_bound r row)

format_narrow : (format : Format) → format_width format ≤ 1000
unfolding format_width
format_narrow (Row Attributes) = omega arith
format_narrow (Row Classes) = omega arith
format_narrow (NewRow Attributes) = omega arith
format_narrow (NewRow Classes) = omega arith
format_narrow Range = omega arith
format_narrow Name = omega arith
format_narrow Target = omega arith
format_narrow Entry = omega arith

pub written_short : (format : Format) (row : List ℕ) → length (write_by (columns_of format) row) < 65536
written_short format row = omega (
  arith,
  table_bound (columns_of format) row 0 (format_width format) (format_laid format),
  format_few format,
  format_narrow format,
)
