-- The rows of a table, field by field, and the sheet as its parts.
use mathlib.Core.Bool.{true}
use mathlib.Core.List.{List, [], ◌∷◌, ◌++◌}
use mathlib.Core.Path.{◌≡◌, refl, ap, ◌∙◌}
use Prim.Native.Nat.{ℕ, ◌+◌, ◌*◌, ◌≤◌, ◌<◌}
use native.Mathlib.Omega.{arith}
use lib.ListN.{length, length-append}
use Rattle.prelude.specs.Part.{splice}
use Rattle.prelude.specs.Concat.{concat_below}
use Rattle.prelude.specs.ConcatLaws.{concat_short}
use Rattle.prelude.specs.Written.{WrittenAt}
use Rattle.prelude.specs.WrittenLaws.{written_length, written_then}
use Rattle.wire.specs.Wire.{header_bytes}
use Rattle.wire.specs.WireLaws.{field_length}
use Rattle.schema.specs.declared.number.TableId.{TableId}
use Rattle.schema.specs.declared.number.TableId.TheVariants.{Attributes, Classes}
use Rattle.schema.specs.Numbers.{limit, attribute_limit}
use Rattle.schema.specs.NumbersLaws.{limit_most}
use Rattle.schema.specs.Store.{Table, Schema, table_in}
use Rattle.schema.specs.StoreLaws.{table_row_length}
use Rattle.rows_format.specs.declared.format.Format.TheVariants.{Row}
use Rattle.rows_format.specs.Columns.{well_formed_by, write_by}
use Rattle.rows_format.specs.Formats.{columns_of, format_width}
use Rattle.rows_format.proofs.ShortLaws.{written_short}
use Rattle.rows_read.specs.WellFormedLaws.{formed_parts}
use Rattle.rows_write.proofs.Writing.{field_put}
use Rattle.sheet_read.specs.Stopping.{row_tag}
use Rattle.sheet_write.specs.Writing.{heading, row_field, row_fields, sheet_bytes, WritableRow, Writable}

-- ---- one row

pub row_field_length : (t : TableId) (row : List ℕ) → length (row_field t row) ≡ 3 + length (write_by (columns_of (Row t)) row)
unfolding row_field
row_field_length t row = field_length (row_tag t) (write_by (columns_of (Row t)) row)

-- what writing its columns asks
pub row_columns : (t : TableId) (row : List ℕ) → WritableRow t row → (format_width (Row t) ≤ length row) × (well_formed_by (columns_of (Row t)) row ≡ true)
unfolding format_width
row_columns t row w = (omega (arith, w.wide), (formed_parts t row w.formed).0)

-- the header written, and then the value
pub row_put : (t : TableId) (at n tag next : ℕ) (row out head whole : List ℕ) → n ≡ length (write_by (columns_of (Row t)) row) → tag ≡ row_tag t
    → at + 3 ≤ length out
    → head ≡ splice at (header_bytes tag n) out → WrittenAt (write_by (columns_of (Row t)) row) (at + 3) next head whole
    → WrittenAt (row_field t row) at next out whole
row_put t at n tag next row out head whole e q h p w = record {
  place = omega (arith, row_field_length t row, w.place);
  bytes = unfold row_field in
      (field_put at (row_tag t) v out head whole h
      (p ∙ ap (λ (k : ℕ). splice at (header_bytes k n) out) q ∙ ap (λ (k : ℕ). splice at (header_bytes (row_tag t) k) out) e) w.bytes);
}
  where
    v : List ℕ
    v = write_by (columns_of (Row t)) row

-- ---- the rows of a table

module _ (t : TableId) (rows : Table) where
  abbrev pub field_of_row : ℕ → List ℕ
  field_of_row k = row_field t (rows.row k)

  pub fields_all : {n : ℕ} → n ≡ rows.count → row_fields t rows ≡ concat_below n field_of_row
  unfolding row_fields
  fields_all e = rw e

  fields_short : (n : ℕ) → length (concat_below n field_of_row) ≤ 65539 * n
  fields_short n = concat_short field_of_row 65539 n (λ k l. omega (arith, row_field_length t (rows.row k), written_short (Row t) (rows.row k)))

  -- the length so far, with the next row's, is no number that wraps
  pub next_short : (k : ℕ) → k < attribute_limit → length (concat_below (k + 1) field_of_row) ≤ 65539 * attribute_limit
  next_short k l = omega (arith, fields_short (k + 1))

  pub all_short : rows.count ≤ limit t → length (row_fields t rows) ≤ 65539 * attribute_limit
  all_short few = omega (arith, fields_short rows.count, ap length (fields_all refl), limit_most t)

-- ---- the rows of a store

pub row_writable : (t : TableId) (s : List ℕ) (k : ℕ) → Writable t s → k < (table_in t s).count → WritableRow t ((table_in t s).row k)
row_writable t s k w l = record { wide = table_row_length t s k w.long (omega (arith, w.few)); formed = w.rows k l }

-- ---- the sheet

pub heading_length : length heading ≡ 4
unfolding heading
heading_length = field_length 1 (1 ∷ [])

module _ (m : Schema) where
  pub sheet_size : length (sheet_bytes m) ≡ 4 + length (row_fields Attributes m.attributes) + length (row_fields Classes m.classes)
  unfolding sheet_bytes
  sheet_size =
      let u : List ℕ = row_fields Attributes m.attributes in
      let v : List ℕ = row_fields Classes m.classes in
      omega (arith, length-append heading (u ++ v), length-append u v, heading_length)

  -- the heading, then the attribute rows, then the class rows
  pub sheet_put : (first next last : ℕ) (o p q r : List ℕ) → length (sheet_bytes m) ≤ length o → WrittenAt heading 0 first o p
      → WrittenAt (row_fields Attributes m.attributes) first next p q → WrittenAt (row_fields Classes m.classes) next last q r → r
      ≡ splice 0 (sheet_bytes m) o
  unfolding sheet_bytes
  sheet_put first next last o p q r h x y z =
      let long : length p ≡ length o = written_length (omega (arith, sheet_size, heading_length)) x in
      (written_then (omega (arith, sheet_size, heading_length)) x (written_then (omega (arith, sheet_size, heading_length, long, x.place)) y z)).bytes
