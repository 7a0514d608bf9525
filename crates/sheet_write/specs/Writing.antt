-- Writing a whole sheet. Document 01: "Sheet: field 01 holding 01, attribute rows 20, class rows 30, whose values are fields in rising tag order, each once".
use Rattle.std.specs.Prelude.{true, List, [], ◌∷◌, ◌++◌, ◌≡◌, ℕ, ◌≤◌, ◌<◌, length}
use Rattle.sheet_read.specs.Stopping.{row_tag}
use Rattle.prelude.specs.Concat.{concat_below}
use Rattle.wire.specs.Wire.{field_bytes}
use Rattle.schema.specs.declared.number.TableId.{TableId}
use Rattle.schema.specs.declared.number.TableId.TheVariants.{Attributes, Classes}
use Rattle.schema.specs.Numbers.{limit}
use Rattle.schema.specs.Layout.{row_width, store_length}
use Rattle.schema.specs.Store.{Table, Schema, table_in}
use Rattle.rows_format.specs.declared.format.Format.TheVariants.{Row}
use Rattle.rows_format.specs.Columns.{write_by}
use Rattle.rows_format.specs.Formats.{columns_of}
use Rattle.rows_read.specs.WellFormed.{well_formed}

-- ---- the bytes

-- "field 01 holding 01"
unfoldable pub heading : List ℕ
heading = field_bytes 1 (1 ∷ [])

-- the field of one row
unfoldable pub row_field : TableId → List ℕ → List ℕ
row_field t row = field_bytes (row_tag t) (write_by (columns_of (Row t)) row)

-- the rows of one table, in the order of their numbers
unfoldable pub row_fields : TableId → Table → List ℕ
row_fields t rows = concat_below rows.count (λ k. row_field t (rows.row k))

unfoldable pub sheet_bytes : Schema → List ℕ
sheet_bytes m = heading ++ (row_fields Attributes m.attributes ++ row_fields Classes m.classes)

-- ---- what the code asks

-- a row of its width that the reader could have stored
pub record WritableRow (t : TableId) (row : List ℕ) : Type 0 where
  pub wide : length row ≡ row_width t
  pub formed : well_formed t row ≡ true

-- a store of its length, with its count within the limit, and every row that is counted well-formed
pub record Writable (t : TableId) (s : List ℕ) : Type 0 where
  pub long : store_length t ≤ length s
  pub few : (table_in t s).count ≤ limit t
  pub rows : (k : ℕ) → k < (table_in t s).count → well_formed t ((table_in t s).row k) ≡ true
