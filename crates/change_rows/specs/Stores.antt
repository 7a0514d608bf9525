-- The stores of the two tables after a change.
use Rattle.std.specs.Prelude.{length, ℕ, ◌≤◌, ◌<◌, cond, true, false, List, [], ◌≡◌}
use Rattle.schema.specs.Store.{table_in, count_in}
use Rattle.schema.specs.declared.number.RowId.{RowId}
use Rattle.schema.specs.Numbers.{row_id, limit}
use Rattle.schema.specs.Layout.{class_width, store_length}
use Rattle.schema.specs.declared.number.TableId.{TableId}
use Rattle.tables.specs.Filled.{put_in, plus_in, count_bytes}
use Rattle.change_read.specs.declared.read.Change.{Change}
use Rattle.change_read.specs.Carried.{target_of}
use Rattle.change_rows.specs.Rows.{table_for, is_addition, edited_row}
use Rattle.prelude.specs.Part.{splice}

-- the row that it is about, with its table
abbrev pub row_changed : Change → List ℕ → List ℕ → RowId
row_changed change r s = row_id (table_for change) (cond (is_addition change) (count_in (table_for change) s) (target_of r))

-- a change that was read can be made in a store: an added row has room, a target lies within the table
pub record Applicable (change : Change) (r s : List ℕ) : Type 0 where
  pub carried : length r ≡ class_width
  pub long : store_length (table_for change) ≤ length s
  pub room : is_addition change ≡ true → count_in (table_for change) s < limit (table_for change)
  pub within : is_addition change ≡ false → target_of r < limit (table_for change)

-- the store of the table that it is about
unfoldable pub store_after : Change → List ℕ → List ℕ → List ℕ
store_after change r s =
    cond (is_addition change) (plus_in (table_for change) (edited_row change r []) s)
    (put_in (table_for change) (target_of r) (edited_row change r ((table_in (table_for change) s).row (target_of r))) s)

-- row k of a table, and its count, put back as they were
unfoldable pub restored : TableId → ℕ → ℕ → List ℕ → List ℕ → List ℕ
restored t k n row s = splice 0 (count_bytes t n) (put_in t k row s)
