-- The stores after a change was made in its table.
use Rattle.std.specs.Prelude.{length, ℕ, ◌<◌, ◌≤◌, List, ◌≡◌}
use Rattle.change_read.specs.declared.read.Change.{Change}
use Rattle.change_read.specs.ChangeRead.{Read}
use Rattle.change_read.specs.Reading.{read_change, change_out}
use Rattle.change_asked.specs.Asked.{first_asked}
use Rattle.keeper.specs.InShape.{InShape}
use Rattle.schema.specs.Refusals as refusal
use Rattle.schema.specs.Store.{Stores, schema_of, stores, table_store, with_store, count_in, store_of, table_in}
use Rattle.schema.specs.Layout.{class_width, row_width, store_length}
use Rattle.schema.specs.Numbers.{limit, number_of, table_of}
use Rattle.graph.specs.Graph.{closure_rows}
use Rattle.prelude.specs.Part.{Bytes, splice, part, padded}
use Rattle.change_rows.specs.Stores.{store_after, row_changed, restored}
use Rattle.change_rows.specs.Rows.{table_for}
use Rattle.keeper_change.specs.declared.rows.Before.{Before}

-- the row, and the closure as it was
unfoldable pub rows_made : Change → List ℕ → Stores → Stores
rows_made change r s = with_store (table_for change) (store_after change r (table_store (table_for change) s)) s

-- and the closure that the rows give
unfoldable pub refreshed : Stores → Stores
refreshed s = stores s.attributes s.classes (splice 0 (closure_rows (schema_of s).classes) s.closure)

-- ---- what the code knows on its way

-- a change was read from bytes
pub record WasRead (change : Change) (r : List ℕ) : Type 0 where
  pub text : List ℕ
  pub bytes : Bytes text
  pub reads : read_change text ≡ change_out (Read change) r

-- the stores are in shape besides, and numbers 5 to 11 let it pass
pub record Allowed (change : Change) (r : List ℕ) (s : Stores) : Type 0 where
  pub read : WasRead change r
  pub shape : InShape s
  pub asked : first_asked change r (schema_of s) ≡ refusal.done

-- ---- the way back

-- the row that a change is about and the count of its table, as they stand in the table's store
abbrev pub before : Change → List ℕ → List ℕ → Before
before change r s =
    record {
      id = row_changed change r s;
      count = count_in (table_for change) s;
      row = padded class_width ((table_in (table_for change) s).row (number_of (row_changed change r s)));
    }

-- they can be put back
pub record Restorable (b : Before) (a c : List ℕ) : Type 0 where
  pub long : store_length (table_of b.id) ≤ length (store_of (table_of b.id) a c)
  pub within : number_of b.id < limit (table_of b.id)
  pub few : b.count ≤ limit (table_of b.id)
  pub wide : length b.row ≡ class_width

unfoldable pub rows_back : Before → Stores → Stores
rows_back b s =
    with_store (table_of b.id)
    (restored (table_of b.id) (number_of b.id) b.count (part 0 (row_width (table_of b.id)) b.row) (table_store (table_of b.id) s)) s
