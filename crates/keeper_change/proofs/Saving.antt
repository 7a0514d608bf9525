-- What is saved before a change.
use lib.ListN.{length}
use Prim.Native.Nat.{◌<◌, ◌≤◌, ℕ}
use mathlib.Core.List.{List}
use mathlib.Core.Path.{◌∙◌, ◌≡◌, ap}
use Rattle.change_rows.specs.Stores.{Applicable, row_changed}
use Rattle.change_rows.specs.Rows.{table_for}
use Rattle.keeper_change.specs.declared.rows.Before.{Before}
use Rattle.keeper_change.specs.MadeLaws.{row_table, row_within}
use Rattle.keeper_change.specs.Made.{before}
use Rattle.change_read.specs.declared.read.Change.{Change}
use Rattle.schema.specs.declared.number.RowId.{RowId}
use Rattle.schema.specs.declared.number.TableId.{TableId}
use Rattle.schema.specs.Layout.{class_width, store_length}
use Rattle.schema.specs.Store.{count_in, table_in}
use Rattle.schema.specs.Numbers.{limit, number_of, table_of}
use Rattle.prelude.specs.Part.{padded}

module _ (change : Change) (r s : List ℕ) (ok : Applicable change r s) where
  -- the row can be copied
  pub save_asked : {id : RowId} {x : List ℕ} → id ≡ row_changed change r s → x ≡ s
      → (store_length (table_of id) ≤ length x) × (number_of id < limit (table_of id))
  save_asked e q = rw (e, q, row_table change r s) (ok.long, row_within change r s ok)

  -- and what was saved is what stands there
  pub saved_is : {b : Before} → b.id ≡ row_changed change r s → b.count ≡ count_in (table_for change) s
      → b.row ≡ padded class_width ((table_in (table_of (row_changed change r s)) s).row (number_of (row_changed change r s))) → b ≡ before change r s
  saved_is e n w = λ i. record {
    id = e i;
    count = n i;
    row = (w ∙ ap (λ (t : TableId). padded class_width ((table_in t s).row (number_of (row_changed change r s)))) (row_table change r s)) i;
  }
