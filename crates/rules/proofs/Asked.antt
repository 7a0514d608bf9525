-- A row that is asked for by its number, which says its table.
use mathlib.Core.Path.{◌≡◌}
use Prim.Native.Nat.{ℕ, ◌<◌}
use Rattle.schema.specs.declared.number.TableId.{TableId}
use Rattle.schema.specs.declared.number.RowId.{RowId}
use Rattle.schema.specs.Numbers.{row_id, table_of, number_of}
use Rattle.schema.specs.NumbersLaws.{id_table, id_number}
use Rattle.schema.specs.Answers.{broken_by}
use Rattle.schema.specs.Store.{Schema, table}
use Rattle.rules.specs.declared.row.Added.{Added}
use Rattle.rules.specs.Rules.{breaks}

module _ (t : TableId) (k : ℕ) {i : RowId} (is : i ≡ row_id t k) where
  pub breaks_at : (added : Added) (m : Schema) (number : ℕ) → breaks added m number (table_of i) (number_of i) ≡ breaks added m number t k
  breaks_at added m number = rw (is, id_table t k, id_number t k)

  pub row_there : (m : Schema) → k < (table t m).count → number_of i < (table (table_of i) m).count
  row_there m l = rw (is, id_table t k, id_number t k) l

  pub broken_at : (number : ℕ) → broken_by number (table_of i) (number_of i) ≡ broken_by number t k
  broken_at number = rw (is, id_table t k, id_number t k)
