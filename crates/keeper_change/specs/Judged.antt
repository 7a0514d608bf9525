-- The judgements of a result, as the changes make them.
use Rattle.std.specs.Prelude.{◌≡◌, ℕ, ◌<◌, List, [], ◌++◌, ◌∷◌}
use Rattle.schema.specs.Numbers.{number_of, table_of}
use Rattle.closure_change.specs.After.{demand_changes, Updatable}
use Rattle.tables.specs.Shaped.{Shaped}
use Rattle.schema.specs.declared.number.RowId.{RowId}
use Rattle.schema.specs.declared.number.TableId.{TableId}
use Rattle.change_read.specs.declared.read.Change.{Change}
use Rattle.schema.specs.Store.{Schema, table, schema_in}
use Rattle.rules.specs.declared.row.Added.{Added}
use Rattle.rules.specs.Judge.{broken_cases}
use Rattle.rules.specs.Rules.{schema_rules, row_cases}
use Rattle.prelude.specs.First.{◌when◌, first_of}
use Rattle.graph.specs.Graph.{demands_differ}
use Rattle.schema.specs.Refusals as refusal

-- of the plain change: rules 12 to 29 over all rows, then 30 by the kept sets of the first n classes; so many there were before
unfoldable pub judged_whole : Added → Schema → List ℕ → ℕ → ℕ
judged_whole added m closure n =
    first_of (broken_cases (schema_rules added) m ++ ((refusal.mandatory_differs when demands_differ m.classes closure n) ∷ []))

-- of the quick change: rules 12 to 29 of row k of table t, then 30 by what was kept of the rows before
unfoldable pub judged_row : Added → Change → List ℕ → Schema → TableId → ℕ → List ℕ → List ℕ → ℕ
judged_row added change r m t k before closure =
    first_of (row_cases (schema_rules added) m t k ++ ((refusal.mandatory_differs when demand_changes change r m.classes before closure) ∷ []))

-- that row is there, and where it breaks no rule the closure can be asked
pub record RowThere (added : Added) (change : Change) (r a c closure : List ℕ) (id : RowId) : Type 0 where
  pub shaped : Shaped a c
  pub there : number_of id < (table (table_of id) (schema_in a c)).count
  pub kept : first_of (row_cases (schema_rules added) (schema_in a c) (table_of id) (number_of id)) ≡ refusal.done → Updatable change r c closure
