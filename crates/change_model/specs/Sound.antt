-- What a quick change starts from, and what it knows when it comes to the closure.
use Rattle.std.specs.Prelude.{length, ◌<◌, ◌≤◌, ℕ, List, ◌≡◌}
use Rattle.schema.specs.declared.number.TableId.{TableId}
use Rattle.schema.specs.Numbers.{class_limit, limit}
use Rattle.schema.specs.Layout.{class_width, closure_length, row_width}
use Rattle.schema.specs.Store.{Schema, closure_at, table}
use Rattle.change_read.specs.declared.read.Change.{Change}
use Rattle.change_asked.specs.Asked.{first_asked}
use Rattle.prelude.specs.First.{first_of}
use Rattle.rules.specs.declared.row.Added.TheVariants.{Nothing}
use Rattle.rules.specs.Judge.{AllKept}
use Rattle.graph.specs.Graph.{closure_row}
use Rattle.change_model.specs.Model.{changed_cases}

-- the first of 12 to 29 that the changed row breaks, or 0
abbrev pub row_number : Change → List ℕ → Schema → ℕ
row_number change r m = first_of (changed_cases change r m)

-- a schema that keeps every rule, with kept sets that are afresh; r is what the change carries
pub record Sound (r : List ℕ) (m : Schema) (closure : List ℕ) : Type 0 where
  pub carried : length r ≡ class_width
  pub wide : (t : TableId) (k : ℕ) → k < limit t → length ((table t m).row k) ≡ row_width t
  pub few : (t : TableId) → (table t m).count ≤ limit t
  pub kept : AllKept Nothing m
  pub long : closure_length ≤ length closure
  pub fresh : (c : ℕ) → c < class_limit → closure_at closure c ≡ closure_row m.classes c

-- besides, neither numbers 5 to 11 nor the rules of the changed row say anything
pub record Passed (change : Change) (r : List ℕ) (m : Schema) (closure : List ℕ) : Type 0 where
  pub sound : Sound r m closure
  pub asked : first_asked change r m ≡ 0
  pub passed : row_number change r m ≡ 0
