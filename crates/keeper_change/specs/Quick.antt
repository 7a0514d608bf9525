-- Quick change. Document 01: "the same, but of the audit only shape. It judges rules 12 to 29 for the changed row alone, against all rows." And: "On
-- stores not in order, the quick call still has one fixed answer."
use Rattle.std.specs.Prelude.{eqb, ℕ, Bool, cond, List, [], ◌++◌, ◌∷◌}
use Rattle.prelude.specs.First.{◌when◌, first_of}
use Rattle.schema.specs.declared.answer.Answer.{Answer}
use Rattle.schema.specs.Store.{Result, Schema, Stores, result_of, schema_of, stores}
use Rattle.graph.specs.Graph.{demanded_set}
use Rattle.change_read.specs.declared.read.Change.{Change}
use Rattle.std.specs.Prelude.{Err}
use Rattle.change_read.specs.ChangeRead.{ChangeRead, Read}
use Rattle.change_read.specs.Carried.{target_of}
use Rattle.change_read.specs.Reading.{change_answer, read_change}
use Rattle.change_rows.specs.Rows.{schema_after}
use Rattle.change_asked.specs.Asked.{asked_cases}
use Rattle.change_model.specs.Model.{answer_by, changed_cases}
use Rattle.closure_change.specs.After.{closure_after, demand_changes}
use Rattle.schema.specs.Answering.{first_answer}
use Rattle.keeper.specs.InShape.{InShape, shape_answers}
use Rattle.keeper_change.specs.Made.{WasRead, rows_made}
use Rattle.schema.specs.Refusals as refusal

-- 30, by the closure as it stands
abbrev pub quick_differs : Change → List ℕ → Schema → List ℕ → Bool
quick_differs change r m closure =
    demand_changes change r (schema_after change r m).classes (demanded_set m.classes (target_of r)) closure

-- the numbers from 5 on
unfoldable pub quick_number : Change → List ℕ → Schema → List ℕ → ℕ
quick_number change r m closure =
    first_of (asked_cases change r m ++ (changed_cases change r m ++ ((refusal.mandatory_differs when quick_differs change r m closure) ∷ [])))

-- 4, or those
abbrev pub quick_to : ChangeRead → List ℕ → Stores → Answer
quick_to (Err bad) r s = change_answer (Err bad)
quick_to (Read change) r s = answer_by change r (schema_of s) (quick_number change r (schema_of s) s.closure)

-- 1 and 2 before them
unfoldable pub quick_answer : ChangeRead → List ℕ → Stores → Answer
quick_answer read r s = first_answer (shape_answers s) (quick_to read r s)

-- the stores after what reading a change came to, if it is done
abbrev pub quick_made : ChangeRead → List ℕ → Stores → Stores
quick_made (Err bad) r s = s
quick_made (Read change) r s =
    stores (rows_made change r s).attributes (rows_made change r s).classes
    (closure_after change r (schema_after change r (schema_of s)).classes (schema_of s).classes.count s.closure)

-- "Refused changes .. alter nothing"
unfoldable pub quick_read : ChangeRead → List ℕ → Stores → Result
quick_read read r s = result_of (quick_answer read r s) (cond (eqb (quick_answer read r s).number refusal.done) (quick_made read r s) s)

unfoldable pub quick_change : List ℕ → Stores → Result
quick_change x s = quick_read (read_change x).answer (read_change x).row s

-- ---- what the code knows on its way

-- a change that was read from bytes, and stores in shape
pub record InShapeFor (change : Change) (r : List ℕ) (s : Stores) : Type 0 where
  pub read : WasRead change r
  pub shape : InShape s
