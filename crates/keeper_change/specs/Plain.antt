-- Plain change, the whole check. Document 01: "audit, apply, judge the whole result. Done, only that change is made and the stores are in order."
use Rattle.std.specs.Prelude.{eqb, ℕ, List, cond, ◌≡◌, Err}
use Rattle.change_read.specs.ChangeRead.{Read, Bad}
use Rattle.change_read.specs.ChangeRead.{ChangeRead}
use Rattle.change_read.specs.Reading.{read_change}
use Rattle.change_read.specs.declared.read.Change.{Change}
use Rattle.schema.specs.declared.answer.Answer.{Answer}
use Rattle.schema.specs.Store.{Result, Stores, schema_of, result_of}
use Rattle.schema.specs.Answers.{passed}
use Rattle.change_model.specs.Model.{answer_to}
use Rattle.schema.specs.Answering.{first_answer}
use Rattle.keeper.specs.Order.{order_answers}
use Rattle.keeper_change.specs.Made.{Allowed, WasRead, rows_made, refreshed}
use Rattle.schema.specs.Refusals as refusal

-- "The smallest number whose condition holds", the first in the order of judging: 1, 2, 3, then 4, then those of the model
unfoldable pub plain_answer : ChangeRead → List ℕ → Stores → Answer
plain_answer read r s = first_answer (order_answers s) (answer_to read r (schema_of s))

-- the stores after what reading a change came to, if it is done
unfoldable pub plain_made : ChangeRead → List ℕ → Stores → Stores
plain_made (Err bad) r s = s
plain_made (Read change) r s = refreshed (rows_made change r s)

-- "Refused changes .. alter nothing"
unfoldable pub plain_read : ChangeRead → List ℕ → Stores → Result
plain_read read r s =
    result_of (plain_answer read r s) (cond (eqb (plain_answer read r s).number refusal.done) (plain_made read r s) s)

unfoldable pub plain_change : List ℕ → Stores → Result
plain_change x s = plain_read (read_change x).answer (read_change x).row s

-- ---- what the code knows on its way

-- a change that was read from bytes, and stores in order
pub record InOrderFor (change : Change) (r : List ℕ) (s : Stores) : Type 0 where
  pub read : WasRead change r
  pub order : first_answer (order_answers s) passed ≡ passed

-- and that numbers 5 to 11 let it pass
pub record Judged (change : Change) (r : List ℕ) (s : Stores) : Type 0 where
  pub allowed : Allowed change r s
  pub order : first_answer (order_answers s) passed ≡ passed
