-- What a quick change answers on any stores in shape, in order or not, of a change that was read; `quick_answers` (QuickAnswersLaws) is a member of the record.
use Rattle.std.specs.Prelude.{true, List, ◌≡◌, ℕ, ◌≤◌}
use Rattle.schema.specs.Answers.{RowChanged, refused}
use Rattle.schema.specs.Order.{rank}
use Rattle.schema.specs.Store.{LongEnough, Stores, schema_of}
use Rattle.rules.specs.Rules.{breaks}
use Rattle.change_read.specs.declared.read.Change.{Change}
use Rattle.change_rows.specs.Rows.{number_for, schema_after, table_for}
use Rattle.change_model.specs.Conditions.{Condition}
use Rattle.change_model.specs.Model.{added_by}
use Rattle.keeper_change.specs.Quick.{quick_change}
use Rattle.keeper_promises.specs.Promises.{Shape}
use Rattle.keeper_promises.specs.QuickSets.{Carries, Done, Thirty}
use Rattle.schema.specs.Refusals as refusal

-- each number's condition
pub data QuickCondition (change : Change) (r : List ℕ) (s : Stores) : ℕ → Type 0 where
  -- 5 to 11, which come before the rules, are a plain change's
  asked : {n : ℕ} → rank n ≤ rank refusal.still_needed → Condition change r (schema_of s) n → QuickCondition change r s n
  -- "It judges rules 12 to 29 for the changed row alone, against all rows."
  rule : (n : ℕ)
      → breaks (added_by change r (schema_of s).classes.count) (schema_after change r (schema_of s)) n (table_for change) (number_for change r (schema_of s))
      ≡ true
      → QuickCondition change r s n
  -- 30 by the kept sets, or for a removal by the rows
  mandatory_differs : Thirty change r s → QuickCondition change r s refusal.mandatory_differs

module _ (x : List ℕ) (s : Stores) where
  pub record QuickAnswers (change : Change) (r : List ℕ) : Type 0 where
    -- "0 done; table and row changed or added"
    pub done : Done x s → RowChanged (quick_change x s).answer (table_for change) (number_for change r (schema_of s))
    -- "with changes, table and place are 0 on refusal"; the number is one whose condition holds
    pub told : ¬ (Done x s) → (quick_change x s).answer ≡ refused (quick_change x s).answer.number
    pub holds : ¬ (Done x s) → QuickCondition change r s (quick_change x s).answer.number
    -- "The smallest number whose condition holds": the first in the order of judging
    pub least : (n : ℕ) → QuickCondition change r s n → rank (quick_change x s).answer.number ≤ rank n

  abbrev pub AnswersQuickly : Type 0
  AnswersQuickly = LongEnough s → Shape s → (change : Change) (r : List ℕ) → Carries x s change r → QuickAnswers change r
