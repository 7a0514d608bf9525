-- How an audit of stores in shape goes on: the first rule broken, else the closure.
use mathlib.Core.Bool.{false, not, true}
use mathlib.Core.Path.{◌≡◌, ap, refl, sym, ◌∙◌}
use native.Mathlib.Omega.{arith}
use Rattle.schema.specs.Answers.{passed, refused}
use Rattle.schema.specs.Answering.{first_answer}
use Rattle.schema.specs.AnsweringLaws.{first_last, found_passed, found_refused, tested_fails, tested_holds}
use Rattle.schema.specs.RefusedLaws.{number_some}
use Rattle.schema.specs.Store.{Stores, schema_of}
use Rattle.graph.specs.Graph.{is_fresh}
use Rattle.rules.specs.declared.row.Added.TheVariants.{Nothing}
use Rattle.rules.specs.Judge.{judged}
use Rattle.keeper.specs.Audit.{audit}
use Rattle.keeper.specs.CheckedLaws.{shape_onward}
use Rattle.keeper.specs.InShape.{shape_answers}
use Rattle.schema.specs.Refusals as refusal

module _ (s : Stores) (shape : passed ≡ first_answer (shape_answers s) passed) where
  -- a rule is broken
  pub broken_ends : ¬ ((judged Nothing (schema_of s)).number ≡ 0) → audit s ≡ judged Nothing (schema_of s)
  unfolding audit
  broken_ends d = shape_onward s shape refl _ _ ∙ sym (found_refused refl _ _ d)

  module _ (sound : (judged Nothing (schema_of s)).number ≡ 0) where
    pub fresh_ends : is_fresh (schema_of s).classes s.closure ≡ true → audit s ≡ passed
    unfolding audit
    fresh_ends e = shape_onward s shape refl _ _ ∙ found_passed refl _ _ sound ∙ tested_fails _ _ _ (ap not e) ∙ first_last _

    pub stale_ends : is_fresh (schema_of s).classes s.closure ≡ false → audit s ≡ refused refusal.not_in_order
    unfolding audit
    stale_ends e = shape_onward s shape refl _ _ ∙ found_passed refl _ _ sound ∙ tested_holds _ _ _ (λ z. omega arith) (ap not e)

-- what the check looks up for audit: no answer names a branch behind the shape, so an edit of one is refused by the promise that it breaks
pub ruleset audit_ends = (broken_ends, fresh_ends, stale_ends, number_some)
