-- What a call knows once its stores were found in order.
use Rattle.std.specs.Prelude.{eqb, ◌≡◌, refl, not, true}
use Rattle.std.proofs.lemmas.Bool.{not-false}
use Rattle.std.proofs.Common.{arith, ◌∙◌, ap, sym}
use Rattle.rules.specs.declared.row.Added.TheVariants.{Nothing}
use Rattle.rules.specs.Judge.{judged}
use Rattle.schema.specs.declared.answer.Answer.{Answer}
use Rattle.schema.specs.Store.{Stores, schema_of}
use Rattle.schema.specs.Answers.{passed, refused}
use Rattle.schema.specs.Answering.{NoneRefuses, first_answer}
use Rattle.keeper.specs.InShape.{InShape}
use Rattle.schema.specs.AnsweringLaws.{if_passed, passed_any, refused_any, zero_iff_pass}
use Rattle.keeper.specs.InShapeLaws.{shape_passed}
use Rattle.keeper.specs.Order.{in_order, order_answers}
use Rattle.graph.specs.Graph.{is_fresh}
use Rattle.prelude.specs.SaysLaws.{says_and, says_eq, says_test}
use Rattle.schema.specs.Refusals as refusal

module _ (s : Stores) {r : Answer} (is : r ≡ first_answer (order_answers s) passed) where
  same_number : (first_answer (order_answers s) passed).number ≡ r.number
  same_number = ap (λ (x : Answer). x.number) (sym is)

  pub order_refused : (last : Answer) → ¬ (r.number ≡ 0) → r ≡ first_answer (order_answers s) last
  order_refused last d = is ∙ refused_any (order_answers s) passed last refl (λ z. d (sym same_number ∙ z))

  module _ (z : r.number ≡ 0) where
    pub order_onward : (last : Answer) → first_answer (order_answers s) last ≡ last
    order_onward last = passed_any (order_answers s) passed last refl (same_number ∙ z)

    none_refused : NoneRefuses (order_answers s)
    none_refused = (zero_iff_pass (order_answers s) passed refl).0 (same_number ∙ z)

    pub order_shape : InShape s
    order_shape = shape_passed s (none_refused.0, (none_refused.1.0, tt))

    in_order_lem : in_order s ≡ true
    in_order_lem = not-false (in_order s) (if_passed (not (in_order s)) (refused refusal.not_in_order) (omega arith) none_refused.1.1.0)

    parts : (eqb (judged Nothing (schema_of s)).number refusal.done ≡ true) × (is_fresh (schema_of s).classes s.closure ≡ true)
    unfolding in_order
    parts = (says_and (says_test (eqb (judged Nothing (schema_of s)).number refusal.done)) (says_test (is_fresh (schema_of s).classes s.closure))).holds
        (unfold in_order in in_order_lem)

    pub order_judged : (judged Nothing (schema_of s)).number ≡ 0
    order_judged = (says_eq (judged Nothing (schema_of s)).number 0).holds parts.0

    pub order_fresh : is_fresh (schema_of s).classes s.closure ≡ true
    order_fresh = parts.1
