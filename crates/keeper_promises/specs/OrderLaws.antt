-- Audit's 0 is given exactly where the stores are in order.
use Rattle.std.specs.Prelude.{Bool, false, not, true, List, [], ◌++◌, ◌∷◌, ◌↔◌, ◌≡◌, ◌<◌, ◌≤◌, ℕ}
use Rattle.std.proofs.Common.{⊎_elim, subst, ◌∙◌, arith}
use Rattle.std.proofs.Math.Path.{ap, refl, sym}
use Rattle.std.proofs.lemmas.Bool.{not-false}
use Rattle.prelude.specs.SaysLaws.{says_false, says_true}
use Rattle.schema.specs.declared.answer.Answer.{Answer}
use Rattle.schema.specs.Answers.{passed, refused}
use Rattle.schema.specs.Store.{LongEnough, Stores, schema_of}
use Rattle.schema.specs.Order.{rank}
use Rattle.schema.specs.StoreLaws.{says_short}
use Rattle.graph.specs.Graph.{is_fresh}
use Rattle.graph.proofs.FreshLaws.{says_fresh}
use Rattle.rules.specs.declared.row.Added.TheVariants.{Nothing}
use Rattle.rules.specs.Rules.{schema_rules}
use Rattle.rules.specs.Judge.{FirstBroken, judged}
use Rattle.rules.proofs.JudgeLaws.{judged_first, judged_zero}
use Rattle.rules.specs.Meets.{Meets, Met, RuleName, rule_number}
use Rattle.rules.proofs.MeetsLaws.{meets, judged_before}
use Rattle.tables_shape.proofs.ShapeLaws.{says_formed}
use Rattle.schema.specs.Answering.{NoneRefuses, first_answer, refused_if}
use Rattle.keeper.specs.InShape.{InShape, shape_answers}
use Rattle.schema.specs.AnsweringLaws.{append_passed, append_refused, first_passed, first_refused, if_fails, if_holds, if_passed, passed_last, zero_iff_pass}
use Rattle.keeper.specs.InShapeLaws.{broken_stores}
use Rattle.keeper.specs.InShapeLaws.{not_short, passed_shape, shape_passed, short_stores}
use Rattle.keeper.specs.Audit.{audit}
use Rattle.keeper_promises.specs.Promises.{Fresh, InOrder, Shape, SomeShort}
use Rattle.schema.specs.Refusals as refusal

-- the judge's 0, and that every rule is met
pub judged_meets : (s : Stores) → (judged Nothing (schema_of s)).number ≡ 0 → Meets Nothing (schema_of s)
judged_meets s z = (meets Nothing (schema_of s)).0 ((judged_zero Nothing (schema_of s)).0 z)

pub meets_judged : (s : Stores) → Meets Nothing (schema_of s) → (judged Nothing (schema_of s)).number ≡ 0
meets_judged s h = (judged_zero Nothing (schema_of s)).1 ((meets Nothing (schema_of s)).1 h)

module _ (s : Stores) where
  abbrev verdict : Answer
  verdict = judged Nothing (schema_of s)

  abbrev fresh : Bool
  fresh = is_fresh (schema_of s).classes s.closure

  -- what an audit asks once the stores are in shape
  abbrev deeper : List Answer
  deeper = verdict ∷ refused_if refusal.not_in_order (not fresh) ∷ []

  pub has_shape : LongEnough s → Shape s → InShape s
  has_shape h f = record { long = h; formed = (says_formed s.attributes s.classes h.attributes h.classes).passes f }

  pub order_shape : InOrder s → InShape s
  order_shape h = has_shape h.long h.shape

  pub order_fresh : InOrder s → is_fresh (schema_of s).classes s.closure ≡ true
  order_fresh h = (says_fresh (schema_of s).classes s.closure).passes h.fresh

  order_passes : InOrder s → NoneRefuses (shape_answers s ++ deeper)
  order_passes h =
      let p = passed_shape s (order_shape h) in
      (p.0, (p.1.0, (meets_judged s h.rules, (ap (λ (x : Answer). x.number) (if_fails _ (refused refusal.not_in_order) (ap not (order_fresh h))), tt))))

  passes_order : NoneRefuses (shape_answers s ++ deeper) → InOrder s
  passes_order h =
      let i = shape_passed s (h.0, (h.1.0, tt)) in
      let rest = h.1.1 in
      record {
        long = i.long;
        shape = (says_formed s.attributes s.classes i.long.attributes i.long.classes).holds i.formed;
        rules = judged_meets s rest.0;
        fresh = (says_fresh (schema_of s).classes s.closure).holds (not-false _ (if_passed _ (refused refusal.not_in_order) (omega arith) rest.1.0));
      }

  pub audit_zero : ((audit s).number ≡ 0) ↔ InOrder s
  unfolding audit
  audit_zero =
      let z = zero_iff_pass (shape_answers s ++ deeper) passed refl in
      (λ e. passes_order (z.0 e), λ h. z.1 (order_passes h))

  pub audit_done : InOrder s → audit s ≡ passed
  unfolding audit
  audit_done h = passed_last (shape_answers s ++ deeper) passed (order_passes h)

  -- ---- refused

  refused_shape : (n : ℕ) → 0 < n → refused n ≡ first_answer (shape_answers s) passed → audit s ≡ refused n
  unfolding audit
  refused_shape n l e =
      append_refused (shape_answers s) deeper passed passed refl (λ z. (let q : n ≡ 0 = ap (λ (x : Answer). x.number) e ∙ z in omega arith)) ∙ sym e

  pub audit_one : SomeShort s → audit s ≡ refused refusal.short_store
  audit_one e = refused_shape refusal.short_store (omega arith) (short_stores s (says_true (says_short s) e))

  pub audit_two : LongEnough s → ¬ Shape s → audit s ≡ refused refusal.broken_shape
  audit_two h d =
      refused_shape refusal.broken_shape (omega arith)
      (broken_stores s (not_short s h) (says_false (says_formed s.attributes s.classes h.attributes h.classes) d))

  module _ (long : LongEnough s) (shape : Shape s) where
    in_shape : audit s ≡ first_answer deeper passed
    unfolding audit
    in_shape = append_passed (shape_answers s) deeper passed (passed_shape s (has_shape long shape))

    audit_judged : ¬ Meets Nothing (schema_of s) → audit s ≡ verdict
    audit_judged d = in_shape ∙ first_refused verdict _ passed (λ z. d (judged_meets s z))

    pub audit_rule : ¬ Meets Nothing (schema_of s) → FirstBroken (schema_of s) (schema_rules Nothing) (audit s)
    audit_rule d =
        subst (FirstBroken (schema_of s) (schema_rules Nothing)) (sym (audit_judged d))
        (⊎_elim (λ k. absurd (d ((meets Nothing (schema_of s)).0 k))) (λ f. f) (judged_first Nothing (schema_of s)))

    pub audit_least : (rule : RuleName) → ¬ (Met Nothing rule (schema_of s)) → rank (audit s).number ≤ rank (rule_number rule)
    audit_least rule unmet =
        omega (arith, ap (λ (x : Answer). rank x.number) (audit_judged (λ h. unmet (h rule))), judged_before Nothing (schema_of s) rule unmet)

    pub audit_three : Meets Nothing (schema_of s) → ¬ Fresh s → audit s ≡ refused refusal.not_in_order
    audit_three k d =
        let e : fresh ≡ false = says_false (says_fresh (schema_of s).classes s.closure) d in
        in_shape ∙ first_passed verdict _ passed (meets_judged s k)
        ∙ ap (λ (x : Answer). first_answer (x ∷ []) passed) (if_holds (not fresh) (refused refusal.not_in_order) (ap not e))
        ∙ first_refused (refused refusal.not_in_order) [] passed (λ z. omega arith)
