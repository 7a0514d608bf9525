use Rattle.rules.specs.declared.row.Added.TheVariants.{Nothing}
use native.Mathlib.Omega.{arith}
use mathlib.Core.Bool.{◌&&◌, not}
use mathlib.Core.Path.{◌∙◌, ap, ap₂, refl, sym}
use Rattle.std.proofs.lemmas.Result.{err_from_is_err_and}
use Rattle.schema.specs.AnsweringLaws.{first_last, tested_fails, tested_holds}
use Rattle.schema.specs.RefusedLaws.{number_some}
use Rattle.keeper.specs.CheckedLaws.{in_shape, readable_classes, shape_onward, shape_refused, shaped_stores}
use Rattle.keeper.specs.Order.{in_order}
use Rattle.graph.specs.Graph.{is_fresh}
use Rattle.rules.specs.Judge.{judged}
use Rattle.rules.proofs.JudgeLaws.{found_number, sound_number}
use Rattle.prelude.specs.SaysLaws.{says_eq, says_false, says_true}
use Rattle.schema.specs.Store.{schema_of, stores}
use Rattle.keeper.proofs.check.check_order.Goals as goal

pub returns-in_err-check_shape : goal.returns-in_err-check_shape
returns-in_err-check_shape c =
    let p = err_from_is_err_and c.from_residual.result c.from_residual.ensures.1 in
    rw (p.1, p.2)
    (shape_refused (stores c.args.attributes.now c.args.classes.now c.args.closure.now) c.in_err-check_shape.ensures _ _ (number_some _))

pub judge-requires : goal.judge-requires
judge-requires c =
    shaped_stores (stores c.args.attributes.now c.args.classes.now c.args.closure.now) c.in_ok-check_shape.ensures refl

pub returns-then-is_err : goal.returns-then-is_err
unfolding in_order
returns-then-is_err c =
    let s = stores c.args.attributes.now c.args.classes.now c.args.closure.now in
    sym (shape_onward s c.in_ok-check_shape.ensures refl _ _ ∙ tested_holds _ _ _ (λ z. omega arith)
    (ap (λ b. not (b && is_fresh (schema_of s).classes s.closure)) (says_false (says_eq (judged Nothing (schema_of s)).number 0)
    (λ z. found_number c.judge.result (sym c.is_err.ensures.value ∙ c.if-is_err.true) (ap (λ a. a.number) c.judge.ensures ∙ z)))))

pub is_fresh-requires : goal.is_fresh-requires
is_fresh-requires c =
    let s = stores c.args.attributes.now c.args.classes.now c.args.closure.now in
    record {
      readable = readable_classes s c.in_ok-check_shape.ensures refl;
      closure_length_in_bounds = (in_shape s c.in_ok-check_shape.ensures refl).long.closure;
    }

pub returns-then-is_fresh : goal.returns-then-is_fresh
unfolding in_order
returns-then-is_fresh c =
    let s = stores c.args.attributes.now c.args.classes.now c.args.closure.now in
    sym (shape_onward s c.in_ok-check_shape.ensures refl _ _ ∙ tested_fails _ _ _
    (ap not (ap₂ (λ a b. a && b) (says_true (says_eq (judged Nothing (schema_of s)).number 0)
    (sym (ap (λ a. a.number) c.judge.ensures) ∙ sound_number c.judge.result (sym c.is_err.ensures.value ∙ c.if-is_err.false)))
    (sym c.is_fresh.ensures ∙ c.if-is_fresh.true))) ∙ first_last _)

pub returns-else-is_fresh : goal.returns-else-is_fresh
unfolding in_order
returns-else-is_fresh c =
    let s = stores c.args.attributes.now c.args.classes.now c.args.closure.now in
    sym (shape_onward s c.in_ok-check_shape.ensures refl _ _ ∙ tested_holds _ _ _ (λ z. omega arith)
    (ap not (ap₂ (λ a b. a && b) (says_true (says_eq (judged Nothing (schema_of s)).number 0)
    (sym (ap (λ a. a.number) c.judge.ensures) ∙ sound_number c.judge.result (sym c.is_err.ensures.value ∙ c.if-is_err.false)))
    (sym c.is_fresh.ensures ∙ c.if-is_fresh.false))))
