use mathlib.Core.Path.{refl, sym, ◌∙◌}
use Rattle.std.specs.Prelude.{map}
use Rattle.std.proofs.lemmas.List.{length-map}
use Rattle.schema.specs.Refused.{refusal_number}
use Rattle.schema.specs.Store.{schema_in}
use Rattle.rules.specs.Rules.{schema_rules}
use Rattle.rules.proofs.JudgeLaws.{broken_found, broken_next, judge_over}
use native.Mathlib.Omega.{arith}
use Rattle.rules.proofs.judge.judge_by.Goals as goal

pub loop-rule-init : goal.loop-rule-init
loop-rule-init c = refl

pub returns-in-Some : goal.returns-in-Some
returns-in-Some c =
    broken_found (schema_rules c.args.added) c.args.order.now (schema_in c.args.attributes.now c.args.classes.now) c.loop-rule.rule-index
    c.loop-rule-test.true c.in-Some.row c.judge_rule.ensures c.in-Some.is ∙ sym c.loop-rule.invariant

pub loop-rule-preserved : goal.loop-rule-preserved
loop-rule-preserved c =
    c.loop-rule.invariant ∙ broken_next (schema_rules c.args.added) c.args.order.now (schema_in c.args.attributes.now c.args.classes.now)
    c.loop-rule.rule-index c.loop-rule-test.true c.judge_rule.ensures c.in_default.is

pub returns : goal.returns
returns c =
    sym (c.loop-rule.invariant ∙ judge_over (schema_rules c.args.added) (map refusal_number c.args.order.now)
    (schema_in c.args.attributes.now c.args.classes.now) c.loop-rule.rule-index
    (omega (arith, c.loop-rule-test.false, length-map c.args.order.now refusal_number)))
