use mathlib.Core.Path.{refl, sym, ap, ◌∙◌}
use Prim.Native.Nat.{ℕ}
use Rattle.std.specs.Prelude.{map}
use Rattle.std.proofs.lemmas.List.{get_or-map, length-map}
use Rattle.schema.specs.Numbers.{table_of, number_of}
use Rattle.schema.specs.declared.refusal.Refusal.TheVariants.{ShortStore}
use Rattle.schema.specs.Refused.{refusal_number}
use Rattle.schema.specs.Store.{schema_in}
use Rattle.rules.specs.Rules.{Rule, schema_rules, breaks}
use Rattle.rules.specs.RulesLaws.{pick_found, pick_next, pick_none}
use native.Mathlib.Omega.{arith}
use Rattle.rules.proofs.row.first_by.Goals as goal

pub loop-rule-init : goal.loop-rule-init
loop-rule-init c = refl

pub returns-then-breaks_rule : goal.returns-then-breaks_rule
returns-then-breaks_rule c =
    let id = c.args.id in
    let m = schema_in c.args.attributes.now c.args.classes.now in
    let is = get_or-map refusal_number c.args.order.now c.loop-rule.rule-index ShortStore 0 c.loop-rule-test.true in
    sym is ∙ sym
    (c.loop-rule.invariant ∙ pick_found (λ (r : Rule). r.breaks m (table_of id) (number_of id)) (schema_rules c.args.added)
    (map refusal_number c.args.order.now) c.loop-rule.rule-index
    (omega (arith, c.loop-rule-test.true, length-map c.args.order.now refusal_number))
    (ap (λ (n : ℕ). breaks c.args.added m n (table_of id) (number_of id)) is ∙ sym c.breaks_rule.ensures ∙ c.if-breaks_rule.true))

pub loop-rule-preserved : goal.loop-rule-preserved
loop-rule-preserved c =
    let id = c.args.id in
    let m = schema_in c.args.attributes.now c.args.classes.now in
    let is = get_or-map refusal_number c.args.order.now c.loop-rule.rule-index ShortStore 0 c.loop-rule-test.true in
    c.loop-rule.invariant ∙ pick_next (λ (r : Rule). r.breaks m (table_of id) (number_of id)) (schema_rules c.args.added)
    (map refusal_number c.args.order.now) c.loop-rule.rule-index
    (omega (arith, c.loop-rule-test.true, length-map c.args.order.now refusal_number))
    (ap (λ (n : ℕ). breaks c.args.added m n (table_of id) (number_of id)) is ∙ sym c.breaks_rule.ensures ∙ c.if-breaks_rule.false)

pub returns : goal.returns
returns c =
    let id = c.args.id in
    sym (c.loop-rule.invariant ∙ pick_none
    (λ (r : Rule). r.breaks (schema_in c.args.attributes.now c.args.classes.now) (table_of id) (number_of id))
    (schema_rules c.args.added) (map refusal_number c.args.order.now) c.loop-rule.rule-index
    (omega (arith, c.loop-rule-test.false, length-map c.args.order.now refusal_number)))
