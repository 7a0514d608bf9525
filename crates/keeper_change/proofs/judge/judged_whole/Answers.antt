use mathlib.Core.List.{[]}
use mathlib.Core.Path.{◌∙◌, ap, sym}
use Rattle.prelude.specs.FirstLaws.{append_first, append_second, first_hit, first_miss, first_none}
use Rattle.rules.specs.Judge.{broken, broken_cases}
use Rattle.rules.proofs.JudgeLaws.{judged_number}
use Rattle.rules.specs.RulesLaws.{nonzero}
use Rattle.rules.specs.Rules.{schema_rules}
use Rattle.keeper_change.specs.Judged.{judged_whole}
use Rattle.schema.specs.RefusedLaws.{number_some}
use Rattle.schema.specs.declared.answer.Answer.{Answer}
use Rattle.schema.specs.Store.{schema_in}
use Rattle.keeper_change.proofs.judge.judged_whole.Goals as goal

pub returns-in-Err : goal.returns-in-Err
unfolding judged_whole
returns-in-Err c =
    ap (λ (a : Answer). a.number) c.in-Err.ensures ∙ judged_number c.args.added (schema_in c.args.attributes.now
    c.args.classes.now) ∙ sym (append_first (broken_cases (schema_rules c.args.added) (schema_in c.args.attributes.now
    c.args.classes.now)) _ (λ z. number_some c.in-Err.broken.rule (ap (λ (a : Answer). a.number) c.in-Err.ensures ∙ judged_number c.args.added
    (schema_in c.args.attributes.now c.args.classes.now) ∙ z)))

pub returns-then-demands_differ : goal.returns-then-demands_differ
unfolding judged_whole
returns-then-demands_differ c =
    sym (append_second (broken_cases (schema_rules c.args.added) (schema_in c.args.attributes.now c.args.classes.now)) _
    (nonzero c.args.added (broken (schema_in c.args.attributes.now c.args.classes.now))) (sym (judged_number
    c.args.added (schema_in c.args.attributes.now c.args.classes.now)) ∙ sym (ap (λ (a : Answer). a.number) c.in_default.ensures)) ∙ first_hit _ []
    (sym c.demands_differ.ensures ∙ c.if-demands_differ.true))

pub returns : goal.returns
unfolding judged_whole
returns c =
    sym (append_second (broken_cases (schema_rules c.args.added) (schema_in c.args.attributes.now c.args.classes.now)) _
    (nonzero c.args.added (broken (schema_in c.args.attributes.now c.args.classes.now))) (sym (judged_number
    c.args.added (schema_in c.args.attributes.now c.args.classes.now)) ∙ sym (ap (λ (a : Answer). a.number) c.in_default.ensures)) ∙ first_miss _ []
    (sym c.demands_differ.ensures ∙ c.if-demands_differ.false) ∙ first_none)
