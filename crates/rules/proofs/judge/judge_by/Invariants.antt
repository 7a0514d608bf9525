use mathlib.Core.Path.{◌≡◌}
use lib.ListN.{drop}
use Rattle.std.specs.Prelude.{map}
use Rattle.schema.specs.Refused.{refusal_number}
use Rattle.schema.specs.Store.{schema_in}
use Rattle.rules.specs.Rules.{schema_rules, rules_of}
use Rattle.rules.specs.Judge.{judge_rules}
use Rattle.rules.proofs.judge.judge_by.Given as goal

abbrev pub invariant-loop-rule : goal.invariant-loop-rule
invariant-loop-rule l = judge_rules (rules_of (schema_rules l.added) (map refusal_number l.order)) (schema_in l.attributes l.classes)
    ≡ judge_rules (rules_of (schema_rules l.added) (drop l.rule-index (map refusal_number l.order))) (schema_in l.attributes l.classes)
