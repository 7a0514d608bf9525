use mathlib.Core.Path.{◌≡◌}
use lib.ListN.{drop}
use Rattle.std.specs.Prelude.{map}
use Rattle.prelude.specs.First.{first_of}
use Rattle.schema.specs.Numbers.{table_of, number_of}
use Rattle.schema.specs.Refused.{refusal_number}
use Rattle.schema.specs.Store.{schema_in}
use Rattle.rules.specs.Rules.{schema_rules, rules_of, row_cases}
use Rattle.rules.proofs.row.first_by.Given as goal

abbrev pub invariant-loop-rule : goal.invariant-loop-rule
invariant-loop-rule l =
    first_of (row_cases (rules_of (schema_rules l.added) (map refusal_number l.order)) (schema_in l.attributes l.classes) (table_of l.id) (number_of l.id))
    ≡ first_of (row_cases (rules_of (schema_rules l.added) (drop l.rule-index (map refusal_number l.order))) (schema_in l.attributes l.classes)
    (table_of l.id)
    (number_of l.id))
