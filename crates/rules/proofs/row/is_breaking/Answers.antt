use mathlib.Core.Path.{ap, ◌∙◌}
use Rattle.schema.specs.Numbers.{table_of, number_of}
use Rattle.schema.specs.Store.{schema_in}
use Rattle.rules.specs.Rules.{Rule, schema_rules, numbered}
use Rattle.rules.proofs.NumberLaws.{found_in_order}
use borrow.Author.Rules.{rules}
use Rattle.rules.proofs.row.is_breaking.Goals as goal

pub returns-in-Some : goal.returns-in-Some
unfolding numbered
returns-in-Some c =
    c.breaks_rule.ensures
    ∙ ap (λ (r : Rule). r.breaks (schema_in c.args.attributes.now c.args.classes.now) (table_of c.args.id) (number_of c.args.id))
    (found_in_order (schema_rules c.args.added) c.args.number _ c.find.new.self _ c.find.result c.find.ensures.ran c.iter.ensures.rest
    (λ x b q h. search rules) c.in-Some.is)

pub returns-in-None : goal.returns-in-None
unfolding numbered
returns-in-None c =
    ap (λ (r : Rule). r.breaks (schema_in c.args.attributes.now c.args.classes.now) (table_of c.args.id) (number_of c.args.id))
    (found_in_order (schema_rules c.args.added) c.args.number _ c.find.new.self _ c.find.result c.find.ensures.ran c.iter.ensures.rest
    (λ x b q h. search rules) c.in-None.is)
