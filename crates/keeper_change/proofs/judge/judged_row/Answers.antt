use Rattle.prelude.specs.FirstLaws.{append_second, first_hit, first_miss, first_none}
use mathlib.Core.List.{[]}
use Rattle.rules.specs.Rules.{row_cases, schema_rules}
use Rattle.schema.specs.Numbers.{number_of, table_of}
use Rattle.schema.specs.RefusedLaws.{number_some}
use Rattle.schema.specs.Store.{schema_in}
use mathlib.Core.Path.{◌∙◌, sym}
use Rattle.prelude.specs.FirstLaws.{append_first}
use Rattle.keeper_change.specs.Judged.{judged_row}
use native.Mathlib.Omega.{arith}
use Rattle.keeper_change.proofs.judge.judged_row.Goals as goal

pub returns-in-Err : goal.returns-in-Err
unfolding judged_row
returns-in-Err c =
    c.in-Err.ensures ∙ sym (append_first _ _ (λ z. number_some c.in-Err.rule (c.in-Err.ensures ∙ z)))

pub demand_changes-requires : goal.demand_changes-requires
demand_changes-requires c =
    c.requires.kept (sym c.in_default.ensures)

pub returns-then-demand_changes : goal.returns-then-demand_changes
unfolding judged_row
returns-then-demand_changes c =
    sym (append_second (row_cases (schema_rules c.args.added) (schema_in c.args.attributes.now c.args.classes.now) (table_of
    c.args.id) (number_of c.args.id)) _ (omega arith) (sym c.in_default.ensures) ∙ first_hit _ [] (sym
    c.demand_changes.ensures ∙ c.if-demand_changes.true))

pub returns : goal.returns
unfolding judged_row
returns c =
    sym (append_second (row_cases (schema_rules c.args.added) (schema_in c.args.attributes.now c.args.classes.now) (table_of
    c.args.id) (number_of c.args.id)) _ (omega arith) (sym c.in_default.ensures) ∙ first_miss _ [] (sym
    c.demand_changes.ensures ∙ c.if-demand_changes.false) ∙ first_none)
