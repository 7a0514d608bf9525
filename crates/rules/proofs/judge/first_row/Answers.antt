use mathlib.Core.Path.{ap, ◌∙◌}
use Rattle.std.specs.Prelude.{cond, None, Some, ℕ}
use Rattle.prelude.proofs.Ranges.{find_in_range}
use Rattle.prelude.specs.Below.{any_below, first_below}
use Rattle.schema.specs.Refused.{refusal_number}
use Rattle.schema.specs.Store.{schema_in}
use Rattle.schema.specs.StoreLaws.{schema_count}
use Rattle.rules.specs.Rules.{breaks}
use Rattle.rules.proofs.Asked.{breaks_at}
use borrow.Author.Rules.{rules}
use Rattle.rules.proofs.judge.first_row.Goals as goal

pub returns : goal.returns
returns c =
    let attributes = c.args.attributes.now in
    let classes = c.args.classes.now in
    let p = breaks c.args.added (schema_in attributes classes) (refusal_number c.args.rule) c.args.table in
    find_in_range c.row_count-count.result p _ _ _ c.find.ensures.ran (λ k b q h. search (rules, breaks_at))
    ∙ ap (λ (n : ℕ). cond (any_below n p) (Some (first_below n p)) None)
    (schema_count c.args.table attributes classes c.store_of.ensures c.row_count-count.ensures)
