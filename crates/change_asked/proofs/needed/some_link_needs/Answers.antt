use Rattle.std.proofs.Common.{rules, ap, ◌∙◌}
use Rattle.prelude.specs.Below.{any_below}
use Rattle.prelude.proofs.Ranges.{any_in_range}
use Rattle.schema.specs.declared.number.TableId.TheVariants.{Attributes}
use Rattle.schema.specs.Store.{table_in}
use Rattle.change_asked.specs.Needed.{link_needs}
use Rattle.change_asked.proofs.needed.some_link_needs.Goals as goal

pub returns : goal.returns
returns c =
    let needs = link_needs c.args.row.now (table_in Attributes c.args.attributes.now) in
    any_in_range c.row_count-count.result needs _ _ _ c.any.ensures.ran (λ k b q h. search rules) ∙ ap (λ n. any_below n needs) c.row_count-count.ensures
