use Rattle.std.proofs.Common.{rules, ap, ◌∙◌, ℕ}
use Rattle.prelude.proofs.Ranges.{any_in_range}
use Rattle.prelude.specs.Below.{any_below}
use Rattle.schema.specs.Store.{table_in}
use Rattle.schema.specs.declared.number.TableId.TheVariants.{Attributes}
use Rattle.rules_attribute.specs.Links.{is_live_forward}
use Rattle.rules_attribute.proofs.link.has_forward.Goals as goal

pub returns : goal.returns
returns c =
    let p = is_live_forward (table_in Attributes c.args.attributes.now) c.args.back.now in
    any_in_range c.row_count-n.result p _ _ _ c.any.ensures.ran (λ k b q h. search rules) ∙ ap (λ (n : ℕ). any_below n p) c.row_count-n.ensures
