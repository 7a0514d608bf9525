use Rattle.std.proofs.Common.{rules, ap, ◌∙◌}
use Rattle.prelude.specs.Below.{any_below}
use Rattle.prelude.proofs.Ranges.{any_in_range}
use Rattle.schema.specs.declared.number.TableId.TheVariants.{Classes}
use Rattle.schema.specs.Numbers.{table_of, number_of}
use Rattle.schema.specs.Store.{table_in}
use Rattle.change_asked.specs.Needed.{class_needs}
use Rattle.change_asked.proofs.needed.some_class_needs.Goals as goal

pub returns : goal.returns
returns c =
    let needs = class_needs (table_of c.args.id) (number_of c.args.id) (table_in Classes c.args.classes.now) in
    any_in_range c.row_count.result needs _ _ _ c.any.ensures.ran (λ k b q h. search rules) ∙ ap (λ n. any_below n needs) c.row_count.ensures
