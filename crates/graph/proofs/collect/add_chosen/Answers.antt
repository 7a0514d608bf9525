use mathlib.Core.Path.{sym, ap, ◌∙◌}
use Prim.Native.Nat.{◌≤◌}
use native.Mathlib.Omega.{arith}
use lib.ListN.{length}
use Rattle.prelude.specs.PartLaws.{part_length}
use Rattle.sets.specs.Sets.{member}
use Rattle.schema.specs.Layout.{attribute_set, class_width}
use Rattle.schema.specs.Store.{table_in}
use Rattle.schema.specs.StoreLaws.{table_row_wide}
use Rattle.schema.specs.declared.number.TableId.TheVariants.{Classes}
use Rattle.graph.proofs.Gather.{chosen_joined, not_chosen}
use Rattle.graph.proofs.collect.add_chosen.Goals as goal

pub part_of-requires : goal.part_of-requires
part_of-requires c =
    let x = c.class_row-row.result.now in
    let w : class_width ≤ length x = table_row_wide Classes c.args.classes.now x c.args.k.0 c.requires.readable.long (omega arith)
    c.class_row-row.ensures in omega arith

pub join-requires : goal.join-requires
join-requires c =
    let x = c.class_row-row.result.now in
    let w : class_width ≤ length x = table_row_wide Classes c.args.classes.now x c.args.k.0 c.requires.readable.long (omega arith)
    c.class_row-row.ensures in ap length c.part_of.ensures ∙ part_length c.args.at attribute_set x (omega arith) ∙ sym c.requires.attribute_set_bound.2

pub returns-then-has : goal.returns-then-has
returns-then-has c =
    chosen_joined (table_in Classes c.args.classes.now) (member c.args.chosen.bits) c.args.at c.args.k.0
    c.args.out.now c.requires.attribute_set_bound.2 _ _ _ (sym c.has.ensures ∙ c.if-has.true) c.class_row-row.ensures c.part_of.ensures
    c.join.ensures

pub returns-else-has : goal.returns-else-has
returns-else-has c =
    not_chosen (table_in Classes c.args.classes.now) (member c.args.chosen.bits) c.args.at c.args.k.0
    c.args.out.now c.requires.attribute_set_bound.2 (λ i. (c.slice_known-1.given i).fits) (sym c.has.ensures ∙ c.if-has.false)
