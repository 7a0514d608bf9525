use mathlib.Core.Path.{◌∙◌}
use native.Mathlib.Omega.{arith}
use Rattle.sets.specs.Sets.{member}
use Rattle.schema.specs.Store.{table_in}
use Rattle.schema.specs.declared.number.TableId.TheVariants.{Classes}
use Rattle.graph.proofs.Gather.{add_none, add_more, add_end}
use Rattle.graph.proofs.collect.add_all.Goals as goal

pub loop-k-init : goal.loop-k-init
loop-k-init c = (
  c.requires.attribute_set_bound.1,
  add_none (table_in Classes c.args.classes.now) (member c.args.chosen.bits) c.args.at
      c.args.out.now c.requires.attribute_set_bound.1 (λ i. (c.slice_known-1.given i).fits),
)

pub loop-k-preserved : goal.loop-k-preserved
loop-k-preserved c = (
  c.add_chosen.auto.out ∙ c.loop-k.invariant.0,
  add_more (table_in Classes c.args.classes.now)
      (member c.args.chosen.bits) c.args.at c.loop-k.k c.args.out.now c.loop-k.out _ c.loop-k.invariant.1
      (rw c.class_at.ensures at c.add_chosen.ensures),
)

pub returns : goal.returns
returns c =
    add_end (table_in Classes c.args.classes.now) (member c.args.chosen.bits) c.args.at c.loop-k.k c.row_count-k-end.result
    c.args.out.now c.loop-k.out c.row_count-k-end.ensures (omega arith) (omega arith) c.loop-k.invariant.1
