use mathlib.Core.Path.{◌∙◌, ap}
use lib.ListN.{length}
use Rattle.schema.specs.Store.{table_in}
use Rattle.schema.specs.declared.number.TableId.TheVariants.{Classes}
use Rattle.closure_change.proofs.Joining.{named_none, named_more, named_end}
use Rattle.schema.specs.Layout.{closure_width}
use Rattle.prelude.specs.Part.{zeros}
use Rattle.prelude.specs.PartLaws.{zeros_length}
use Rattle.sets.specs.SetsLaws.{set_length}
use native.Mathlib.Omega.{arith}
use Rattle.closure_change.proofs.added.write_named.Goals as goal

pub loop-y-init : goal.loop-y-init
loop-y-init c = (
  ap length c.clear.ensures ∙ zeros_length _ ∙ c.requires.n_lt_class_limit.1,
  named_none (table_in Classes c.args.classes.now)
      c.args.closure.now c.args.n.0 _ (c.clear.ensures ∙ ap zeros c.requires.n_lt_class_limit.1),
)

pub loop-y-preserved : goal.loop-y-preserved
loop-y-preserved c = (
  ap length c.join_named.ensures ∙ set_length closure_width _,
  named_more (table_in Classes c.args.classes.now)
      c.args.closure.now c.args.n.0 c.loop-y.y c.loop-y.out _ c.loop-y.invariant.1
      (rw c.class_at.ensures at c.join_named.ensures),
)

pub returns : goal.returns
returns c =
    named_end (table_in Classes c.args.classes.now) c.args.closure.now c.args.n.0 c.loop-y.y c.loop-y.out
    (omega arith) (omega arith) c.loop-y.invariant.1
