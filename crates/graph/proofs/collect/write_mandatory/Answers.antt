use mathlib.Core.Path.{ap, ◌∙◌}
use Rattle.prelude.specs.Part.{zeros}
use Rattle.sets.specs.Sets.{member}
use Rattle.schema.specs.Layout.{mandatory_at}
use Rattle.schema.specs.Store.{table_in}
use Rattle.schema.specs.declared.number.TableId.TheVariants.{Classes}
use Rattle.graph.proofs.Gather.{from_empty}
use Rattle.graph.proofs.collect.write_mandatory.Goals as goal

pub returns : goal.returns
returns c =
    from_empty (table_in Classes c.args.classes.now) (member c.args.chosen.bits) mandatory_at _ _
    (c.clear.ensures ∙ ap zeros c.requires.out_len) c.add_all.ensures
