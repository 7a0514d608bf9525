use Rattle.schema.specs.Store.{table_in}
use Rattle.schema.specs.declared.number.TableId.TheVariants.{Classes}
use Rattle.graph.proofs.Gather.{demanded_is}
use Rattle.graph.proofs.closure.write_demanded.Goals as goal

pub returns : goal.returns
returns c =
    demanded_is (table_in Classes c.args.classes.now) c.args.c.0 c.reached.result.bits c.requires.readable.few
    c.reached.ensures _ c.write_mandatory.ensures
