use mathlib.Core.Path.{ap, ◌∙◌}
use native.Mathlib.Omega.{arith}
use lib.ListN.{length}
use Rattle.schema.specs.StoreLaws.{table_row_wide}
use Rattle.schema.specs.declared.number.TableId.TheVariants.{Classes}
use Rattle.graph.proofs.Firsts.{lists_wide}
use Rattle.graph.proofs.Visit.{next_searched}
use Rattle.graph.proofs.reach.next_unvisited.Goals as goal

pub fixed_auxiliary-requires : goal.fixed_auxiliary-requires
fixed_auxiliary-requires c =
    table_row_wide Classes c.args.classes.now _ c.args.c.0 c.requires.readable.long (omega arith) c.class_row-row.ensures

pub open_auxiliary-requires : goal.open_auxiliary-requires
open_auxiliary-requires c =
    table_row_wide Classes c.args.classes.now _ c.args.c.0 c.requires.readable.long (omega arith) c.class_row-row.ensures

pub first_unvisited-requires : goal.first_unvisited-requires
first_unvisited-requires c =
    let wide = lists_wide _ (table_row_wide Classes c.args.classes.now _ c.args.c.0 c.requires.readable.long (omega arith) c.class_row-row.ensures) in (
      omega (arith, c.row_count-n.ensures, c.requires.readable.few),
      ap length c.fixed_auxiliary.ensures ∙ wide.0,
      ap length c.open_auxiliary.ensures ∙ wide.1,
    )

pub returns : goal.returns
returns c =
    next_searched _ _ _ _ _ _ _ _ _ c.class_row-row.ensures c.row_count-n.ensures c.fixed_auxiliary.ensures c.open_auxiliary.ensures
    c.first_unvisited.ensures
