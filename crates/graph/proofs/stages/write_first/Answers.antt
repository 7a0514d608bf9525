use Rattle.graph.proofs.Rows.{first_written}
use Rattle.graph.proofs.Warshall.{stage_none}
use Rattle.schema.specs.Layout.{class_set}
use Rattle.prelude.specs.Part.{zeros}
use lib.Seq.{length-take-le}
use mathlib.Core.Path.{sym, ap, ◌∙◌}
use Rattle.schema.specs.declared.number.TableId.TheVariants.{Classes}
use Rattle.schema.specs.Store.{table_in}
use native.Mathlib.Omega.{arith}
use Rattle.graph.proofs.stages.write_first.Goals as goal

pub row_count-requires : goal.row_count-requires
row_count-requires c =
    c.requires.0.long

pub returns-then-row_count-c : goal.returns-then-row_count-c
returns-then-row_count-c c =
    c.clear.ensures ∙ ap zeros c.requires.2 ∙ sym (stage_none (table_in Classes c.args.classes.now) 0 c.args.c.0 (omega
    (arith, c.if-row_count-c.true, c.row_count.ensures)))

pub write_named-requires : goal.write_named-requires
write_named-requires c =
    (c.requires.0, omega (arith, c.if-row_count-c.false, c.row_count.ensures), length-take-le class_set c.args.row.now (omega (arith, c.requires.2)))

pub write_own_mandatory-requires : goal.write_own_mandatory-requires
write_own_mandatory-requires c =
    (c.requires.0, omega (arith, c.if-row_count-c.false, c.row_count.ensures), omega (arith, c.requires.2))

pub write_own_optional-requires : goal.write_own_optional-requires
write_own_optional-requires c =
    (c.requires.0, omega (arith, c.if-row_count-c.false, c.row_count.ensures), omega (arith, c.requires.2))

pub returns : goal.returns
returns c =
    first_written (table_in Classes c.args.classes.now) c.args.c.0 (omega (arith, c.if-row_count-c.false, c.row_count.ensures))
    c.args.row.now _ _ _ c.requires.2 c.write_named.ensures c.write_own_mandatory.ensures c.write_own_optional.ensures
