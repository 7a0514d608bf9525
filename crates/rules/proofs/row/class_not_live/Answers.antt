use mathlib.Core.Path.{sym, ◌∙◌}
use native.Mathlib.Omega.{arith}
use Rattle.schema.specs.declared.number.TableId.TheVariants.{Classes}
use Rattle.schema.specs.StoreLaws.{table_row_length}
use Rattle.rules.specs.Rules.{class_not_live}
use Rattle.rules.proofs.row.class_not_live.Goals as goal

pub returns-then-class_wrong : goal.returns-then-class_wrong
unfolding class_not_live
returns-then-class_wrong c =
    rw (sym c.class_wrong.ensures ∙ c.if-class_wrong.true)

pub returns-then-is_barred : goal.returns-then-is_barred
unfolding class_not_live
returns-then-is_barred c =
    rw (sym c.class_wrong.ensures ∙ c.if-class_wrong.false, sym c.is_barred.ensures ∙ c.if-is_barred.true)

pub entry_dead-requires : goal.entry_dead-requires
entry_dead-requires c = (
  c.requires.0,
  rw c.class_row.ensures (omega (
    arith,
    table_row_length Classes c.args.classes.now c.args.c.0
        c.requires.0.long (omega (arith, c.requires.1, c.requires.0.few)),
  )),
)

pub returns : goal.returns
unfolding class_not_live
returns c =
    rw (sym c.class_wrong.ensures ∙ c.if-class_wrong.false, sym c.is_barred.ensures ∙ c.if-is_barred.false) (rw c.class_row.ensures at c.entry_dead.ensures)
