use mathlib.Core.Path.{sym, ◌∙◌}
use native.Mathlib.Omega.{arith}
use Rattle.schema.specs.declared.number.TableId.TheVariants.{Classes}
use Rattle.tables.specs.ShapedLaws.{shaped_wide}
use Rattle.rules.specs.Rules.{attribute_not_live}
use Rattle.rules.proofs.row.attribute_not_live.Goals as goal

pub not_live-requires : goal.not_live-requires
not_live-requires c =
    (c.requires.0.attributes, rw c.class_row-row.ensures (omega (arith, shaped_wide c.requires.0 Classes c.args.c.0 c.requires.1)))

pub returns-then-not_live : goal.returns-then-not_live
unfolding attribute_not_live
returns-then-not_live c =
    rw (rw c.class_row-row.ensures at (sym c.not_live.ensures ∙ c.if-not_live.true))

pub entry_dead-requires : goal.entry_dead-requires
entry_dead-requires c =
    (c.requires.0.attributes, rw c.class_row-row.ensures (omega (arith, shaped_wide c.requires.0 Classes c.args.c.0 c.requires.1)))

pub returns : goal.returns
unfolding attribute_not_live
returns c =
    rw (rw c.class_row-row.ensures at (sym c.not_live.ensures ∙ c.if-not_live.false)) (rw c.class_row-row.ensures at c.entry_dead.ensures)
