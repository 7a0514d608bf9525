use native.Mathlib.Omega.{arith}
use Rattle.tables.specs.ShapedLaws.{table_wide}
use Rattle.rules_class.proofs.live.class_wrong.Goals as goal

pub not_live-requires : goal.not_live-requires
not_live-requires c =
    (c.requires.0, omega (arith, table_wide c.requires.0 c.class_row-row.ensures c.requires.1))

pub superclass_late-requires : goal.superclass_late-requires
superclass_late-requires c =
    (omega (arith, table_wide c.requires.0 c.class_row-row.ensures c.requires.1), omega (arith, c.requires.0.few))
