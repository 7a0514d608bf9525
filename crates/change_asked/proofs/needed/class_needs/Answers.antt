use native.Mathlib.Omega.{arith}
use Rattle.tables.specs.ShapedLaws.{table_wide}
use Rattle.change_asked.proofs.needed.class_needs.Goals as goal

pub is_defunct-requires : goal.is_defunct-requires
is_defunct-requires c =
    omega (arith, table_wide c.requires.0 c.class_row-row.ensures c.requires.1)

pub is_naming-requires : goal.is_naming-requires
is_naming-requires c =
    (omega (arith, table_wide c.requires.0 c.class_row-row.ensures c.requires.1), c.requires.2)
