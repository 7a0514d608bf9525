use native.Mathlib.Omega.{arith}
use Rattle.tables.specs.ShapedLaws.{table_wide}
use Rattle.rules_class.proofs.live.lists_itself.Goals as goal

pub is_listed-requires : goal.is_listed-requires
is_listed-requires c =
    omega (arith, table_wide c.requires.0 c.class_row-row.ensures c.requires.1)

pub is_listed-requires-else-is_listed : goal.is_listed-requires-else-is_listed
is_listed-requires-else-is_listed c =
    omega (arith, table_wide c.requires.0 c.class_row-row.ensures c.requires.1)
