use native.Mathlib.Omega.{arith}
use Rattle.tables.specs.ShapedLaws.{table_wide}
use Rattle.rules_class.proofs.category.has_other_category.Goals as goal

pub category-requires : goal.category-requires
category-requires c =
    omega (arith, table_wide c.requires.0 c.class_row.ensures (omega (arith, c.row_count.ensures, c.if-c-row_count.true)))
