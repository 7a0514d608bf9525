use native.Mathlib.Omega.{arith}
use Rattle.tables.specs.ShapedLaws.{table_wide}
use Rattle.rules_class.proofs.live.naming_wrong.Goals as goal

pub syntax-requires : goal.syntax-requires
syntax-requires c =
    omega (arith, table_wide c.requires.0 c.attribute_row-naming.ensures (omega (arith, c.row_count.ensures, c.if-row_count-a.false)))

pub is_single_valued-requires : goal.is_single_valued-requires
is_single_valued-requires c =
    omega (arith, table_wide c.requires.0 c.attribute_row-naming.ensures (omega (arith, c.row_count.ensures, c.if-row_count-a.false)))
