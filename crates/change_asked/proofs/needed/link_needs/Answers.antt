use native.Mathlib.Omega.{arith}
use Rattle.tables.specs.ShapedLaws.{table_wide}
use Rattle.change_asked.proofs.needed.link_needs.Goals as goal

pub is_defunct-requires : goal.is_defunct-requires
is_defunct-requires c =
    omega (arith, table_wide c.requires.0 c.attribute_row-back.ensures c.requires.1)

pub link-requires : goal.link-requires
link-requires c =
    omega (arith, table_wide c.requires.0 c.attribute_row-back.ensures c.requires.1)

pub is_forward_of-requires : goal.is_forward_of-requires
is_forward_of-requires c =
    (omega (arith, table_wide c.requires.0 c.attribute_row-back.ensures c.requires.1), c.requires.2)
