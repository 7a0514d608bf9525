-- How wide a set is, and a row.
use Rattle.std.specs.Prelude.{◌≡◌, refl, ◌*◌, ◌<◌, ◌≤◌}
use Rattle.std.proofs.Common.{arith}
use Rattle.schema.specs.Numbers.{limit}
use Rattle.schema.specs.Layout.{class_width, common_width, row_width, set_width}
use Rattle.schema.specs.declared.number.TableId.{TableId}
use Rattle.schema.specs.declared.number.TableId.TheVariants.{Attributes, Classes}

-- it has a bit for each number that a row of the table can have, and no other
pub set_bits : (t : TableId) → set_width t * 8 ≡ limit t
set_bits Attributes = refl
set_bits Classes = refl

-- every row is wider than what all rows begin with, and none is wider than a class row
pub common_narrow : (t : TableId) → common_width < row_width t
common_narrow Attributes = omega arith
common_narrow Classes = omega arith

pub narrow_row : (t : TableId) → row_width t ≤ class_width
narrow_row Attributes = omega arith
narrow_row Classes = omega arith
