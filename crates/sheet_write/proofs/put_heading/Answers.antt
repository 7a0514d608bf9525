use Rattle.sheet_write.specs.Writing.{heading}
use Rattle.sheet_write.proofs.Rows.{heading_length}
use native.Mathlib.Omega.{arith}
use Rattle.sheet_write.proofs.put_heading.Goals as goal

pub write_field-requires : goal.write_field-requires
write_field-requires c =
    (omega arith, omega (arith, c.requires, heading_length))

pub returns : goal.returns
returns c =
    record { place = omega (arith, heading_length); bytes = unfold heading in c.write_field.ensures }
