use lib.ListN.{length-set}
use Rattle.wire.specs.WireLaws.{header_written}
use native.Mathlib.Omega.{arith}
use Rattle.wire.proofs.write_header.Goals as goal

pub write_u16-requires : goal.write_u16-requires
write_u16-requires c =
    simp length-set (omega arith)

pub returns : goal.returns
returns c =
    header_written _ _ _ _ _ c.requires c.write_u16.ensures
