use Rattle.std.proofs.Common.{arith}
use Rattle.prelude.specs.BigEndianLaws.{two_bytes}
use Rattle.prelude.proofs.number.read_u16.Goals as goal

pub returns : goal.returns
returns c = omega (arith, two_bytes c.args.at c.args.s.now)
