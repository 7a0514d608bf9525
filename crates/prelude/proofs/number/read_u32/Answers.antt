use Rattle.std.proofs.Common.{ap, arith, add-zero, get_or, ℕ}
use Rattle.prelude.specs.BigEndian.{big_endian}
use Rattle.prelude.proofs.number.read_u32.Goals as goal

pub returns : goal.returns
unfolding big_endian
returns c = omega (arith, ap (λ (i : ℕ). get_or c.args.s.now i 0) (add-zero c.args.at))
