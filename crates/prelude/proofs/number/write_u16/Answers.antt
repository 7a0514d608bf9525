use Rattle.std.proofs.Common.{rules, ◌+◌, refl}
use Rattle.prelude.specs.BigEndian.{big_endian_bytes}
use Rattle.prelude.specs.LentLaws.{lent_back}
use Rattle.prelude.proofs.number.write_u16.Goals as goal

pub returns : goal.returns
unfolding big_endian_bytes
returns c = lent_back c.args.at (c.args.at + 2) c.args.d.now _ (big_endian_bytes 2 c.args.x) refl (search rules)
