use mathlib.Core.Path.{refl}
use lib.ListN.{length}
use Prim.Native.Nat.{◌+◌}
use borrow.Author.Rules.{rules}
use Rattle.prelude.specs.LentLaws.{lent_back}
use Rattle.prelude.proofs.part.put_bytes.Goals as goal

pub returns : goal.returns
returns c =
    record {
      place = search rules;
      bytes = lent_back c.args.at (c.args.at + length c.args.v.now) c.args.out.now _ c.args.v.now refl c.copy_from_slice.ensures.after;
    }
