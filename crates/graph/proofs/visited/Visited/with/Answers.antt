use mathlib.Core.Path.{◌≡◌}
use lib.ListN.{length}
use native.Mathlib.Omega.{arith}
use borrow.Author.Rules.{rules}
use Rattle.graph.proofs.visited.Visited.with.Goals as goal

pub insert-requires : goal.insert-requires
insert-requires c =
    let e : length c.args.self.bits ≡ 16 = search rules in omega arith
