use mathlib.Core.Bool.{false}
use mathlib.Core.Path.{◌≡◌}
use Prim.Native.Nat.{ℕ, ◌<◌}
use Rattle.sets.specs.Sets.{from}
use Rattle.graph.specs.Visit.{unvisited_in}
use Rattle.graph.proofs.reach.first_unvisited.Given as goal

abbrev pub invariant-loop-d : goal.invariant-loop-d
invariant-loop-d l = (k : ℕ) → k < l.d → from l.start (unvisited_in l.fixed l.other l.seen.bits) k ≡ false
