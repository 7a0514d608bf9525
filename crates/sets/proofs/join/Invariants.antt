use Rattle.prelude.proofs.Fill.{Filled}
use Rattle.sets.specs.Sets.{union}
use Rattle.sets.proofs.join.Given as goal

abbrev pub invariant-loop-i : goal.invariant-loop-i
invariant-loop-i l = Filled (union l.initial.a l.b) l.initial.a l.i l.a
