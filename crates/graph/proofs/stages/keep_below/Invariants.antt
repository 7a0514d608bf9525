use Rattle.graph.proofs.Firsts.{Kept}
use Rattle.graph.proofs.stages.keep_below.Given as goal

abbrev pub invariant-loop-k : goal.invariant-loop-k
invariant-loop-k l = Kept l.initial.s l.n l.k l.s
