use mathlib.Core.Path.{refl}
use Rattle.prelude.specs.Part.{zeros}
use Rattle.graph.proofs.visited.Visited.none.Goals as goal

pub returns : goal.returns
unfolding zeros
returns c =
    refl
