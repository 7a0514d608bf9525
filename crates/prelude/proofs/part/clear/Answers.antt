use Rattle.prelude.specs.Part.{zeros}
use Rattle.prelude.proofs.part.clear.Goals as goal

pub returns : goal.returns
unfolding zeros
returns c = c.fill.ensures.after (λ y e. e)
