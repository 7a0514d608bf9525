use mathlib.Core.Path.{refl}
use Rattle.keeper_c.specs.Calls.{answered}
use Rattle.keeper_c.proofs.answer_in.Goals as goal

pub returns : goal.returns
unfolding answered
returns c =
    refl
