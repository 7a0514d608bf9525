use mathlib.Core.Path.{refl}
use Rattle.prelude.specs.Part.{part}
use Rattle.wire.proofs.value_of.Goals as goal

pub returns : goal.returns
unfolding part
returns c =
    refl
