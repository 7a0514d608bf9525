use mathlib.Core.Path.{refl}
use Rattle.prelude.specs.PartLaws.{part_cut}
use Rattle.prelude.proofs.part.part_of.Goals as goal

pub returns : goal.returns
returns c =
    part_cut _ _ _ _ refl
