use mathlib.Core.List.{[], ◌∷◌}
use mathlib.Core.Path.{refl}
use Rattle.prelude.specs.Unlike.{among}
use Rattle.prelude.specs.UnlikeLaws.{unlike_key}
use Rattle.change_read.specs.Carried.{open_list}
use Rattle.change_read.proofs.carried.list_of.Goals as goal

pub returns-in_default : goal.returns-in_default
unfolding open_list among
returns-in_default c =
    let no = unlike_key _ (23 ∷ 21 ∷ []) c.in_default.in_default-own.rest in
    rw (← c.byte_at.ensures, no 21 refl, no 23 refl)
