-- Calls as C sees them, put together from what the keeper's call gives and what is told of its answer. Assumes nothing.
use mathlib.Core.Path.{◌≡◌, ap, ◌∙◌}
use mathlib.Core.Bool.{false}
use mathlib.Core.List.{List}
use Prim.Native.Nat.{ℕ}
use Rattle.schema.specs.Store.{Stores, Result, result_of}
use Rattle.schema.specs.declared.answer.Answer.{Answer}
use Rattle.keeper.specs.Write.{Written, written, write}
use Rattle.keeper_c.specs.Calls.{Told, told, answered, is_short, outcome, outcome_by, stores_call, wrote, wrote_by, write_call}

module _ (detail : List ℕ) {detail' : List ℕ} {n : ℕ} {a : Answer} (tells : told n detail' ≡ answered a detail) (room : is_short detail ≡ false) where
  pub stores_told : (r : Result) (s : Stores) {s' : Stores} → result_of a s' ≡ r → outcome (told n detail') s' ≡ stores_call r s detail
  unfolding stores_call
  stores_told r s {s'} left =
      rw room (ap (λ (t : Told). outcome t s') tells ∙ ap (λ (x : Result). outcome_by x detail) left)

  pub write_told : (s : Stores) (output : List ℕ) {output' : List ℕ} → written a output' ≡ write s output → wrote (told n detail') output'
      ≡ write_call s output detail
  unfolding write_call
  write_told s output {output'} left =
      rw room (ap (λ (t : Told). wrote t output') tells ∙ ap (λ (w : Written). wrote_by w detail) left)
