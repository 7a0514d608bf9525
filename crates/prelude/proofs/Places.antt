-- The library's tests over a slice, said by the bounded tests of the prelude.
use Rattle.std.specs.Prelude.{◌≡◌, List, [], ◌∷◌, Bool, ◌&&◌, ◌||◌, ◌≤◌, length, get_or}
use Rattle.std.specs.List.{list_any, list_all, zip}
use Rattle.std.proofs.Common.{sym, ap, ◌∙◌, refl, arith}
use Rattle.prelude.specs.Below.{any_below, all_below}
use Rattle.prelude.proofs.Ranges.{any_first, all_first}

module _ {A : Type 0} (d : A) (p : A → Bool) where
  -- `s.iter().any(p)`: some place holds what passes
  pub any_places : (s : List A) → list_any p s ≡ any_below (length s) (λ i. p (get_or s i d))
  unfolding any_below
  any_places [] = refl
  any_places (x ∷ s) = ap (λ t. p x || t) (any_places s) ∙ sym (any_first (length s) (λ i. p (get_or (x ∷ s) i d)))

  -- `s.iter().all(p)`
  pub all_places : (s : List A) → list_all p s ≡ all_below (length s) (λ i. p (get_or s i d))
  unfolding all_below
  all_places [] = refl
  all_places (x ∷ s) = ap (λ t. p x && t) (all_places s) ∙ sym (all_first (length s) (λ i. p (get_or (x ∷ s) i d)))

-- `s.iter().zip(t).all(p)`, where t is at least as long as s
pub all_zip_places : {A B : Type 0} (d : A) (e : B) (p : A × B → Bool) (s : List A) (t : List B) → length s ≤ length t
    → list_all p (zip s t) ≡ all_below (length s) (λ i. p (get_or s i d, get_or t i e))
unfolding all_below
all_zip_places d e p [] t h = refl
all_zip_places d e p (x ∷ s) [] h = absurd (omega arith)
all_zip_places d e p (x ∷ s) (y ∷ t) h =
    ap (λ b. p (x, y) && b) (all_zip_places d e p s t (omega arith)) ∙ sym (all_first (length s) (λ i. p (get_or (x ∷ s) i d, get_or (y ∷ t) i e)))
