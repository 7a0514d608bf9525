-- What it means that a number is none of some keys.
use Rattle.std.specs.Prelude.{Bool, true, false, ◌||◌, List, [], ◌∷◌, ◌≡◌, refl, ℕ, zero, suc, ◌≤◌, eqb}
use Rattle.std.proofs.lemmas.Bool.{false≢true}
use Rattle.std.proofs.Common.{ap₂, sym, ap, ◌∙◌, arith}
use Rattle.prelude.specs.SaysLaws.{says_eq, says_false}
use Rattle.prelude.specs.Unlike.{Unlike, among, countdown}

pub unlike_among : (n : ℕ) (keys : List ℕ) → Unlike n keys → among keys n ≡ false
unfolding among
unlike_among n [] h = refl
unlike_among n (x ∷ xs) h = ap₂ (λ (a b : Bool). a || b) (says_false (says_eq n x) h.1) (unlike_among n xs h.0)

-- it is not the key x
pub unlike_key : (n : ℕ) (keys : List ℕ) → Unlike n keys → (x : ℕ) → among keys x ≡ true → eqb n x ≡ false
unlike_key n keys h x e = says_false (says_eq n x) (λ q. false≢true (sym (unlike_among n keys h) ∙ ap (among keys) q ∙ e))

-- it is at least k where it is none of the numbers below k
pub unlike_past : (n k : ℕ) → Unlike n (countdown k) → k ≤ n
unlike_past n zero h = omega arith
unlike_past n (suc k) h = omega (arith, unlike_past n k h.0, h.1)
