-- The answer of a call: the number of the first case that holds, and 0 where none does. Document 01: "The smallest number whose
-- condition holds." Document 02: "Demand 2's smallest is the first in this order". The order is the list's; that the ranks of its numbers rise is said apart.
use Rattle.std.specs.Prelude.{◌≡◌, Bool, true, false, cond, List, [], ◌∷◌, ℕ, ◌<◌}

-- a number that is given back where the condition holds
pub record Case : Type 0 where
  pub number : ℕ
  pub holds : Bool

infix 20 ◌when◌
abbrev pub ◌when◌ : ℕ → Bool → Case
n when b = record { number = n; holds = b }

unfoldable pub first_of : List Case → ℕ
first_of [] = 0
first_of (c ∷ cs) = cond c.holds c.number (first_of cs)

-- none of the conditions holds
abbrev pub NoneHolds : List Case → Type 0
NoneHolds [] = Unit {0}
NoneHolds (c ∷ cs) = (c.holds ≡ false) × NoneHolds cs

-- the first condition that holds has the number n
pub data FirstHolds (n : ℕ) : List Case → Type 0 where
  here : {c : Case} {cs : List Case} → c.holds ≡ true → c.number ≡ n → FirstHolds n (c ∷ cs)
  there : {c : Case} {cs : List Case} → c.holds ≡ false → FirstHolds n cs → FirstHolds n (c ∷ cs)

-- a condition that holds has the number n
pub data Among (n : ℕ) : List Case → Type 0 where
  here : {c : Case} {cs : List Case} → c.holds ≡ true → c.number ≡ n → Among n (c ∷ cs)
  there : {c : Case} {cs : List Case} → Among n cs → Among n (c ∷ cs)

-- no number is 0, so that 0 means that no condition holds
abbrev pub NonZero : List Case → Type 0
NonZero [] = Unit {0}
NonZero (c ∷ cs) = (0 < c.number) × NonZero cs

-- the ranks of the numbers rise from above n, so that the first has the smallest rank
abbrev pub Rising : (ℕ → ℕ) → ℕ → List Case → Type 0
Rising rank n [] = Unit {0}
Rising rank n (c ∷ cs) = (n < rank c.number) × Rising rank (rank c.number) cs
