-- A number that is none of some keys, as the last arm of a `match` on numbers tells it.
use Rattle.std.specs.Prelude.{Bool, false, ◌||◌, List, [], ◌∷◌, ◌≡◌, ℕ, zero, suc, eqb}

-- n is none of the keys, which stand from the last arm to the first
abbrev pub Unlike : ℕ → List ℕ → Type 0
Unlike n [] = Unit {0}
Unlike n (x ∷ xs) = Unlike n xs × ¬ (n ≡ x)

-- n is one of the keys
unfoldable pub among : List ℕ → ℕ → Bool
among [] n = false
among (x ∷ xs) n = eqb n x || among xs n

-- the numbers below k, the last first: the keys of a `match` that counts from 0
abbrev pub countdown : ℕ → List ℕ
countdown zero = []
countdown (suc k) = k ∷ countdown k
