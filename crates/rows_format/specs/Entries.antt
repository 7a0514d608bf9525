-- Set entries. Document 01: "the seven sets in the order above, two bytes an entry, strictly rising, not empty".
use Rattle.std.specs.Prelude.{Bool, true, ◌&&◌, List, [], ◌∷◌, ◌++◌, ℕ, suc, ◌+◌, ◌*◌, leb, ltb}
use Rattle.prelude.specs.BigEndian.{big_endian_bytes}

-- the numbers of two bytes each
unfoldable pub entries : List ℕ → List ℕ
entries [] = []
entries (a ∷ []) = []
entries (a ∷ b ∷ v) = (a * 256 + b) ∷ entries v

-- the bytes of such numbers
unfoldable pub entry_bytes : List ℕ → List ℕ
entry_bytes [] = []
entry_bytes (x ∷ xs) = big_endian_bytes 2 x ++ entry_bytes xs

-- each number is above the one before and below the limit, the first at least low
unfoldable pub rises_below : ℕ → ℕ → List ℕ → Bool
rises_below limit low [] = true
rises_below limit low (x ∷ xs) = leb low x && (ltb x limit && rises_below limit (suc x) xs)
