-- A part of a byte string, a row of a table, a part replaced, zeros and zero padding, and the test of two byte strings.
use Rattle.std.specs.Prelude.{Bool, ◌&&◌, List, ◌++◌, ℕ, ◌+◌, ◌-◌, ◌*◌, ◌<◌, eqb, length, get_or, take, drop, replicate}
use Rattle.prelude.specs.Below.{all_below}

-- the n bytes from at
unfoldable pub part : ℕ → ℕ → List ℕ → List ℕ
part at n s = take n (drop at s)

-- row k of a table whose rows are width bytes wide, the first at base
abbrev pub row_at : ℕ → ℕ → List ℕ → ℕ → List ℕ
row_at base width s k = part (base + width * k) width s

-- s with the bytes from at on replaced by as many new ones
unfoldable pub splice : ℕ → List ℕ → List ℕ → List ℕ
splice at new s = take at s ++ (new ++ drop (at + length new) s)

-- n zero bytes. Shut, since `replicate 189 0` would be written out in every goal
unfoldable pub zeros : ℕ → List ℕ
zeros n = replicate n 0

-- s, zero padded to n bytes
unfoldable pub padded : ℕ → List ℕ → List ℕ
padded n s = s ++ zeros (n - length s)

-- a and b are the same bytes
unfoldable pub same_bytes : List ℕ → List ℕ → Bool
same_bytes a b = eqb (length a) (length b) && all_below (length a) (λ i. eqb (get_or a i 0) (get_or b i 0))

-- every byte of s is zero
unfoldable pub is_zero : List ℕ → Bool
is_zero s = all_below (length s) (λ i. eqb (get_or s i 0) 0)

-- numbers that are bytes, as all that memory holds
abbrev pub Bytes : List ℕ → Type 0
Bytes s = (i : ℕ) → get_or s i 0 < 256
