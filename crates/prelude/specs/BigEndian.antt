-- Numbers of several bytes. Document 01: "numbers most significant byte first".
use Rattle.std.specs.Prelude.{List, [], ◌∷◌, ◌++◌, ℕ, zero, suc, ◌+◌, ◌*◌, ◌/◌, ◌%◌, get_or}

-- the number of the n bytes of s from at, most significant first
unfoldable pub big_endian : ℕ → ℕ → List ℕ → ℕ
big_endian zero at s = 0
big_endian (suc n) at s = big_endian n at s * 256 + get_or s (at + n) 0

-- the n bytes of the number x, most significant first
unfoldable pub big_endian_bytes : ℕ → ℕ → List ℕ
big_endian_bytes zero x = []
big_endian_bytes (suc n) x = big_endian_bytes n (x / 256) ++ (x % 256 ∷ [])
