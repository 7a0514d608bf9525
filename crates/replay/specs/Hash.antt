-- FNV-1a with 64 bits.
use Rattle.std.specs.Prelude.{ℕ, ◌*◌, ◌%◌, ◌^◌, List, bit_xor}
use Rattle.std.specs.List.{fold}

abbrev pub prime : ℕ
prime = 1099511628211

abbrev pub basis : ℕ
basis = 14695981039346656037

-- the hash with one more byte
unfoldable pub mixed : ℕ → ℕ → ℕ
mixed hash byte = bit_xor hash byte * prime % 2 ^ 64

-- and with all bytes of s, the first one first
abbrev pub fnv1a : List ℕ → ℕ
fnv1a s = fold mixed basis s
