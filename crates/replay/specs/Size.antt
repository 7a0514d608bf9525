-- How long a store or an output can be.
use Rattle.std.specs.Prelude.{ℕ, cond, nat_lt, Option, Some, None}

-- 64 KiB: the format allows 1 MiB, but the player has no heap
abbrev pub longest : ℕ
longest = 65536

-- a length that a script asks for, if it is no longer than that
abbrev pub size_of : ℕ → Option ℕ
size_of n = cond (nat_lt longest n) None (Some n)
