-- Strings of bytes stay such: put together, cut and put into one another; and a number written.
use Rattle.std.specs.Prelude.{List, [], ◌∷◌, ◌++◌, ℕ, zero, suc, ◌+◌, ◌-◌, ◌/◌, ◌%◌, ◌<◌, length, take, drop}
use Rattle.std.proofs.Common.{arith, get_or-drop}
use Rattle.prelude.specs.Part.{part, splice, zeros, padded, Bytes}
use Rattle.prelude.specs.PartLaws.{part_bytes, zeros_at}
use Rattle.prelude.specs.BigEndian.{big_endian_bytes}

pub no_bytes : Bytes []
no_bytes i = omega arith

pub cons_bytes : (x : ℕ) (s : List ℕ) → x < 256 → Bytes s → Bytes (x ∷ s)
cons_bytes x s h b zero = h
cons_bytes x s h b (suc i) = b i

pub append_bytes : (s t : List ℕ) → Bytes s → Bytes t → Bytes (s ++ t)
append_bytes [] t b c i = c i
append_bytes (x ∷ s) t b c zero = b 0
append_bytes (x ∷ s) t b c (suc i) = append_bytes s t (λ k. b (suc k)) c i

pub zeros_bytes : (n : ℕ) → Bytes (zeros n)
zeros_bytes n i = omega (arith, zeros_at n i)

pub padded_bytes : (n : ℕ) (s : List ℕ) → Bytes s → Bytes (padded n s)
unfolding padded
padded_bytes n s b = append_bytes s (zeros (n - length s)) b (zeros_bytes (n - length s))

take_bytes : (n : ℕ) (s : List ℕ) → Bytes s → Bytes (take n s)
unfolding part
take_bytes n s b = part_bytes 0 n s b

pub drop_bytes : (n : ℕ) (s : List ℕ) → Bytes s → Bytes (drop n s)
drop_bytes n s b i = rw get_or-drop (b (n + i))

pub splice_bytes : (at : ℕ) (new s : List ℕ) → Bytes new → Bytes s → Bytes (splice at new s)
unfolding splice
splice_bytes at new s b c =
    append_bytes (take at s) (new ++ drop (at + length new) s) (take_bytes at s c)
    (append_bytes new (drop (at + length new) s) b (drop_bytes (at + length new) s c))

-- a number of any size, written: its digits are bytes
pub digits_bytes : (n x : ℕ) → Bytes (big_endian_bytes n x)
unfolding big_endian_bytes
digits_bytes zero x = no_bytes
digits_bytes (suc n) x = append_bytes (big_endian_bytes n (x / 256)) (x % 256 ∷ []) (digits_bytes n (x / 256)) (cons_bytes (x % 256) [] (omega arith) no_bytes)
