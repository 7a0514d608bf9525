-- Laws of big-endian numbers, each for any number of bytes.
use Rattle.std.specs.Prelude.{◌≡◌, refl, List, [], ◌∷◌, ◌++◌, length}
use Rattle.std.proofs.Math.Path.{sym}
use Rattle.std.proofs.Common.{ap, ◌∙◌, append_assoc, add-zero, pow-suc, zero-lt-suc, div-lt_iff_lt-mul, div-add-mod', length-append, get_or-append-add}
use Prim.Native.Nat.{ℕ, zero, suc, ◌+◌, ◌*◌, ◌/◌, ◌%◌, ◌^◌, ◌≤◌, ◌<◌}
use native.Mathlib.Omega.{arith}
use Rattle.std.proofs.Math.Numerals.{add-one}
use Rattle.std.proofs.Math.Arith.{digits_div, digits_mod, digits_lt}
use Rattle.std.proofs.Math.ListN.{get_or}
use Rattle.std.proofs.lemmas.List.{get_or_at}
use Rattle.prelude.specs.Part.{part}
use Rattle.prelude.specs.PartLaws.{part_at, part_none, part_snoc}
use Rattle.prelude.specs.BigEndian.{big_endian, big_endian_bytes}

-- ---- the widths in use, as sums of bytes

pub two_bytes : (at : ℕ) (s : List ℕ) → big_endian 2 at s ≡ get_or s at 0 * 256 + get_or s (at + 1) 0
unfolding big_endian
two_bytes at s = let e : at + 0 ≡ at = add-zero at in rw e (omega arith)

pub four_bytes : (at : ℕ) (s : List ℕ) → big_endian 4 at s ≡ big_endian 2 at s * 65536 + big_endian 2 (at + 2) s
unfolding big_endian
four_bytes at s =
    let e : at + 2 + 0 ≡ at + 2 = add-zero (at + 2) in
    let f : at + 2 + 1 ≡ at + 3 = omega arith in
    rw (e, f) (omega arith)

-- ---- bytes of a number

pub bytes_length : (n x : ℕ) → length (big_endian_bytes n x) ≡ n
unfolding big_endian_bytes
bytes_length zero x = refl
bytes_length (suc n) x = length-append (big_endian_bytes n (x / 256)) (x % 256 ∷ []) ∙ ap (λ (k : ℕ). k + 1) (bytes_length n (x / 256)) ∙ add-one n

-- the number is read off its bytes, whatever stands before and after them
pub number_of_bytes : (n x : ℕ) (p q : List ℕ) → x < 256 ^ n → big_endian n (length p) (p ++ (big_endian_bytes n x ++ q)) ≡ x
unfolding big_endian big_endian_bytes
number_of_bytes zero x p q h = omega arith
number_of_bytes (suc n) x p q h =
    let high : ℕ = x / 256 in
    let low : ℕ = x % 256 in
    let small : high < 256 ^ n = (div-lt_iff_lt-mul (zero-lt-suc 255)).1 (rw (pow-suc 256 n) at h) in
    let last : get_or (p ++ (big_endian_bytes n high ++ (low ∷ q))) (length p + n) 0 ≡ low =
    get_or-append-add p (big_endian_bytes n high ++ (low ∷ q)) n 0 ∙ get_or_at (big_endian_bytes n high) low q 0 n (bytes_length n high) in
    rw (append_assoc (big_endian_bytes n high) (low ∷ []) q, number_of_bytes n high p (low ∷ q) small, last) (div-add-mod' x 256)

-- ---- number of bytes

module _ (s : List ℕ) (bytes : (i : ℕ) → get_or s i 0 < 256) where
  pub number_small : (n at : ℕ) → big_endian n at s < 256 ^ n
  unfolding big_endian
  number_small zero at = omega arith
  number_small (suc n) at = rw (pow-suc 256 n) (digits_lt (number_small n at) (bytes (at + n)))

  -- the bytes of the number are those that it was read off
  pub bytes_of_number : (n at : ℕ) → at + n ≤ length s → big_endian_bytes n (big_endian n at s) ≡ part at n s
  unfolding big_endian big_endian_bytes
  bytes_of_number zero at h = sym (part_none at s)
  bytes_of_number (suc n) at h =
      let b : get_or s (at + n) 0 < 256 = bytes (at + n) in
      rw (digits_div (big_endian n at s) b, digits_mod (big_endian n at s) b, bytes_of_number n at (omega arith), ← add-one n, part_snoc at n s (omega arith))

-- a number within a part
pub number_in_part : (n i at m : ℕ) (s : List ℕ) → i + n ≤ m → big_endian n i (part at m s) ≡ big_endian n (at + i) s
unfolding big_endian
number_in_part zero i at m s h = refl
number_in_part (suc n) i at m s h =
    let e : at + (i + n) ≡ at + i + n = omega arith in
    rw (number_in_part n i at m s (omega arith), part_at at m s (i + n) (omega arith), e)
