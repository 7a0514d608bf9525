-- What the machine's operations on a byte do to its digits, and so to a set's members.
use mathlib.Core.Path.{◌≡◌, refl, sym, ap, ap₂, ◌∙◌}
use mathlib.Core.List.{List}
use mathlib.Core.Bool.{Bool, not, ◌&&◌, ◌||◌}
use Prim.Native.Nat.{ℕ, zero, suc, ◌+◌, ◌-◌, ◌*◌, ◌/◌, ◌%◌, ◌^◌, ◌≤◌, ◌<◌, min, max}
use native.Mathlib.Nat.{pow-suc, mul-mod_left, mul-div_cancel, zero-lt-suc, mod-lt, min-le_left, lt_of_le_of_lt, one-mul, le_refl}
use native.Mathlib.Omega.{arith}
use native.Mathlib.Numerals.{add-one}
use mir.Syntax.{w8}
use Rattle.std.proofs.lemmas.Nat.Bits.{bit_at_not}
use native.Mathlib.Decide.{ℕ_discrete, dec_lt}
use lib.Arith.{digits_mod}
use lib.Pow.{shl_exact}
use lib.Bits.{bit_or, bit_and, or_step, and_step, or_shr, and_shr, or_lt, and_lt}
use lib.Dec.{eqb}
use lib.ListN.{length, get_or, set, length-set, take}
use Rattle.std.specs.List.{sum_by}
use Rattle.std.specs.Int.Count.{ones}
use Rattle.std.proofs.lemmas.List.Sums.{sum_by_more}
use Rattle.sets.specs.CountLaws.{count_byte}
use lib.Seq.{get_or-set_same, get_or-set_other}
use Rattle.prelude.specs.BelowLaws.{says_all}
use Rattle.prelude.specs.Part.{is_zero}
use Rattle.prelude.specs.SaysLaws.{says_iff, says_same, says_eq, says_true, says_false}
use Rattle.sets.specs.Sets.{flag, digit, bit, member, count_below, set_of, with_member, without_member, union, is_empty}
use Rattle.sets.specs.SetsLaws.{digit_lt, digit_zero, digit_suc, no_digit, digit_ext, digit_bit, bit_past, bit_flag, is_set, set_bytes, bit_set}
use Rattle.sets.specs.SetsLaws.{flag_or, flag_and, flag_not, or-false, and_true, says_empty}

-- ---- digits of the machine's operations

module _ (a b k : ℕ) where
  pub digit_or : digit (bit_or a b) k ≡ max (digit a k) (digit b k)
  unfolding digit
  digit_or =
      ap (λ (y : ℕ). y % 2) (or_shr a b k ∙ or_step (a / 2 ^ k) (b / 2 ^ k))
      ∙ digits_mod (bit_or (a / 2 ^ k / 2) (b / 2 ^ k / 2)) (let p : digit a k < 2 = digit_lt a k in let q : digit b k < 2 = digit_lt b k in omega arith)

  digit_and : digit (bit_and a b) k ≡ min (digit a k) (digit b k)
  unfolding digit
  digit_and =
      ap (λ (y : ℕ). y % 2) (and_shr a b k ∙ and_step (a / 2 ^ k) (b / 2 ^ k))
      ∙ digits_mod (bit_and (a / 2 ^ k / 2) (b / 2 ^ k / 2)) (lt_of_le_of_lt (min-le_left (digit a k) (digit b k)) (digit_lt a k))

-- the digits of a power of two
digit_pow : (m j : ℕ) → digit (2 ^ m) j ≡ flag (eqb j m)
digit_pow m j = go (ℕ_discrete j m)
  where
    here : (m : ℕ) → digit (2 ^ m) m ≡ 1
    here zero = digit_zero 1
    here (suc m) = digit_suc (2 ^ suc m) m ∙ ap (λ (y : ℕ). digit (y / 2) m) (pow-suc 2 m)
        ∙ ap (λ (y : ℕ). digit y m) (mul-div_cancel (2 ^ m) (zero-lt-suc 1)) ∙ here m

    other : (m j : ℕ) → ¬ (j ≡ m) → digit (2 ^ m) j ≡ 0
    other zero zero h = absurd (h refl)
    other zero (suc j) h = digit_suc 1 j ∙ no_digit j
    other (suc m) zero h = digit_zero (2 ^ suc m) ∙ ap (λ (y : ℕ). y % 2) (pow-suc 2 m) ∙ mul-mod_left (2 ^ m) 2
    other (suc m) (suc j) h =
        digit_suc (2 ^ suc m) j ∙ ap (λ (y : ℕ). digit (y / 2) j) (pow-suc 2 m) ∙ ap (λ (y : ℕ). digit y j) (mul-div_cancel (2 ^ m) (zero-lt-suc 1))
        ∙ other m j (λ e. h (ap suc e))

    go : Dec (j ≡ m) → digit (2 ^ m) j ≡ flag (eqb j m)
    go (yes e) = ap (digit (2 ^ m)) e ∙ here m ∙ ap flag (sym (says_true (says_eq j m) e))
    go (no d) = other m j d ∙ ap flag (sym (says_false (says_eq j m) d))

-- `1u8 << (n % 8)`
abbrev pub mask : ℕ → ℕ
mask n = (1 * 2 ^ (n % 8)) % 2 ^ 8

module _ (n : ℕ) where
  mask_is : mask n ≡ 2 ^ (n % 8)
  mask_is = shl_exact {a = 1} 1 (n % 8) 8 (le_refl 2) (let l : n % 8 < 8 = mod-lt n (zero-lt-suc 7) in omega arith) ∙ one-mul (2 ^ (n % 8))

  -- its digit at a number of the same byte says whether that number is n
  mask_digit : (k : ℕ) → k / 8 ≡ n / 8 → digit (mask n) (k % 8) ≡ flag (eqb k n)
  mask_digit k e =
      ap (λ (x : ℕ). digit x (k % 8)) mask_is ∙ digit_pow (n % 8) (k % 8)
      ∙ ap flag (says_same (says_iff (says_eq (k % 8) (n % 8)) (λ h. omega arith, λ h. ap (λ (x : ℕ). x % 8) h)) (says_eq k n))

  mask_small : mask n < 256
  mask_small = mod-lt (1 * 2 ^ (n % 8)) (zero-lt-suc 255)

  -- and the same of `!(1u8 << (n % 8))`
  unmasked_digit : (k : ℕ) → k / 8 ≡ n / 8 → digit (255 - mask n) (k % 8) ≡ flag (not (eqb k n))
  unfolding digit
  unmasked_digit k e =
      bit_at_not w8 (mask n) (k % 8) mask_small (mod-lt k (zero-lt-suc 7)) ∙ ap (λ (x : ℕ). 1 - x) (mask_digit k e) ∙ sym (flag_not (eqb k n))

-- ---- a byte stored in a set

-- where byte i of s is replaced by v, and f holds where v's digits and the other members are
stored : (s : List ℕ) (i v : ℕ) (f : ℕ → Bool) → ((j : ℕ) → get_or s j 0 < 256) → i < length s → v < 256
    → ((k : ℕ) → k / 8 ≡ i → digit v (k % 8) ≡ flag (f k)) → ((k : ℕ) → ¬ (k / 8 ≡ i) → bit s k ≡ flag (f k)) → set s i v ≡ set_of (length s) f
unfolding bit
stored s i v f b l small new old = is_set (set s i v) (length s) f (length-set s i v) (λ j. byte j (ℕ_discrete j i)) (λ k m. at k (ℕ_discrete (k / 8) i))
  where
    byte : (j : ℕ) → Dec (j ≡ i) → get_or (set s i v) j 0 < 256
    byte j (yes e) = rw (e, get_or-set_same s i v 0 l) small
    byte j (no d) = rw (get_or-set_other s i j v 0 d) (b j)

    at : (k : ℕ) → Dec (k / 8 ≡ i) → bit (set s i v) k ≡ flag (f k)
    at k (yes e) = ap (λ (j : ℕ). digit (get_or (set s i v) j 0) (k % 8)) e ∙ ap (λ (x : ℕ). digit x (k % 8)) (get_or-set_same s i v 0 l) ∙ new k e
    at k (no d) = ap (λ (x : ℕ). digit x (k % 8)) (get_or-set_other s i (k / 8) v 0 d) ∙ old k d

module _ (s : List ℕ) (n : ℕ) (bytes : (j : ℕ) → get_or s j 0 < 256) (l : n / 8 < length s) where
  abbrev pub own : ℕ
  own = get_or s (n / 8) 0

  -- the member of a number of n's byte is that byte's digit
  own_digit : (k : ℕ) → k / 8 ≡ n / 8 → digit own (k % 8) ≡ flag (member s k)
  unfolding bit
  own_digit k e = ap (λ (j : ℕ). digit (get_or s j 0) (k % 8)) (sym e) ∙ bit_flag s k

  pub inserted : set s (n / 8) (bit_or own (mask n)) ≡ with_member n s
  unfolding with_member
  inserted =
      stored s (n / 8) (bit_or own (mask n)) (λ k. member s k || eqb k n) bytes l (or_lt 8 own (mask n) (bytes (n / 8)) (mask_small n))
      (λ k e. digit_or own (mask n) (k % 8) ∙ ap₂ max (own_digit k e) (mask_digit n k e) ∙ sym (flag_or (member s k) (eqb k n)))
      (λ k d. bit_flag s k ∙ ap flag (sym (or-false (member s k) (eqb k n) (says_false (says_eq k n) (λ e. d (ap (λ (x : ℕ). x / 8) e))))))

  pub removed : set s (n / 8) (bit_and own (255 - mask n)) ≡ without_member n s
  unfolding without_member
  removed =
      stored s (n / 8) (bit_and own (255 - mask n)) (λ k. member s k && not (eqb k n)) bytes l
      (and_lt 8 own (255 - mask n) (bytes (n / 8)) (omega arith))
      (λ k e. digit_and own (255 - mask n) (k % 8) ∙ ap₂ min (own_digit k e) (unmasked_digit n k e) ∙ sym (flag_and (member s k) (not (eqb k n))))
      (λ k d. bit_flag s k ∙ ap flag (sym (and_true (member s k) (not (eqb k n)) (ap not (says_false (says_eq k n) (λ e. d (ap (λ (x : ℕ). x / 8) e)))))))

-- ---- a byte of two sets, without a third

-- its digit at n says whether n is a member of one of the two and not of the third
pub left_digit : (a b s : List ℕ) (n : ℕ) → get_or s (n / 8) 0 < 256
    → digit (bit_and (bit_or (get_or a (n / 8) 0) (get_or b (n / 8) 0)) (255 - get_or s (n / 8) 0)) (n % 8)
    ≡ flag ((member a n || member b n) && not (member s n))
unfolding digit bit
left_digit a b s n small =
    digit_and (bit_or (get_or a (n / 8) 0) (get_or b (n / 8) 0)) (255 - get_or s (n / 8) 0) (n % 8)
    ∙ ap₂ min
    (digit_or (get_or a (n / 8) 0) (get_or b (n / 8) 0) (n % 8) ∙ ap₂ max (bit_flag a n) (bit_flag b n) ∙ sym (flag_or (member a n) (member b n)))
    (bit_at_not w8 (get_or s (n / 8) 0) (n % 8) small (mod-lt n (zero-lt-suc 7)) ∙ ap (λ (x : ℕ). 1 - x) (bit_flag s n) ∙ sym (flag_not (member s n)))
    ∙ sym (flag_and (member a n || member b n) (not (member s n)))

-- ---- a byte of a union

pub union_byte : (a b : List ℕ) (i : ℕ) → i < length a → get_or a i 0 < 256 → get_or b i 0 < 256 → bit_or (get_or a i 0) (get_or b i 0) ≡ get_or (union a b) i 0
unfolding union
union_byte a b i l ha hb =
    digit_ext 8 (bit_or (get_or a i 0) (get_or b i 0)) (get_or (set_of (length a) f) i 0) (or_lt 8 (get_or a i 0) (get_or b i 0) ha hb) (set_bytes (length a) f i) (λ k m.
    digit_or (get_or a i 0) (get_or b i 0) k ∙ ap₂ max (digit_bit a i k m ∙ bit_flag a (i * 8 + k)) (digit_bit b i k m ∙ bit_flag b (i * 8 + k))
    ∙ sym (flag_or (member a (i * 8 + k)) (member b (i * 8 + k))) ∙ sym (bit_set (length a) f (i * 8 + k) (omega arith))
    ∙ sym (digit_bit (set_of (length a) f) i k m))
  where
    f : ℕ → Bool
    f k = member a k || member b k

-- ---- bytes of a subset, and of the empty set

-- joining a's byte changes b's nowhere exactly where each member of a is one of b
pub subset_byte : (a b : List ℕ) (i : ℕ) → get_or a i 0 < 256 → get_or b i 0 < 256 → ((k : ℕ) → bit a k ≤ bit b k) → bit_or (get_or a i 0) (get_or b i 0) ≡ get_or b i 0
subset_byte a b i ha hb h =
    digit_ext 8 (bit_or (get_or a i 0) (get_or b i 0)) (get_or b i 0) (or_lt 8 (get_or a i 0) (get_or b i 0) ha hb) hb (λ k l.
    digit_or (get_or a i 0) (get_or b i 0) k
    ∙ (let p : bit a (i * 8 + k) ≤ bit b (i * 8 + k) = h (i * 8 + k) in omega (arith, digit_bit a i k l, digit_bit b i k l)))

pub subset_bytes : (a b : List ℕ) → ((i : ℕ) → i < length a → bit_or (get_or a i 0) (get_or b i 0) ≡ get_or b i 0) → (k : ℕ) → bit a k ≤ bit b k
unfolding bit
subset_bytes a b h k = go (dec_lt (k / 8) (length a))
  where
    x : ℕ
    x = get_or a (k / 8) 0

    y : ℕ
    y = get_or b (k / 8) 0

    go : Dec (k / 8 < length a) → digit x (k % 8) ≤ digit y (k % 8)
    go (yes l) = let p : digit y (k % 8) ≡ max (digit x (k % 8)) (digit y (k % 8)) = sym (ap (λ (n : ℕ). digit n (k % 8)) (h (k / 8) l))
        ∙ digit_or x y (k % 8) in omega arith
    go (no g) = omega (arith, bit_past a k (omega arith))

no_members : (s : List ℕ) (i : ℕ) → get_or s i 0 < 256 → ((k : ℕ) → bit s k ≡ 0) → get_or s i 0 ≡ 0
no_members s i l h = digit_ext 8 (get_or s i 0) 0 l (omega arith) (λ k m. digit_bit s i k m ∙ h (i * 8 + k) ∙ sym (no_digit k))

no_bytes : (s : List ℕ) → ((i : ℕ) → i < length s → get_or s i 0 ≡ 0) → (k : ℕ) → bit s k ≡ 0
unfolding bit
no_bytes s h k = go (dec_lt (k / 8) (length s))
  where
    go : Dec (k / 8 < length s) → digit (get_or s (k / 8) 0) (k % 8) ≡ 0
    go (yes l) = ap (λ (x : ℕ). digit x (k % 8)) (h (k / 8) l) ∙ no_digit (k % 8)
    go (no g) = bit_past s k (omega arith)

-- no member, and no byte but zeros
pub zero_empty : (s : List ℕ) → ((i : ℕ) → get_or s i 0 < 256) → is_zero s ≡ is_empty s
unfolding is_zero
zero_empty s b =
    says_same (says_iff (says_all (length s) (λ i l. says_eq (get_or s i 0) 0)) (no_bytes s, λ h i l. no_members s i (b i) h)) (says_empty s)

-- ---- the members counted

-- the ones of the first bytes
pub counted : (s : List ℕ) → ((i : ℕ) → get_or s i 0 < 256) → (i : ℕ) → i ≤ length s → sum_by ones (take i s) ≡ count_below (i * 8) (member s)
unfolding count_below
counted s b zero l = refl
counted s b (suc i) l =
    rw (← add-one i) (sum_by_more ones s i 0 (omega arith) ∙ ap (λ (n : ℕ). n + ones (get_or s i 0)) (counted s b i (omega arith)) ∙ sym (count_byte s i (b i)))
