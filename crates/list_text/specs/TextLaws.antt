-- What the decimal digits of a number are, and how long they are. Theorems for a reader: `decimal_value`, `decimal_digit`,
-- `decimal_first`. The other laws serve the proofs.
use Rattle.std.specs.Prelude.{List, [], ◌∷◌, ◌++◌, ◌≡◌, refl, ℕ, zero, suc, ◌+◌, ◌-◌, ◌*◌, ◌/◌, ◌%◌, ◌^◌, ◌≤◌, ◌<◌, ltb, length, get_or}
use Rattle.std.proofs.Common.{sym, ap, ◌∙◌, pow-suc, zero-lt-suc, div-lt_iff_lt-mul, length-append, lt-ltb, le-ltb}
use Rattle.std.proofs.Math.Decide.{dec_lt}
use native.Mathlib.Omega.{arith}
use Rattle.std.proofs.Math.ListN.{get_or-append}
use Rattle.std.proofs.lemmas.List.{get_or_at}
use Rattle.list_text.specs.Text.{digits_within, decimal, value, word}

-- ---- one digit, and the digits before the last

abbrev digits : ℕ → ℕ → List ℕ
digits k n = digits_within k n (ltb n 10)

digits_few : (k n : ℕ) → n < 10 → digits (suc k) n ≡ (48 + n % 10) ∷ []
unfolding digits_within
digits_few k n h = let e : n % 10 ≡ n = omega arith in rw (lt-ltb n 10 h, e)

digits_more : (k n : ℕ) → 10 ≤ n → digits (suc k) n ≡ digits k (n / 10) ++ ((48 + n % 10) ∷ [])
unfolding digits_within
digits_more k n h = rw (le-ltb n 10 h)

-- as many digits as the number asks for, however many are allowed
digits_enough : (k m n : ℕ) → n < k → n < m → digits k n ≡ digits m n
digits_enough zero m n h g = absurd (omega arith)
digits_enough (suc k) zero n h g = absurd (omega arith)
digits_enough (suc k) (suc m) n h g = go (dec_lt n 10) (λ a b. digits_enough k m (n / 10) a b)
  where
    go : Dec (n < 10) → (n / 10 < k → n / 10 < m → digits k (n / 10) ≡ digits m (n / 10)) → digits (suc k) n ≡ digits (suc m) n
    go (yes l) ih = digits_few k n l ∙ sym (digits_few m n l)
    go (no l) ih =
        digits_more k n (omega arith) ∙ ap (λ (ds : List ℕ). ds ++ ((48 + n % 10) ∷ [])) (ih (omega arith) (omega arith))
        ∙ sym (digits_more m n (omega arith))

pub decimal_one : (n : ℕ) → n < 10 → decimal n ≡ (48 + n % 10) ∷ []
unfolding decimal
decimal_one n h = digits_few n n h

pub decimal_more : (n : ℕ) → 10 ≤ n → decimal n ≡ decimal (n / 10) ++ ((48 + n % 10) ∷ [])
unfolding decimal
decimal_more n h = digits_more n n h ∙ ap (λ (ds : List ℕ). ds ++ ((48 + n % 10) ∷ [])) (digits_enough n (suc (n / 10)) (n / 10) (omega arith) (omega arith))

pub one_length : (n : ℕ) → n < 10 → length (decimal n) ≡ 1
one_length n h = ap length (decimal_one n h)

pub more_length : (n : ℕ) → 10 ≤ n → length (decimal n) ≡ length (decimal (n / 10)) + 1
more_length n h = ap length (decimal_more n h) ∙ length-append (decimal (n / 10)) ((48 + n % 10) ∷ [])

-- ---- what the digits are: their value is the number, each is a digit, and the first is not 0 unless it is the only one

value_behind : (n d : ℕ) (ds : List ℕ) → value n (ds ++ (d ∷ [])) ≡ value n ds * 10 + (d - 48)
unfolding value
value_behind n d [] = refl
value_behind n d (e ∷ ds) = value_behind (n * 10 + (e - 48)) d ds

within_value : (k n : ℕ) → n < k → value 0 (digits k n) ≡ n
within_value zero n h = absurd (omega arith)
within_value (suc k) n h = go (dec_lt n 10) (within_value k (n / 10))
  where
    one : n < 10 → value 0 ((48 + n % 10) ∷ []) ≡ n
    one l = unfold value in omega arith

    go : Dec (n < 10) → (n / 10 < k → value 0 (digits k (n / 10)) ≡ n / 10) → value 0 (digits (suc k) n) ≡ n
    go (yes l) ih = ap (value 0) (digits_few k n l) ∙ one l
    go (no l) ih =
        ap (value 0) (digits_more k n (omega arith)) ∙ value_behind 0 (48 + n % 10) (digits k (n / 10))
        ∙ ap (λ (x : ℕ). x * 10 + (48 + n % 10 - 48)) (ih (omega arith)) ∙ omega arith

pub decimal_value : (n : ℕ) → value 0 (decimal n) ≡ n
unfolding decimal
decimal_value n = within_value (suc n) n (omega arith)

digits_some : (k n : ℕ) → n < k → 0 < length (digits k n)
digits_some zero n h = absurd (omega arith)
digits_some (suc k) n h = go (dec_lt n 10)
  where
    go : Dec (n < 10) → 0 < length (digits (suc k) n)
    go (yes l) = omega (arith, ap length (digits_few k n l))
    go (no l) = omega (arith, ap length (digits_more k n (omega arith)), length-append (digits k (n / 10)) ((48 + n % 10) ∷ []))

within_first : (k n : ℕ) → n < k → 0 < n → 48 < get_or (digits k n) 0 0
within_first zero n h p = absurd (omega arith)
within_first (suc k) n h p = go (dec_lt n 10) (within_first k (n / 10))
  where
    go : Dec (n < 10) → (n / 10 < k → 0 < n / 10 → 48 < get_or (digits k (n / 10)) 0 0) → 48 < get_or (digits (suc k) n) 0 0
    go (yes l) ih = omega (arith, ap (λ (ds : List ℕ). get_or ds 0 0) (digits_few k n l))
    go (no l) ih =
        let before : List ℕ = digits k (n / 10) in
        omega (
          arith,
          ih (omega arith) (omega arith),
          ap (λ (ds : List ℕ). get_or ds 0 0) (digits_more k n (omega arith)),
          get_or-append before
              ((48 + n % 10) ∷ []) 0 0 (digits_some k (n / 10) (omega arith)),
        )

-- no number but 0 begins with 0
pub decimal_first : (n : ℕ) → 0 < n → 48 < get_or (decimal n) 0 0
unfolding decimal
decimal_first n p = within_first (suc n) n (omega arith) p

within_digit : (k n i : ℕ) → i < length (digits k n) → (48 ≤ get_or (digits k n) i 0) × (get_or (digits k n) i 0 < 58)
within_digit zero n i h = absurd (unfold digits_within in omega arith)
within_digit (suc k) n i h = go (dec_lt n 10) (within_digit k (n / 10) i)
  where
    before : List ℕ
    before = digits k (n / 10)

    last : ℕ
    last = 48 + n % 10

    Digit : ℕ → Type 0
    Digit d = (48 ≤ d) × (d < 58)

    -- of the digits before the last, or the last
    put : (i < length before → Digit (get_or before i 0)) → i < length before + 1 → Dec (i < length before) → Digit (get_or (before ++ (last ∷ [])) i 0)
    put ih b (yes l) = rw (get_or-append before (last ∷ []) 0 i l) (ih l)
    put ih b (no l) = rw (get_or_at before last [] 0 i (omega arith)) (omega arith, omega arith)

    go : Dec (n < 10) → (i < length before → Digit (get_or before i 0)) → Digit (get_or (digits (suc k) n) i 0)
    go (yes l) ih =
        let e : digits (suc k) n ≡ last ∷ [] = digits_few k n l in
        let z : i ≡ 0 = omega (arith, ap length e) in
        rw (e, z) (omega arith, omega arith)
    go (no l) ih =
        let e : digits (suc k) n ≡ before ++ (last ∷ []) = digits_more k n (omega arith) in
        rw e (put ih (omega (arith, ap length e, length-append before (last ∷ []))) (dec_lt i (length before)))

pub decimal_digit : (n i : ℕ) → i < length (decimal n) → (48 ≤ get_or (decimal n) i 0) × (get_or (decimal n) i 0 < 58)
unfolding decimal
decimal_digit n i h = within_digit (suc n) n i h

-- ---- how long they are

within_short : (k d n : ℕ) → n < 10 ^ suc d → length (digits k n) ≤ suc d
within_short zero d n h = unfold digits_within in omega arith
within_short (suc k) zero n h = omega (arith, ap length (digits_few k n (omega arith)))
within_short (suc k) (suc d) n h = go (dec_lt n 10) (within_short k d (n / 10) ((div-lt_iff_lt-mul (zero-lt-suc 9)).1 (rw (pow-suc 10 (suc d)) at h)))
  where
    go : Dec (n < 10) → length (digits k (n / 10)) ≤ suc d → length (digits (suc k) n) ≤ suc (suc d)
    go (yes l) ih = omega (arith, ap length (digits_few k n l))
    go (no l) ih = omega (arith, ap length (digits_more k n (omega arith)), length-append (digits k (n / 10)) ((48 + n % 10) ∷ []))

pub decimal_short : (d n : ℕ) → n < 10 ^ suc d → length (decimal n) ≤ suc d
unfolding decimal
decimal_short d n h = within_short (suc n) d n h

pub word_length : (v : List ℕ) (behind : ℕ) → length (word v behind) ≡ length v + 1
unfolding word
word_length v behind = length-append v (behind ∷ [])
