-- Laws of sets as byte strings, each for any size. The callers' laws are those on `bit`; those on `digit` are what they rest on.
use Rattle.std.specs.Prelude.{◌≡◌, refl, ◌⊎◌, List, ◌∷◌, ◌++◌, Bool, true, false, not, ◌&&◌, ◌||◌, ℕ, zero, suc, ◌+◌, ◌-◌, ◌*◌, ◌/◌, ◌%◌, ◌^◌, ◌≤◌, ◌<◌, min, max, length, get_or, eqb}
use Rattle.std.proofs.Common.{sym, ap, ap₂, ◌∙◌, inl, inr, ⊎_elim, pow-suc, mul_comm, div-one, zero-lt-suc, mod-lt, div-lt_iff_lt-mul, arith, length-append, ext_get_or, get_or-append-add}
use Rattle.std.proofs.Math.Nat.{div-div-eq-div-mul, zero-div}
use Rattle.std.proofs.Math.Decide.{dec_lt}
use Rattle.std.proofs.Math.Arith.{lt-one}
use Rattle.std.proofs.Math.ListN.{get_or-eq_default, get_or-append}
use Rattle.prelude.specs.Says.{Says}
use Rattle.prelude.specs.Below.{Some}
use Rattle.prelude.specs.BelowLaws.{says_any, says_all}
use Rattle.prelude.specs.SaysLaws.{says_iff, says_or, says_not, says_eq, says_true, says_false, says_same, says_test, true_or_false}
use Rattle.prelude.specs.Part.{zeros, same_bytes}
use Rattle.prelude.specs.PartLaws.{zeros_at, says_same_bytes}
use Rattle.prelude.specs.BytesLaws.{append_bytes}
use Rattle.sets.specs.Sets.{flag, digit, bit, member, digits_of, set_of, with_member, without_member, union, subset, is_empty}

-- ---- digits

pub digit_lt : (x k : ℕ) → digit x k < 2
unfolding digit
digit_lt x k = mod-lt (x / 2 ^ k) (zero-lt-suc 1)

pub digit_zero : (x : ℕ) → digit x 0 ≡ x % 2
unfolding digit
digit_zero x = ap (λ (y : ℕ). y % 2) (div-one x)

pub digit_suc : (x k : ℕ) → digit x (suc k) ≡ digit (x / 2) k
unfolding digit
digit_suc x k = ap (λ (y : ℕ). x / y % 2) (pow-suc 2 k ∙ mul_comm (2 ^ k) 2) ∙ ap (λ (y : ℕ). y % 2) (sym (div-div-eq-div-mul x 2 (2 ^ k)))

pub no_digit : (k : ℕ) → digit 0 k ≡ 0
unfolding digit
no_digit k = ap (λ (y : ℕ). y % 2) (zero-div (2 ^ k))

pub half_lt : (d x : ℕ) → x < 2 ^ suc d → x / 2 < 2 ^ d
half_lt d x h = (div-lt_iff_lt-mul (zero-lt-suc 1)).1 (rw (pow-suc 2 d) at h)

-- a number below 2 ^ d is made of its d digits
pub digit_ext : (d x y : ℕ) → x < 2 ^ d → y < 2 ^ d → ((k : ℕ) → k < d → digit x k ≡ digit y k) → x ≡ y
digit_ext zero x y hx hy h = lt-one hx ∙ sym (lt-one hy)
digit_ext (suc d) x y hx hy h =
    let low : x % 2 ≡ y % 2 = sym (digit_zero x) ∙ h 0 (omega arith) ∙ digit_zero y in
    let high : x / 2 ≡ y / 2 = digit_ext d (x / 2) (y / 2) (half_lt d x hx) (half_lt d y hy)
    (λ k l. sym (digit_suc x k) ∙ h (suc k) (omega arith) ∙ digit_suc y k) in
    omega arith

pub flag_lt : (b : Bool) → flag b < 2
flag_lt true = omega arith
flag_lt false = omega arith

-- a number that is 0 or 1 is the flag of the test whether it is 1
pub flag_one : (x : ℕ) → x < 2 → flag (eqb x 1) ≡ x
flag_one zero h = ap flag (says_false (says_eq 0 1) (λ e. omega arith))
flag_one (suc x) h = let e : suc x ≡ 1 = omega arith in ap flag (says_true (says_eq (suc x) 1) e) ∙ sym e

-- and a flag says its test
pub flag_says : (b : Bool) → eqb (flag b) 1 ≡ b
flag_says true = refl
flag_says false = refl

pub digits_lt : (n : ℕ) (f : ℕ → Bool) → digits_of n f < 2 ^ n
unfolding digits_of
digits_lt zero f = omega arith
digits_lt (suc n) f =
    let h : digits_of n (λ k. f (suc k)) < 2 ^ n = digits_lt n (λ k. f (suc k)) in
    let l : flag (f 0) < 2 = flag_lt (f 0) in
    rw (pow-suc 2 n) (omega arith)

-- the digits of the number made of f are f
pub digit_of : (n : ℕ) (f : ℕ → Bool) (k : ℕ) → k < n → digit (digits_of n f) k ≡ flag (f k)
unfolding digits_of
digit_of zero f k h = absurd (omega arith)
digit_of (suc n) f zero h =
    let l : flag (f 0) < 2 = flag_lt (f 0) in
    let e : (flag (f 0) + 2 * digits_of n (λ k. f (suc k))) % 2 ≡ flag (f 0) = omega arith in
    digit_zero (flag (f 0) + 2 * digits_of n (λ k. f (suc k))) ∙ e
digit_of (suc n) f (suc k) h =
    let l : flag (f 0) < 2 = flag_lt (f 0) in
    let e : (flag (f 0) + 2 * digits_of n (λ k. f (suc k))) / 2 ≡ digits_of n (λ k. f (suc k)) = omega arith in
    digit_suc (flag (f 0) + 2 * digits_of n (λ k. f (suc k))) k ∙ ap (λ (x : ℕ). digit x k) e ∙ digit_of n (λ k. f (suc k)) k (omega arith)

-- ---- members

pub bit_lt : (s : List ℕ) (n : ℕ) → bit s n < 2
unfolding bit
bit_lt s n = digit_lt (get_or s (n / 8) 0) (n % 8)

pub bit_cases : (s : List ℕ) (n : ℕ) → (bit s n ≡ 0) ⊎ (bit s n ≡ 1)
bit_cases s n = go (bit s n) (bit_lt s n)
  where
    go : (b : ℕ) → b < 2 → (b ≡ 0) ⊎ (b ≡ 1)
    go zero h = inl refl
    go (suc b) h = inr (ap suc (lt-one (omega arith)))

-- the test says that the number is 1
pub says_member : (s : List ℕ) (n : ℕ) → Says (member s n) (bit s n ≡ 1)
unfolding member
says_member s n = says_eq (bit s n) 1

pub member_true : (s : List ℕ) (n : ℕ) → member s n ≡ true → bit s n ≡ 1
member_true s n = (says_member s n).holds

-- the number is the test's
pub bit_flag : (s : List ℕ) (n : ℕ) → bit s n ≡ flag (member s n)
unfolding member
bit_flag s n = sym (flag_one (bit s n) (bit_lt s n))

-- past the end there is no member
pub bit_past : (s : List ℕ) (n : ℕ) → length s ≤ n / 8 → bit s n ≡ 0
unfolding bit
bit_past s n h = ap (λ (x : ℕ). digit x (n % 8)) (get_or-eq_default s 0 h) ∙ no_digit (n % 8)

-- digit k of byte i
pub digit_bit : (s : List ℕ) (i k : ℕ) → k < 8 → digit (get_or s i 0) k ≡ bit s (i * 8 + k)
unfolding bit
digit_bit s i k l =
    let q : (i * 8 + k) / 8 ≡ i = omega arith in
    let r : (i * 8 + k) % 8 ≡ k = omega arith in
    sym (ap₂ (λ (a b : ℕ). digit (get_or s a 0) b) q r)

-- extensionality: the same members, the same length, and bytes below 256: the same bytes
pub bit_ext : (s t : List ℕ) → length s ≡ length t → ((i : ℕ) → get_or s i 0 < 256) → ((i : ℕ) → get_or t i 0 < 256)
    → ((n : ℕ) → bit s n ≡ bit t n) → s ≡ t
bit_ext s t e hs ht h =
    ext_get_or 0 s t e (λ i l. digit_ext 8 (get_or s i 0) (get_or t i 0) (hs i) (ht i) (λ k m. digit_bit s i k m ∙ h (i * 8 + k) ∙ sym (digit_bit t i k m)))

-- ---- the set where a test holds

pub set_length : (n : ℕ) (f : ℕ → Bool) → length (set_of n f) ≡ n
unfolding set_of
set_length zero f = refl
set_length (suc n) f = ap suc (set_length n (λ k. f (8 + k)))

pub set_bytes : (n : ℕ) (f : ℕ → Bool) (i : ℕ) → get_or (set_of n f) i 0 < 256
unfolding set_of
set_bytes zero f i = omega arith
set_bytes (suc n) f zero = digits_lt 8 f
set_bytes (suc n) f (suc i) = set_bytes n (λ k. f (8 + k)) i

pub bit_set : (n : ℕ) (f : ℕ → Bool) (k : ℕ) → k < n * 8 → bit (set_of n f) k ≡ flag (f k)
unfolding set_of bit
bit_set zero f k h = absurd (omega arith)
bit_set (suc n) f k h = go (bit_set n (λ j. f (8 + j)) (k - 8)) (dec_lt k 8)
  where
    go : (k - 8 < n * 8 → bit (set_of n (λ j. f (8 + j))) (k - 8) ≡ flag (f (8 + (k - 8)))) → Dec (k < 8)
        → digit (get_or (digits_of 8 f ∷ set_of n (λ j. f (8 + j))) (k / 8) 0) (k % 8) ≡ flag (f k)
    go ih (yes l) =
        let q : k / 8 ≡ 0 = omega arith in
        let r : k % 8 ≡ k = omega arith in
        rw (q, r) (digit_of 8 f k l)
    go ih (no g) =
        let q : k / 8 ≡ suc ((k - 8) / 8) = omega arith in
        let r : k % 8 ≡ (k - 8) % 8 = omega arith in
        let e : 8 + (k - 8) ≡ k = omega arith in
        rw (q, r) (ih (omega arith) ∙ ap (λ (j : ℕ). flag (f j)) e)

-- and nothing past its bytes
pub bit_set_past : (n : ℕ) (f : ℕ → Bool) (k : ℕ) → n * 8 ≤ k → bit (set_of n f) k ≡ 0
bit_set_past n f k h = bit_past (set_of n f) k (rw (set_length n f) (omega arith))

-- bytes with the members of a test are that set
pub is_set : (s : List ℕ) (n : ℕ) (f : ℕ → Bool) → length s ≡ n → ((i : ℕ) → get_or s i 0 < 256) → ((k : ℕ) → k < n * 8 → bit s k ≡ flag (f k)) → s ≡ set_of n f
is_set s n f e b h = bit_ext s (set_of n f) (e ∙ sym (set_length n f)) b (set_bytes n f) (λ k. go k (dec_lt k (n * 8)))
  where
    go : (k : ℕ) → Dec (k < n * 8) → bit s k ≡ bit (set_of n f) k
    go k (yes l) = h k l ∙ sym (bit_set n f k l)
    go k (no g) = bit_past s k (omega arith) ∙ sym (bit_set_past n f k (omega arith))

-- tests that agree give the same bytes
pub set_cong : (n : ℕ) (f g : ℕ → Bool) → ((k : ℕ) → k < n * 8 → f k ≡ g k) → set_of n f ≡ set_of n g
set_cong n f g h = is_set (set_of n f) n g (set_length n f) (set_bytes n f) (λ k l. bit_set n f k l ∙ ap flag (h k l))

-- ---- each operation, member by member

pub flag_or : (a b : Bool) → flag (a || b) ≡ max (flag a) (flag b)
flag_or true b = let l : flag b < 2 = flag_lt b in omega arith
flag_or false b = omega arith

pub flag_and : (a b : Bool) → flag (a && b) ≡ min (flag a) (flag b)
flag_and true b = let l : flag b < 2 = flag_lt b in omega arith
flag_and false b = omega arith

pub flag_not : (b : Bool) → flag (not b) ≡ 1 - flag b
flag_not true = refl
flag_not false = refl

pub bit_union : (a b : List ℕ) (k : ℕ) → length b ≤ length a → bit (union a b) k ≡ max (bit a k) (bit b k)
unfolding union
bit_union a b k h = go (dec_lt k (length a * 8))
  where
    f : ℕ → Bool
    f j = member a j || member b j

    go : Dec (k < length a * 8) → bit (set_of (length a) f) k ≡ max (bit a k) (bit b k)
    go (yes l) = bit_set (length a) f k l ∙ flag_or (member a k) (member b k) ∙ ap₂ max (sym (bit_flag a k)) (sym (bit_flag b k))
    go (no g) =
        let p : bit a k ≡ 0 = bit_past a k (omega arith) in
        let q : bit b k ≡ 0 = bit_past b k (omega arith) in
        let r : bit (set_of (length a) f) k ≡ 0 = bit_set_past (length a) f k (omega arith) in
        omega arith

-- where the test is that of s, the member is as in s
bit_same : (s : List ℕ) (f : ℕ → Bool) (k : ℕ) → f k ≡ member s k → bit (set_of (length s) f) k ≡ bit s k
bit_same s f k e = go (dec_lt k (length s * 8))
  where
    go : Dec (k < length s * 8) → bit (set_of (length s) f) k ≡ bit s k
    go (yes l) = bit_set (length s) f k l ∙ ap flag e ∙ sym (bit_flag s k)
    go (no g) = bit_set_past (length s) f k (omega arith) ∙ sym (bit_past s k (omega arith))

pub or-false : (a b : Bool) → b ≡ false → (a || b) ≡ a
or-false true b e = refl
or-false false b e = e

or_true : (a b : Bool) → b ≡ true → (a || b) ≡ true
or_true true b e = refl
or_true false b e = e

pub and_true : (a b : Bool) → b ≡ true → (a && b) ≡ a
and_true true b e = e
and_true false b e = refl

pub and-false : (a b : Bool) → b ≡ false → (a && b) ≡ false
and-false true b e = e
and-false false b e = refl

pub bit_with : (s : List ℕ) (n : ℕ) → n < length s * 8 → bit (with_member n s) n ≡ 1
unfolding with_member
bit_with s n h = bit_set (length s) (λ k. member s k || eqb k n) n h ∙ ap flag (or_true (member s n) (eqb n n) (says_true (says_eq n n) refl))

pub bit_with_other : (s : List ℕ) (n k : ℕ) → ¬ (k ≡ n) → bit (with_member n s) k ≡ bit s k
unfolding with_member
bit_with_other s n k d = bit_same s (λ j. member s j || eqb j n) k (or-false (member s k) (eqb k n) (says_false (says_eq k n) d))

-- a number that the set has no room for changes nothing
pub with_beyond : (s : List ℕ) (n : ℕ) → ((i : ℕ) → get_or s i 0 < 256) → length s * 8 ≤ n → with_member n s ≡ s
unfolding with_member
with_beyond s n b l = sym (is_set s (length s) (λ k. member s k || eqb k n) refl b
    (λ k m. bit_flag s k ∙ ap flag (sym (or-false (member s k) (eqb k n) (says_false (says_eq k n) (λ e. omega arith))))))

pub without_beyond : (s : List ℕ) (n : ℕ) → ((i : ℕ) → get_or s i 0 < 256) → length s * 8 ≤ n → without_member n s ≡ s
unfolding without_member
without_beyond s n b l = sym (is_set s (length s) (λ k. member s k && not (eqb k n)) refl b
    (λ k m. bit_flag s k ∙ ap flag (sym (and_true (member s k) (not (eqb k n)) (ap not (says_false (says_eq k n) (λ e. omega arith)))))))

pub bit_without : (s : List ℕ) (n : ℕ) → bit (without_member n s) n ≡ 0
unfolding without_member
bit_without s n = go (dec_lt n (length s * 8))
  where
    f : ℕ → Bool
    f k = member s k && not (eqb k n)

    go : Dec (n < length s * 8) → bit (set_of (length s) f) n ≡ 0
    go (yes l) = bit_set (length s) f n l ∙ ap flag (and-false (member s n) (not (eqb n n)) (ap not (says_true (says_eq n n) refl)))
    go (no g) = bit_set_past (length s) f n (omega arith)

pub bit_without_other : (s : List ℕ) (n k : ℕ) → ¬ (k ≡ n) → bit (without_member n s) k ≡ bit s k
unfolding without_member
bit_without_other s n k d = bit_same s (λ j. member s j && not (eqb j n)) k (and_true (member s k) (not (eqb k n)) (ap not (says_false (says_eq k n) d)))

-- the results are as long as what they are made of, and bytes
pub union_length : (a b : List ℕ) → length (union a b) ≡ length a
unfolding union
union_length a b = set_length (length a) (λ k. member a k || member b k)

pub with_length : (n : ℕ) (s : List ℕ) → length (with_member n s) ≡ length s
unfolding with_member
with_length n s = set_length (length s) (λ k. member s k || eqb k n)

pub without_length : (n : ℕ) (s : List ℕ) → length (without_member n s) ≡ length s
unfolding without_member
without_length n s = set_length (length s) (λ k. member s k && not (eqb k n))

-- ---- what the tests say, of every number

pub with_bytes : (n : ℕ) (s : List ℕ) (i : ℕ) → get_or (with_member n s) i 0 < 256
unfolding with_member
with_bytes n s i = set_bytes (length s) (λ k. member s k || eqb k n) i

pub without_bytes : (n : ℕ) (s : List ℕ) (i : ℕ) → get_or (without_member n s) i 0 < 256
unfolding without_member
without_bytes n s i = set_bytes (length s) (λ k. member s k && not (eqb k n)) i

pub bit_zeros : (n k : ℕ) → bit (zeros n) k ≡ 0
unfolding bit
bit_zeros n k = ap (λ (x : ℕ). digit x (k % 8)) (zeros_at n (k / 8)) ∙ no_digit (k % 8)

pub says_subset : (a b : List ℕ) → Says (subset a b) ((k : ℕ) → bit a k ≤ bit b k)
unfolding subset
says_subset a b = says_iff (says_all (length a * 8) {P = λ k. bit a k ≤ bit b k} (λ k l. each k)) (λ h k. far h k (dec_lt k (length a * 8)), λ h k l. h k)
  where
    each : (k : ℕ) → Says (not (member a k) || member b k) (bit a k ≤ bit b k)
    each k =
        says_iff (says_or (says_not (says_member a k)) (says_member b k)) (
          ⊎_elim (λ d. omega (arith, d, bit_lt a k)) (λ e. omega (arith, e, bit_lt a k)),
          λ h. ⊎_elim (λ z. inl (λ o. omega arith))
              (λ o. inr (omega (arith, o, h, bit_lt b k))) (bit_cases a k),
        )

    far : ((k : ℕ) → k < length a * 8 → bit a k ≤ bit b k) → (k : ℕ) → Dec (k < length a * 8) → bit a k ≤ bit b k
    far h k (yes l) = h k l
    far h k (no g) = omega (arith, bit_past a k (omega arith))

pub says_empty : (s : List ℕ) → Says (is_empty s) ((k : ℕ) → bit s k ≡ 0)
unfolding is_empty
says_empty s = says_iff (says_not (says_any (length s * 8) {P = λ k. bit s k ≡ 1} (λ k l. says_member s k)))
    (λ n k. none n k (dec_lt k (length s * 8)) (bit_cases s k), λ h q. omega (arith, h q.at, q.is))
  where
    none : ¬ (Some (length s * 8) (λ k. bit s k ≡ 1)) → (k : ℕ) → Dec (k < length s * 8) → (bit s k ≡ 0) ⊎ (bit s k ≡ 1) → bit s k ≡ 0
    none n k d (inl z) = z
    none n k (yes l) (inr o) = absurd (n (record { at = k; below = l; is = o }))
    none n k (no g) (inr o) = bit_past s k (omega arith)

-- ---- sets where tests hold, compared

flag_true : (b : Bool) → flag b ≡ 1 → b ≡ true
flag_true true e = refl
flag_true false e = absurd (omega arith)

-- within the bytes the test's own value is the member
pub member_within : (n : ℕ) (f : ℕ → Bool) (k : ℕ) → k < n * 8 → member (set_of n f) k ≡ f k
member_within n f k l = says_same (says_member (set_of n f) k)
    (says_iff (says_test (f k)) (λ e. bit_set n f k l ∙ ap flag e, λ e. flag_true (f k) (sym (bit_set n f k l) ∙ e)))

-- the test's own value at a member; past the bytes there is none
pub member_set : (n : ℕ) (f : ℕ → Bool) (k : ℕ) → (n * 8 ≤ k → f k ≡ false) → member (set_of n f) k ≡ f k
member_set n f k h = go (dec_lt k (n * 8))
  where
    go : Dec (k < n * 8) → member (set_of n f) k ≡ f k
    go (yes l) = member_within n f k l
    go (no g) = says_false (says_member (set_of n f) k) (λ o. omega (arith, bit_set_past n f k (omega arith))) ∙ sym (h (omega arith))

-- the same bytes: the tests agree
pub says_same_sets : (n : ℕ) (f g : ℕ → Bool) → Says (same_bytes (set_of n f) (set_of n g)) ((k : ℕ) → k < n * 8 → f k ≡ g k)
says_same_sets n f g =
    says_iff (says_same_bytes (set_of n f) (set_of n g))
    (λ e k l. sym (member_within n f k l) ∙ ap (λ (s : List ℕ). member s k) e ∙ member_within n g k l, set_cong n f g)

-- inclusion: one test implies the other
pub says_subset_sets : (n : ℕ) (f g : ℕ → Bool) → Says (subset (set_of n f) (set_of n g)) ((k : ℕ) → k < n * 8 → f k ≡ true → g k ≡ true)
says_subset_sets n f g = says_iff (says_subset (set_of n f) (set_of n g))
    (λ h k l e. to k l e (h k), λ h k. from k (h k) (dec_lt k (n * 8)) (true_or_false (f k)))
  where
    to : (k : ℕ) → k < n * 8 → f k ≡ true → bit (set_of n f) k ≤ bit (set_of n g) k → g k ≡ true
    to k l e b = flag_true (g k) (omega (arith, b, bit_set n f k l ∙ ap flag e, bit_set n g k l, flag_lt (g k)))

    from : (k : ℕ) → (k < n * 8 → f k ≡ true → g k ≡ true) → Dec (k < n * 8) → (f k ≡ true) ⊎ (f k ≡ false) → bit (set_of n f) k ≤ bit (set_of n g) k
    from k h (yes l) (inl q) = omega (arith, bit_set n g k l ∙ ap flag (h l q), bit_lt (set_of n f) k)
    from k h (yes l) (inr q) = omega (arith, bit_set n f k l ∙ ap flag q)
    from k h (no b) d = omega (arith, bit_set_past n f k (omega arith))

-- ---- operations on sets where tests hold

pub union_set : (n : ℕ) (f g : ℕ → Bool) → union (set_of n f) (set_of n g) ≡ set_of n (λ k. f k || g k)
unfolding union
union_set n f g =
    ap (λ (m : ℕ). set_of m (λ k. member (set_of n f) k || member (set_of n g) k)) (set_length n f)
    ∙ set_cong n (λ k. member (set_of n f) k || member (set_of n g) k) (λ k. f k || g k) (λ k l. ap₂ ◌||◌ (member_within n f k l) (member_within n g k l))

pub with_set : (n m : ℕ) (f : ℕ → Bool) → with_member m (set_of n f) ≡ set_of n (λ k. f k || eqb k m)
unfolding with_member
with_set n m f =
    ap (λ (j : ℕ). set_of j (λ k. member (set_of n f) k || eqb k m)) (set_length n f)
    ∙ set_cong n (λ k. member (set_of n f) k || eqb k m) (λ k. f k || eqb k m) (λ k l. ap (λ (x : Bool). x || eqb k m) (member_within n f k l))

-- two sets side by side are joined side by side
bit_left : (a b : List ℕ) (k : ℕ) → k < length a * 8 → bit (a ++ b) k ≡ bit a k
unfolding bit
bit_left a b k l = ap (λ (x : ℕ). digit x (k % 8)) (get_or-append a b 0 (k / 8) (omega arith))

bit_right : (a b : List ℕ) (k : ℕ) → length a * 8 ≤ k → bit (a ++ b) k ≡ bit b (k - length a * 8)
unfolding bit
bit_right a b k h =
    let e : k / 8 ≡ length a + (k - length a * 8) / 8 = omega arith in
    let r : k % 8 ≡ (k - length a * 8) % 8 = omega arith in
    ap₂ (λ (i j : ℕ). digit (get_or (a ++ b) i 0) j) e r ∙ ap (λ (x : ℕ). digit x ((k - length a * 8) % 8)) (get_or-append-add a b ((k - length a * 8) / 8) 0)

pub union_bytes : (a b : List ℕ) (i : ℕ) → get_or (union a b) i 0 < 256
unfolding union
union_bytes a b i = set_bytes (length a) (λ k. member a k || member b k) i

pub union_append : (a b c d : List ℕ) → length c ≡ length a → length d ≡ length b → union (a ++ b) (c ++ d) ≡ union a c ++ union b d
union_append a b c d p q =
    bit_ext (union (a ++ b) (c ++ d)) (union a c ++ union b d) long (union_bytes (a ++ b) (c ++ d))
    (append_bytes (union a c) (union b d) (union_bytes a c) (union_bytes b d)) (λ k. each k (dec_lt k (length a * 8)))
  where
    long : length (union (a ++ b) (c ++ d)) ≡ length (union a c ++ union b d)
    long = union_length (a ++ b) (c ++ d) ∙ length-append a b
        ∙ sym (length-append (union a c) (union b d) ∙ ap₂ (λ (x y : ℕ). x + y) (union_length a c) (union_length b d))

    whole : (k : ℕ) → bit (union (a ++ b) (c ++ d)) k ≡ max (bit (a ++ b) k) (bit (c ++ d) k)
    whole k = bit_union (a ++ b) (c ++ d) k (simp length-append (omega arith))

    each : (k : ℕ) → Dec (k < length a * 8) → bit (union (a ++ b) (c ++ d)) k ≡ bit (union a c ++ union b d) k
    each k (yes l) =
        whole k ∙ ap₂ max (bit_left a b k l) (bit_left c d k (omega arith)) ∙ sym (bit_union a c k (omega arith))
        ∙ sym (bit_left (union a c) (union b d) k (omega (arith, union_length a c)))
    each k (no g) =
        let e : length c * 8 ≡ length a * 8 = omega arith in
        let u : length (union a c) * 8 ≡ length a * 8 = omega (arith, union_length a c) in
        whole k ∙ ap₂ max (bit_right a b k (omega arith)) (bit_right c d k (omega arith) ∙ ap (λ (n : ℕ). bit d (k - n)) e)
        ∙ sym (bit_union b d (k - length a * 8) (omega arith))
        ∙ sym (bit_right (union a c) (union b d) k (omega arith) ∙ ap (λ (n : ℕ). bit (union b d) (k - n)) u)
