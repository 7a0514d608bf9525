-- Laws of the count of members. The language's count of ones, summed over the bytes, is the number of members of the set.
use Rattle.std.specs.Prelude.{◌≡◌, refl, Bool, true, false, List, ℕ, zero, suc, ◌+◌, ◌*◌, ◌/◌, ◌^◌, ◌≤◌, ◌<◌, eqb, get_or}
use Rattle.std.proofs.Common.{sym, ap, ap₂, ◌∙◌, ⊎_elim, add-zero, add-suc, add_assoc, arith}
use Rattle.std.proofs.Math.Arith.{lt-one}
use Rattle.std.specs.Int.Count.{ones, ones_step}
use Rattle.prelude.specs.BelowLaws.{last_or_less}
use Rattle.sets.specs.Sets.{flag, digit, member, count_below}
use Rattle.sets.specs.SetsLaws.{flag_lt, flag_one, digit_zero, digit_suc, digit_bit, digit_lt, half_lt}

pub count_cong : (n : ℕ) (p q : ℕ → Bool) → ((k : ℕ) → k < n → p k ≡ q k) → count_below n p ≡ count_below n q
unfolding count_below
count_cong zero p q h = refl
count_cong (suc n) p q h = ap₂ (λ (x y : ℕ). x + y) (count_cong n p q (λ k l. h k (omega arith))) (ap flag (h n (omega arith)))

pub count_le : (n : ℕ) (p : ℕ → Bool) → count_below n p ≤ n
unfolding count_below
count_le zero p = omega arith
count_le (suc n) p = omega (arith, count_le n p, flag_lt (p n))

-- the numbers below n, and then m more
pub count_add : (n m : ℕ) (p : ℕ → Bool) → count_below (n + m) p ≡ count_below n p + count_below m (λ k. p (n + k))
unfolding count_below
count_add n zero p = rw (add-zero n) (sym (add-zero (count_below n p)))
count_add n (suc m) p = rw (add-suc n m) (ap (λ (x : ℕ). x + flag (p (n + m))) (count_add n m p)
    ∙ add_assoc (count_below n p) (count_below m (λ k. p (n + k))) (flag (p (n + m))))

-- the first number, and then the others
count_front : (n : ℕ) (p : ℕ → Bool) → count_below (suc n) p ≡ flag (p 0) + count_below n (λ k. p (suc k))
unfolding count_below
count_front zero p = omega arith
count_front (suc n) p = omega (arith, count_front n p)

-- the ones of a number of d digits
one_digits : (d x : ℕ) → x < 2 ^ d → ones x ≡ count_below d (λ k. eqb (digit x k) 1)
unfolding count_below ones
one_digits zero x h = ap ones (lt-one h)
one_digits (suc d) x h =
    ones_step x ∙ ap₂ (λ (m n : ℕ). m + n) (sym (digit_zero x) ∙ sym (flag_one (digit x 0) (digit_lt x 0)))
    (one_digits d (x / 2) (half_lt d x h) ∙ count_cong d _ _ (λ k l. ap (λ (y : ℕ). eqb y 1) (sym (digit_suc x k))))
    ∙ sym (count_front d (λ k. eqb (digit x k) 1))

-- one more byte is counted
pub count_byte : (s : List ℕ) (i : ℕ) → get_or s i 0 < 256 → count_below ((i + 1) * 8) (member s) ≡ count_below (i * 8) (member s) + ones (get_or s i 0)
unfolding member
count_byte s i h =
    let e : (i + 1) * 8 ≡ i * 8 + 8 = omega arith in
    ap (λ (n : ℕ). count_below n (member s)) e ∙ count_add (i * 8) 8 (member s)
    ∙ ap (λ (n : ℕ). count_below (i * 8) (member s) + n)
    (count_cong 8 (λ k. member s (i * 8 + k)) (λ k. eqb (digit (get_or s i 0) k) 1) (λ k l. ap (λ (y : ℕ). eqb y 1) (sym (digit_bit s i k l)))
    ∙ sym (one_digits 8 (get_or s i 0) h))

-- ---- fewer pass

flag_mono : (a b : Bool) → (a ≡ true → b ≡ true) → flag a ≤ flag b
flag_mono true b f = let e : flag b ≡ 1 = ap flag (f refl) in omega arith
flag_mono false b f = omega arith

pub count_mono : (n : ℕ) (p q : ℕ → Bool) → ((k : ℕ) → p k ≡ true → q k ≡ true) → count_below n p ≤ count_below n q
unfolding count_below
count_mono zero p q h = omega arith
count_mono (suc n) p q h = omega (arith, count_mono n p q h, flag_mono (p n) (q n) (h n))

-- and one that passed no longer does
pub count_less : (n j : ℕ) (p q : ℕ → Bool) → j < n → ((k : ℕ) → p k ≡ true → q k ≡ true) → p j ≡ false → q j ≡ true → count_below n p < count_below n q
unfolding count_below
count_less zero j p q l h a b = absurd (omega arith)
count_less (suc n) j p q l h a b = ⊎_elim
    (λ m. omega (arith, count_less n j p q m h a b, flag_mono (p n) (q n) (h n)))
    (λ e. omega (arith, count_mono n p q h, ap flag (ap p (sym e) ∙ a), ap flag (ap q (sym e) ∙ b)))
    (last_or_less l)
