-- What the test of a range says, and how it is computed by numbers without a sign.
use Rattle.std.specs.Prelude.{Bool, true, false, List, ◌≡◌, refl, ℕ, ◌+◌, ◌-◌, ◌≤◌, ◌<◌, T, ltb, ℤ, pos, negsuc, ◌<ℤ◌}
use Rattle.std.proofs.lemmas.Bool.{false≢true}
use Rattle.std.proofs.Common.{sym, subst, arith}
use Rattle.std.proofs.Math.Decide.{dec_lt}
use Rattle.std.specs.Int.Signed.{lt_z, lt_z_yes}
use Rattle.prelude.specs.Says.{Says}
use Rattle.prelude.specs.SaysLaws.{says_lt, says_same, says_iff, says_true, says_false}
use Rattle.schema.specs.AttributeRow.{range_lower, range_upper}
use Rattle.rules_attribute.specs.Range.{signed, biased, ends_crossed, range_wrong, EndsCrossed}
use Rattle.std.specs.Prelude.{Option, Some, None}

-- ---- with integers

says_less : (a b : ℤ) → Says (lt_z a b) (a <ℤ b)
says_less a b = go (lt_z a b) refl
  where
    go : (t : Bool) → lt_z a b ≡ t → Says t (a <ℤ b)
    go true e = record { holds = λ q. lt_z_yes (rw e tt); passes = λ h. refl }
    go false e = record { holds = λ q. absurd (false≢true q); passes = λ h. absurd (subst T e h.lt) }

pub says_crossed : (l u : Option ℕ) → Says (ends_crossed l u) (EndsCrossed l u)
unfolding ends_crossed
says_crossed (Some l) (Some u) =
    says_iff (says_less (signed u) (signed l))
    (λ h. record { lower = l; upper = u; lower_given = refl; upper_given = refl; crossed = h }, λ h. same h.lower_given h.upper_given h.crossed)
  where
    same : {m n : ℕ} → Some l ≡ Some m → Some u ≡ Some n → signed n <ℤ signed m → signed u <ℤ signed l
    same {m} {n} p q h = let e : l ≡ m = cc in let f : u ≡ n = cc in rw (e, f) h
says_crossed (Some l) None = record { holds = λ q. absurd (false≢true q); passes = λ h. absurd (never h.upper_given) }
  where
    never : {n : ℕ} → None ≡ Some n → ⊥
    never q = let z : ◌≡◌ {A = ℕ} 0 1 = cc in omega arith
says_crossed None u = record { holds = λ q. absurd (false≢true q); passes = λ h. absurd (never h.lower_given) }
  where
    never : {n : ℕ} → None ≡ Some n → ⊥
    never q = let z : ◌≡◌ {A = ℕ} 0 1 = cc in omega arith

-- rule 25
pub says_range_wrong : (row : List ℕ) → Says (range_wrong row) (EndsCrossed (range_lower row) (range_upper row))
unfolding range_wrong
says_range_wrong row = says_crossed (range_lower row) (range_upper row)

-- ---- with numbers

pub biased_low : (x : ℕ) → x < 2147483648 → biased x ≡ x + 2147483648
unfolding biased
biased_low x h = rw (says_true (says_lt x 2147483648) h)

pub biased_high : (x : ℕ) → 2147483648 ≤ x → biased x ≡ x - 2147483648
unfolding biased
biased_high x h = rw (says_false (says_lt x 2147483648) (λ l. omega arith))

signed_low : (x : ℕ) → x < 2147483648 → signed x ≡ pos x
unfolding signed
signed_low x h = rw (says_true (says_lt x 2147483648) h)

signed_high : (x : ℕ) → 2147483648 ≤ x → signed x ≡ negsuc (4294967295 - x)
unfolding signed
signed_high x h = rw (says_false (says_lt x 2147483648) (λ l. omega arith))

pub less_biased : (x y : ℕ) → x < 4294967296 → y < 4294967296 → lt_z (signed x) (signed y) ≡ ltb (biased x) (biased y)
less_biased x y hx hy = go (dec_lt x 2147483648) (dec_lt y 2147483648)
  where
    go : Dec (x < 2147483648) → Dec (y < 2147483648) → lt_z (signed x) (signed y) ≡ ltb (biased x) (biased y)
    go (yes a) (yes b) =
        rw (signed_low x a, signed_low y b, biased_low x a, biased_low y b)
        (says_same (says_iff (says_lt x y) (λ h. omega arith, λ h. omega arith)) (says_lt (x + 2147483648) (y + 2147483648)))
    go (yes a) (no b) =
        let h : 2147483648 ≤ y = omega arith in
        rw (signed_low x a, signed_high y h, biased_low x a, biased_high y h)
        (sym (says_false (says_lt (x + 2147483648) (y - 2147483648)) (λ l. omega arith)))
    go (no a) (yes b) =
        let h : 2147483648 ≤ x = omega arith in
        rw (signed_high x h, signed_low y b, biased_high x h, biased_low y b)
        (sym (says_true (says_lt (x - 2147483648) (y + 2147483648)) (omega arith)))
    go (no a) (no b) =
        let h : 2147483648 ≤ x = omega arith in
        let k : 2147483648 ≤ y = omega arith in
        rw (signed_high x h, signed_high y k, biased_high x h, biased_high y k)
        (says_same (says_iff (says_lt (4294967295 - y) (4294967295 - x)) (λ l. omega arith, λ l. omega arith)) (says_lt (x - 2147483648) (y - 2147483648)))
