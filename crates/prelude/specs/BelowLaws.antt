-- Laws of bounded tests: those that a loop's invariant cites, and those that say the same with quantifiers.
use Rattle.std.specs.Prelude.{◌≡◌, Bool, ◌⊎◌, ltb}
use Rattle.std.proofs.Math.Path.{refl}
use Rattle.std.proofs.Common.{sym, ap, ◌∙◌, true≢false, inl, inr, add-one, arith}
use Rattle.std.proofs.Math.Bool.{true, false}
use Rattle.std.proofs.Math.Logic.{⊎_elim}
use Prim.Native.Nat.{ℕ, zero, suc, ◌+◌, ◌≤◌, ◌<◌}
use Rattle.std.proofs.Math.Decide.{dec_lt, ℕ_discrete}
use Rattle.prelude.specs.Says.{Says}
use Rattle.prelude.specs.SaysLaws.{says_and, says_or, says_iff, says_true, says_false, says_fails, says_lt, says_same, says_test, true_or_false}
use Rattle.prelude.specs.Below.{any_below, all_below, first_below, Some}

-- the last number below suc n, or one below n
pub last_or_less : {k n : ℕ} → k < suc n → (k < n) ⊎ (k ≡ n)
last_or_less {k} {n} h = go (ℕ_discrete k n)
  where
    go : Dec (k ≡ n) → (k < n) ⊎ (k ≡ n)
    go (yes e) = inr e
    go (no d) = inl (omega (arith, d))

-- ---- with quantifiers

-- "some" says that there is one
pub says_any : (n : ℕ) {p : ℕ → Bool} {P : ℕ → Type 0} → ((k : ℕ) → k < n → Says (p k) (P k)) → Says (any_below n p) (Some n P)
unfolding any_below
says_any zero s = record { holds = λ e. absurd (true≢false (sym e)); passes = λ q. absurd (omega (arith, q.below)) }
says_any (suc n) {p} {P} s = says_iff (says_or (says_any n (λ k l. s k (omega arith))) (s n (omega arith))) (⊎_elim less last, up)
  where
    last : P n → Some (suc n) P
    last q = record { at = n; below = omega arith; is = q }

    less : Some n P → Some (suc n) P
    less q = record { at = q.at; below = omega arith; is = q.is }

    up : Some (suc n) P → Some n P ⊎ P n
    up q = ⊎_elim (λ l. inl (record { at = q.at; below = l; is = q.is })) (λ e. inr (rw e at q.is)) (last_or_less q.below)

-- "all" says that each does
pub says_all : (n : ℕ) {p : ℕ → Bool} {P : ℕ → Type 0} → ((k : ℕ) → k < n → Says (p k) (P k)) → Says (all_below n p) ((k : ℕ) → k < n → P k)
unfolding all_below
says_all zero s = record { holds = λ e k l. absurd (omega arith); passes = λ h. refl }
says_all (suc n) {p} {P} s = says_iff (says_and (says_all n (λ k l. s k (omega arith))) (s n (omega arith))) (down, up)
  where
    down : ((k : ℕ) → k < n → P k) × P n → (k : ℕ) → k < suc n → P k
    down h k l = ⊎_elim (λ m. h.0 k m) (λ e. rw e h.1) (last_or_less l)

    up : ((k : ℕ) → k < suc n → P k) → ((k : ℕ) → k < n → P k) × P n
    up h = (λ k l. h k (omega arith), h n (omega arith))

module _ (p : ℕ → Bool) where
  -- the two for the tests' values
  any_says : (n : ℕ) → Says (any_below n p) (Some n (λ k. p k ≡ true))
  any_says n = says_any n (λ k l. says_test (p k))

  all_says : (n : ℕ) → Says (all_below n p) ((k : ℕ) → k < n → p k ≡ true)
  all_says n = says_all n (λ k l. says_test (p k))

  pub any_none : (n : ℕ) → any_below n p ≡ false → (k : ℕ) → k < n → p k ≡ false
  any_none n e k l = says_false (says_test (p k)) (λ q. says_fails (any_says n) e (record { at = k; below = l; is = q }))

  pub any_false : (n : ℕ) → ((k : ℕ) → k < n → p k ≡ false) → any_below n p ≡ false
  any_false n h = says_false (any_says n) (λ q. true≢false (sym q.is ∙ h q.at q.below))

  pub all_each : (n : ℕ) → all_below n p ≡ true → (k : ℕ) → k < n → p k ≡ true
  all_each n = (all_says n).holds

  -- ---- for a loop that leaves with true at the first that passes

  pub any_zero : any_below 0 p ≡ false
  unfolding any_below
  any_zero = refl

  -- a turn: none so far, and not this one
  pub any_more : (n : ℕ) → any_below n p ≡ false → p n ≡ false → any_below (n + 1) p ≡ false
  unfolding any_below
  any_more n h e = rw (add-one, h) e

  -- the way out from inside
  pub any_here : (k n : ℕ) → k < n → p k ≡ true → any_below n p ≡ true
  any_here k n l e = (any_says n).passes (record { at = k; below = l; is = e })

  -- the loop's end: the index has come to the bound
  pub any_end : (i n : ℕ) → i ≤ n → n ≤ i → any_below i p ≡ false → any_below n p ≡ false
  any_end i n h k e = let q : i ≡ n = omega arith in rw q at e

  -- ---- for a loop that leaves with false at the first that fails

  pub all_zero : all_below 0 p ≡ true
  unfolding all_below
  all_zero = refl

  pub all_more : (n : ℕ) → all_below n p ≡ true → p n ≡ true → all_below (n + 1) p ≡ true
  unfolding all_below
  all_more n h e = rw (add-one, h) e

  pub all_not : (k n : ℕ) → k < n → p k ≡ false → all_below n p ≡ false
  all_not k n l e = says_false (all_says n) (λ h. true≢false (sym (h k l) ∙ e))

  pub all_end : (i n : ℕ) → i ≤ n → n ≤ i → all_below i p ≡ true → all_below n p ≡ true
  all_end i n h k e = let q : i ≡ n = omega arith in rw q at e

  -- ---- the first that passes

  -- a loop's find: none before k, and k
  pub first_found : (k n : ℕ) → k < n → any_below k p ≡ false → p k ≡ true → first_below n p ≡ k
  unfolding first_below
  first_found k zero l f e = absurd (omega arith)
  first_found k (suc n) l f e = ⊎_elim (λ m. rw (any_here k n m e) (first_found k n m f e)) (λ q. rw (← q, f, e)) (last_or_less l)

  -- a loop's end: there is none
  pub first_absent : (n : ℕ) → any_below n p ≡ false → first_below n p ≡ n
  unfolding first_below
  first_absent zero e = refl
  first_absent (suc n) e =
      let before : any_below n p ≡ false = any_false n (λ k l. any_none (suc n) e k (omega arith)) in
      let last : p n ≡ false = any_none (suc n) e n (omega arith) in
      rw (before, last)

  -- where some number passes, one does and none before it
  least : (n : ℕ) → any_below n p ≡ true → Some n (λ k. (p k ≡ true) × (any_below k p ≡ false))
  unfolding any_below
  least zero e = absurd (true≢false (sym e))
  least (suc n) e = go (least n) (true_or_false (any_below n p))
    where
      go : (any_below n p ≡ true → Some n (λ k. (p k ≡ true) × (any_below k p ≡ false)))
          → (any_below n p ≡ true) ⊎ (any_below n p ≡ false)
          → Some (suc n) (λ k. (p k ≡ true) × (any_below k p ≡ false))
      go ih (inl q) = record { at = (ih q).at; below = omega (arith, (ih q).below); is = (ih q).is }
      go ih (inr q) = record { at = n; below = omega arith; is = (sym (rw q at (sym e)), q) }

  -- what the first is, where some number passes
  pub first_some : (n : ℕ) → any_below n p ≡ true → (first_below n p < n) × (p (first_below n p) ≡ true) × ((k : ℕ) → k < first_below n p → p k ≡ false)
  first_some n e =
      let s = least n e in
      rw (first_found s.at n s.below s.is.1 s.is.0) (s.below, s.is.0, any_none s.at s.is.1)

  -- the test whether there is one
  pub first_any : (n : ℕ) → ltb (first_below n p) n ≡ any_below n p
  first_any n = ⊎_elim
      (λ q. says_true (says_lt (first_below n p) n) (first_some n q).0 ∙ sym q)
      (λ q. says_false (says_lt (first_below n p) n) (λ l. omega (arith, first_absent n q)) ∙ sym q)
      (true_or_false (any_below n p))

-- ---- two tests

-- tests that agree below n
pub any_cong : (n : ℕ) (p q : ℕ → Bool) → ((k : ℕ) → k < n → p k ≡ q k) → any_below n p ≡ any_below n q
unfolding any_below
any_cong zero p q h = refl
any_cong (suc n) p q h = rw (any_cong n p q (λ k l. h k (omega arith)), h n (omega arith))

pub first_cong : (n : ℕ) (p q : ℕ → Bool) → ((k : ℕ) → k < n → p k ≡ q k) → first_below n p ≡ first_below n q
unfolding first_below
first_cong zero p q h = refl
first_cong (suc n) p q h = rw (any_cong n p q (λ k l. h k (omega arith)), first_cong n p q (λ k l. h k (omega arith)), h n (omega arith))

pub all_cong : (n : ℕ) (p q : ℕ → Bool) → ((k : ℕ) → k < n → p k ≡ q k) → all_below n p ≡ all_below n q
unfolding all_below
all_cong zero p q h = refl
all_cong (suc n) p q h = rw (all_cong n p q (λ k l. h k (omega arith)), h n (omega arith))

-- only t can pass: what a change of one row leaves to be looked at
pub any_one : (n t : ℕ) (p : ℕ → Bool) → t < n → ((k : ℕ) → k < n → (k ≡ t → ⊥) → p k ≡ false) → any_below n p ≡ p t
any_one n t p l h = ⊎_elim (λ q. any_here p t n l q ∙ sym q) (λ q. any_false p n (λ k m. other q k m (ℕ_discrete k t)) ∙ sym q) (true_or_false (p t))
  where
    other : p t ≡ false → (k : ℕ) → k < n → Dec (k ≡ t) → p k ≡ false
    other e k m (yes q) = ap p q ∙ e
    other e k m (no d) = h k m d

-- those from n on do not pass
pub any_fewer : (n m : ℕ) (p : ℕ → Bool) → n ≤ m → ((k : ℕ) → n ≤ k → p k ≡ false) → any_below m p ≡ any_below n p
any_fewer n m p h none =
    says_same (any_says p m)
    (says_iff (any_says p n) (
      λ s. record { at = s.at; below = omega (arith, s.below); is = s.is },
      λ s. record { at = s.at; below = within s.at s.is (dec_lt s.at n); is = s.is },
    ))
  where
    within : (k : ℕ) → p k ≡ true → Dec (k < n) → k < n
    within k e (yes l) = l
    within k e (no g) = absurd (true≢false (sym e ∙ none k (omega arith)))
