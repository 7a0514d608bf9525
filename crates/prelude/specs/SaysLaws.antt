-- Rules of `Says`, one for each shape of a test: `search says` applies them. Then what follows from a test that says a statement.
use Rattle.std.specs.Prelude.{◌≡◌, refl, Bool, true, false, cond, not, ◌&&◌, ◌||◌, ◌⊎◌, ◌↔◌, ℕ, ◌≤◌, ◌<◌, leb, ltb, eqb}
use Rattle.std.proofs.Common.{sym, ◌∙◌, true≢false, inl, inr, ⊎_elim, leb-true, le-leb, ltb-true, lt-ltb, eqb-true, eq-eqb}
use Rattle.std.proofs.lemmas.Bool.{false≢true}
use Rattle.prelude.specs.Says.{Says}

-- ---- one rule for each shape of a test

pub says_test : (b : Bool) → Says b (b ≡ true)
says_test b = record { holds = λ e. e; passes = λ e. e }

pub says_and : {a b : Bool} {P Q : Type 0} → Says a P → Says b Q → Says (a && b) (P × Q)
says_and {a = true} s u = record { holds = λ e. (s.holds refl, u.holds e); passes = λ p. u.passes p.1 }
says_and {a = false} s u = record { holds = λ e. absurd (false≢true e); passes = λ p. s.passes p.0 }

pub says_or : {a b : Bool} {P Q : Type 0} → Says a P → Says b Q → Says (a || b) (P ⊎ Q)
says_or {a = true} s u = record { holds = λ e. inl (s.holds refl); passes = λ d. refl }
says_or {a = false} s u = record { holds = λ e. inr (u.holds e); passes = ⊎_elim (λ p. absurd (false≢true (s.passes p))) u.passes }

pub says_not : {a : Bool} {P : Type 0} → Says a P → Says (not a) (¬ P)
says_not {a = true} s = record { holds = λ e. absurd (false≢true e); passes = λ n. absurd (n (s.holds refl)) }
says_not {a = false} s = record { holds = λ e p. false≢true (s.passes p); passes = λ n. refl }

-- that a test fails
pub says_not_test : (b : Bool) → Says (not b) (b ≡ false)
says_not_test true = record { holds = λ e. sym e; passes = λ e. sym e }
says_not_test false = record { holds = λ e. refl; passes = λ e. refl }

pub says_le : (m n : ℕ) → Says (leb m n) (m ≤ n)
says_le m n = record { holds = leb-true m n; passes = le-leb m n }

pub says_lt : (m n : ℕ) → Says (ltb m n) (m < n)
says_lt m n = record { holds = ltb-true m n; passes = lt-ltb m n }

pub says_eq : (m n : ℕ) → Says (eqb m n) (m ≡ n)
says_eq m n = record { holds = eqb-true m n; passes = eq-eqb m n }

pub ruleset says = (says_and, says_or, says_not, says_le, says_lt, says_eq, says_test)

-- ---- what follows

-- a statement that holds exactly where another does
pub says_iff : {b : Bool} {P Q : Type 0} → Says b P → P ↔ Q → Says b Q
says_iff s h = record { holds = λ e. h.0 (s.holds e); passes = λ q. s.passes (h.1 q) }

-- the test's value from the statement
pub says_true : {b : Bool} {P : Type 0} → Says b P → P → b ≡ true
says_true s p = s.passes p

pub says_false : {b : Bool} {P : Type 0} → Says b P → ¬ P → b ≡ false
says_false {b = true} s n = absurd (n (s.holds refl))
says_false {b = false} s n = refl

-- the statement from the test's value
pub says_fails : {b : Bool} {P : Type 0} → Says b P → b ≡ false → ¬ P
says_fails s e p = true≢false (sym (s.passes p) ∙ e)

-- two tests of one statement are equal
pub says_same : {a b : Bool} {P : Type 0} → Says a P → Says b P → a ≡ b
says_same {a = true} s u = sym (u.passes (s.holds refl))
says_same {a = false} s u = sym (says_false u (λ p. false≢true (s.passes p)))

-- the two cases of a test, each with its value for `rw` and its meaning
pub says_split : {b : Bool} {P : Type 0} → Says b P → ((b ≡ true) × P) ⊎ ((b ≡ false) × ¬ P)
says_split {b = true} s = inl (refl, s.holds refl)
says_split {b = false} s = inr (refl, says_fails s refl)

-- the two values of a test
pub true_or_false : (b : Bool) → (b ≡ true) ⊎ (b ≡ false)
true_or_false true = inl refl
true_or_false false = inr refl

-- neither of two tests passes
pub neither : (a b : Bool) → (a || b) ≡ false → (a ≡ false) × (b ≡ false)
neither true b e = absurd (true≢false e)
neither false b e = (refl, e)

-- what holds of both values of a choice, each where it is chosen
pub choose : {A : Type 0} (P : A → Type 0) (b : Bool) {x y : A} → (b ≡ true → P x) → (b ≡ false → P y) → P (cond b x y)
choose P true t f = t refl
choose P false t f = f refl

-- a test that never passes
pub says_never : Says false ⊥
says_never = record { holds = λ e. absurd (false≢true e); passes = λ h. absurd h }
