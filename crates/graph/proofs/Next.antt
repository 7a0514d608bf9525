-- The first number that passes a test, as the walk's enum answer.
use mathlib.Core.Bool.{Bool, true, false}
use mathlib.Core.Logic.{◌⊎◌, inl, inr}
use mathlib.Core.Path.{◌≡◌, ap, ◌∙◌}
use Prim.Native.Nat.{ℕ, ◌<◌}
use native.Mathlib.Omega.{arith}
use Rattle.prelude.specs.Below.{any_below, first_below}
use Rattle.prelude.specs.BelowLaws.{any_here, any_false, any_none, first_found, first_some}
use Rattle.prelude.specs.SaysLaws.{true_or_false}
use Rattle.schema.specs.declared.number.ClassNumber.{ClassNumber}
use Rattle.graph.specs.Visit.{first_class}
use Rattle.std.specs.Prelude.{Some, None}

module _ (n : ℕ) (p : ℕ → Bool) where
  -- for a loop: the first is found, and none is
  pub class_found : (k : ℕ) (d : ClassNumber) → d.0 ≡ k → k < n → ((j : ℕ) → j < k → p j ≡ false) → p k ≡ true → Some d ≡ first_class n p
  unfolding first_class
  class_found k d i l f e = ap (λ (j : ℕ). Some (record { 0 = j })) i ∙ rw (any_here p k n l e, first_found p k n l (any_false p k f) e)

  pub class_none : ((k : ℕ) → k < n → p k ≡ false) → None ≡ first_class n p
  unfolding first_class
  class_none f = rw (any_false p n f)

  -- for a caller: what the answer tells
  pub record Found (k : ℕ) : Type 0 where
    pub within : k < n
    pub passes : p k ≡ true
    pub before : (j : ℕ) → j < k → p j ≡ false

  pub class_is : (d : ClassNumber) → Some d ≡ first_class n p → Found d.0
  unfolding first_class
  class_is d e = go (true_or_false (any_below n p))
    where
      go : (any_below n p ≡ true) ⊎ (any_below n p ≡ false) → Found d.0
      go (inl q) =
          let s = first_some p n q in
          let same : d ≡ record { 0 = first_below n p } = cc q in
          let number : d.0 ≡ first_below n p = ap (λ (c : ClassNumber). c.0) same in
          record { within = rw number s.0; passes = rw number s.1; before = rw number s.2 }
      go (inr q) = let no : ◌≡◌ {A = ℕ} 0 1 = cc q in absurd (omega arith)

  pub none_is : None ≡ first_class n p → (k : ℕ) → k < n → p k ≡ false
  unfolding first_class
  none_is e = go (true_or_false (any_below n p))
    where
      go : (any_below n p ≡ true) ⊎ (any_below n p ≡ false) → (k : ℕ) → k < n → p k ≡ false
      go (inl q) = let no : ◌≡◌ {A = ℕ} 0 1 = cc q in absurd (omega arith)
      go (inr q) = any_none p n q
