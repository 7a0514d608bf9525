-- The library's searches over a range of numbers, said by the bounded tests of the prelude.
use Prim.Native.Nat.{ℕ, zero, suc, ◌+◌, ◌≤◌, ◌<◌}
use Rattle.std.specs.Prelude.{◌≡◌, List, Bool, true, false, cond, ◌||◌, ◌&&◌, Option, None, Some}
use Rattle.std.specs.Option.{MatchOption}
use Rattle.std.specs.Iterator.{YieldsThen}
use Rattle.std.specs.Fn.{Called, CalledAt}
use Rattle.std.specs.List.{list_any, list_all, range_with_len, FoldsTo}
use Rattle.std.specs.declared.ops.Range.{Range}
use Rattle.std.proofs.Common.{sym, ap, ◌∙◌, refl, arith}
use Rattle.std.proofs.lemmas.Iterator.{YieldsList-from_range, first_from_Range}
use Rattle.std.proofs.iter.Yields.{nat_range_steps}
use Rattle.std.proofs.lemmas.Iterator.Search.{any_from_yields_List, all_from_yields_List}
use Rattle.prelude.specs.Below.{any_below, all_below, first_below}
use Rattle.prelude.specs.BelowLaws.{any_cong, all_cong, any_false, any_here, first_found}
use denote.Param.Members.{Mut}
use denote.Ref.{Bor}
use Rattle.std.specs.Bool.{⊤}

or_over : (a b c : Bool) → (a || b) || c ≡ a || (b || c)
or_over true b c = refl
or_over false b c = refl

or_false : (a : Bool) → a || false ≡ a
or_false true = refl
or_false false = refl

pub and_over : (a b c : Bool) → (a && b) && c ≡ a && (b && c)
and_over true b c = refl
and_over false b c = refl

pub and_true : (a : Bool) → a && true ≡ a
and_true true = refl
and_true false = refl

-- the first apart from the others
pub any_first : (n : ℕ) (p : ℕ → Bool) → any_below (suc n) p ≡ p 0 || any_below n (λ k. p (suc k))
unfolding any_below
any_first zero p = sym (or_false (p 0))
any_first (suc n) p = rw (any_first n p) (or_over (p 0) (any_below n (λ k. p (suc k))) (p (suc n)))

pub all_first : (n : ℕ) (p : ℕ → Bool) → all_below (suc n) p ≡ p 0 && all_below n (λ k. p (suc k))
unfolding all_below
all_first zero p = sym (and_true (p 0))
all_first (suc n) p = rw (all_first n p) (and_over (p 0) (all_below n (λ k. p (suc k))) (p (suc n)))

-- a test of the numbers from a on, in order
any_list : (n a : ℕ) (p : ℕ → Bool) → list_any p (range_with_len a n) ≡ any_below n (λ k. p (a + k))
unfolding any_below
any_list zero a p = refl
any_list (suc n) a p =
    let e : list_any p (range_with_len (a + 1) n) ≡ any_below n (λ k. p (a + suc k)) =
    any_list n (a + 1) p ∙ any_cong n (λ k. p (a + 1 + k)) (λ k. p (a + suc k)) (λ k l. ap p (omega arith)) in
    let z : p a ≡ p (a + 0) = ap p (omega arith) in
    ap (λ t. p a || t) e ∙ ap (λ t. t || any_below n (λ k. p (a + suc k))) z ∙ sym (any_first n (λ k. p (a + k)))

all_list : (n a : ℕ) (p : ℕ → Bool) → list_all p (range_with_len a n) ≡ all_below n (λ k. p (a + k))
unfolding all_below
all_list zero a p = refl
all_list (suc n) a p =
    let e : list_all p (range_with_len (a + 1) n) ≡ all_below n (λ k. p (a + suc k)) =
    all_list n (a + 1) p ∙ all_cong n (λ k. p (a + 1 + k)) (λ k. p (a + suc k)) (λ k l. ap p (omega arith)) in
    let z : p a ≡ p (a + 0) = ap p (omega arith) in
    ap (λ t. p a && t) e ∙ ap (λ t. t && all_below n (λ k. p (a + suc k))) z ∙ sym (all_first n (λ k. p (a + k)))

module _ {F : Type 0} {g : Mut F (ℕ × Unit {0}) Bool} (n : ℕ) (p : ℕ → Bool) (u : Range ℕ) (f : F) (r : Bool) where
  -- `(0..n).any(f)`, where f answers p
  pub any_in_range : (xs : List ℕ) × (o : Option ℕ) × (j : F) × YieldsThen nat_range_steps (record { start = 0; end = n }) xs o u
      × FoldsTo (λ p x q. Called g p (x, tt) false q) f xs j × MatchOption o (r ≡ false) (λ x. (r ≡ true) × ((h : F) × Called g j (x, tt) true h))
      → ((x : ℕ) (b : Bool) (q : F) → Called g f (x, tt) b q → (q ≡ f) × (b ≡ p x))
      → r ≡ any_below n p
  any_in_range ran says = any_from_yields_List p u f r ran (YieldsList-from_range 0 n n refl (omega arith)) says ∙ any_list n 0 p ∙ any_cong n (λ k. p (0 + k)) p (λ k l. ap p (omega arith))

  -- `(0..n).all(f)`
  pub all_in_range : (xs : List ℕ) × (o : Option ℕ) × (j : F) × YieldsThen nat_range_steps (record { start = 0; end = n }) xs o u
      × FoldsTo (λ p x q. Called g p (x, tt) true q) f xs j × MatchOption o (r ≡ true) (λ x. (r ≡ false) × ((h : F) × Called g j (x, tt) false h))
      → ((x : ℕ) (b : Bool) (q : F) → Called g f (x, tt) b q → (q ≡ f) × (b ≡ p x))
      → r ≡ all_below n p
  all_in_range ran says = all_from_yields_List p u f r ran (YieldsList-from_range 0 n n refl (omega arith)) says ∙ all_list n 0 p ∙ all_cong n (λ k. p (0 + k)) p (λ k l. ap p (omega arith))

module _ {F : Type 0} {g : Mut F (Bor ℕ × Unit {0}) Bool} (n : ℕ) (p : ℕ → Bool) (u : Range ℕ) (f : F) (r : Option ℕ) where
  -- `(0..n).find(f)`
  pub find_in_range : (xs : List ℕ) × (j : F) × YieldsThen nat_range_steps (record { start = 0; end = n }) xs r u
      × FoldsTo (λ p x q. CalledAt g p x false q) f xs j × MatchOption r ⊤ (λ x. (h : F) × CalledAt g j x true h)
      → ((x : ℕ) (b : Bool) (q : F) → CalledAt g f x b q → (q ≡ f) × (b ≡ p x))
      → r ≡ cond (any_below n p) (Some (first_below n p)) None
  find_in_range ran says =
      found r (first_from_Range (record { start = 0; end = n }) u f r (λ k. p k ≡ true) (λ k. p k ≡ false) ran
      (λ x q c. sym (says x true q c).1) (λ x q c. ((says x false q c).0, sym (says x false q c).1)))
    where
      found : (o : Option ℕ) → MatchOption o ((k : ℕ) → 0 ≤ k → k < n → p k ≡ false) (λ i. (0 ≤ i) × (i < n) × (p i ≡ true) × ((k : ℕ) → 0 ≤ k → k < i → p k ≡ false))
          → o ≡ cond (any_below n p) (Some (first_below n p)) None
      found None h = rw (any_false p n (λ k l. h k (omega arith) l)) refl
      found (Some i) h =
          rw (any_here p i n h.1 h.2, first_found p i n h.1 (any_false p i (λ k l. h.3 k (omega arith) l)) h.2) refl
