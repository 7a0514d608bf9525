-- Laws of the list of members: what is in it, its order and length, and how it goes on from one member to the next.
use Rattle.std.specs.Prelude.{◌≡◌, refl, Bool, true, false, cond, ◌↔◌, ℕ, zero, suc, ◌+◌, ◌≤◌, ◌<◌, length}
use Rattle.std.proofs.Common.{sym, ap, ap₂, ◌∙◌, ⊎_elim, append-nil, arith, length-append}
use Rattle.std.proofs.lemmas.Bool.{false≢true}
use mathlib.Core.List.Memᴰ
use mathlib.Core.List.{List, [], ◌∷◌, ◌++◌, Memᴰ}
use Rattle.prelude.specs.BelowLaws.{last_or_less}
use Rattle.prelude.specs.SaysLaws.{says_le, says_true, says_false}
use Rattle.sets.specs.Sets.{flag, count_below, list_below, from, Rises, none, more}

-- the list has exactly the numbers below n that pass
pub list_has : (n : ℕ) (p : ℕ → Bool) (k : ℕ) → Memᴰ k (list_below n p) ↔ ((k < n) × (p k ≡ true))
unfolding list_below
list_has zero p k = (λ m. absurd (Memᴰ.not-nil m), λ h. absurd (omega (arith, h.0)))
list_has (suc n) p k = (
  λ m. ⊎_elim (λ w. up ((list_has n p k).0 w)) (λ w. at_last (p n) refl w) (Memᴰ.append_cases (list_below n p) m),
  λ h.
      ⊎_elim (λ l. Memᴰ.append_left (last (p n)) ((list_has n p k).1 (l, h.1)))
      (λ e. Memᴰ.append_right (list_below n p) (added (p n) (sym (ap p e) ∙ h.1) e)) (last_or_less h.0),
)
  where
    last : Bool → List ℕ
    last b = cond b (n ∷ []) []

    up : (k < n) × (p k ≡ true) → (k < suc n) × (p k ≡ true)
    up h = (omega (arith, h.0), h.1)

    at_last : (b : Bool) → p n ≡ b → Memᴰ k (cond b (n ∷ []) []) → (k < suc n) × (p k ≡ true)
    at_last true e m = let q : k ≡ n = Memᴰ.eq_of_singleton m in (omega arith, ap p q ∙ e)
    at_last false e m = absurd (Memᴰ.not-nil m)

    added : (b : Bool) → b ≡ true → k ≡ n → Memᴰ k (cond b (n ∷ []) [])
    added true e q = Memᴰ.head q
    added false e q = absurd (false≢true e)

-- it rises
rises_append : {low n : ℕ} {xs : List ℕ} → Rises low xs → ((k : ℕ) → Memᴰ k xs → k < n) → low ≤ n → Rises low (xs ++ (n ∷ []))
rises_append none h l = more l none
rises_append (more {x = x} l r) h g = more l (rises_append r (λ k m. h k (Memᴰ.tail m)) (h x (Memᴰ.head refl)))

pub list_rises : (n : ℕ) (p : ℕ → Bool) → Rises 0 (list_below n p)
unfolding list_below
list_rises zero p = none
list_rises (suc n) p = go (list_rises n p) (p n)
  where
    go : Rises 0 (list_below n p) → (b : Bool) → Rises 0 (list_below n p ++ cond b (n ∷ []) [])
    go r true = rises_append r (λ k m. ((list_has n p k).0 m).0) (omega arith)
    go r false = rw (append-nil (list_below n p)) r

-- it is as long as the count
pub list_count : (n : ℕ) (p : ℕ → Bool) → length (list_below n p) ≡ count_below n p
unfolding list_below count_below
list_count zero p = refl
list_count (suc n) p = length-append (list_below n p) (cond (p n) (n ∷ []) []) ∙ ap₂ (λ (x y : ℕ). x + y) (list_count n p) (one (p n))
  where
    one : (b : Bool) → length (cond b (n ∷ []) []) ≡ flag b
    one true = refl
    one false = refl

pub list_none : (n : ℕ) (p : ℕ → Bool) → ((k : ℕ) → k < n → p k ≡ false) → list_below n p ≡ []
unfolding list_below
list_none zero p h = refl
list_none (suc n) p h = rw (list_none n p (λ k l. h k (omega arith)), h n (omega arith))

-- the first that passes, and then those after it
pub list_next : (n i m : ℕ) (p : ℕ → Bool) → m < n → i ≤ m → p m ≡ true → ((k : ℕ) → k < m → from i p k ≡ false) → list_below n (from i p)
    ≡ m ∷ list_below n (from (m + 1) p)
unfolding list_below
list_next zero i m p l h e f = absurd (omega arith)
list_next (suc n) i m p l h e f = ⊎_elim (λ b. before b (list_next n i m p b h e f)) here (last_or_less l)
  where
    -- the tests agree past m
    past : m < n → from i p n ≡ from (m + 1) p n
    past b = rw (says_true (says_le i n) (omega arith), says_true (says_le (m + 1) n) (omega arith))

    before : m < n → list_below n (from i p) ≡ m ∷ list_below n (from (m + 1) p)
        → list_below n (from i p) ++ cond (from i p n) (n ∷ []) [] ≡ m ∷ (list_below n (from (m + 1) p) ++ cond (from (m + 1) p n) (n ∷ []) [])
    before b ih = rw (ih, past b)

    here : m ≡ n → list_below n (from i p) ++ cond (from i p n) (n ∷ []) [] ≡ m ∷ (list_below n (from (m + 1) p) ++ cond (from (m + 1) p n) (n ∷ []) [])
    here q =
        let none_before : list_below n (from i p) ≡ [] = list_none n (from i p) (λ k b. f k (omega arith)) in
        let none_after : list_below n (from (m + 1) p) ≡ [] = list_none n (from (m + 1) p) (λ k b. after k (omega arith)) in
        let passes : p n ≡ true = ap p (sym q) ∙ e in
        rw (none_before, none_after, after n (omega arith), says_true (says_le i n) (omega arith), passes, q)
      where
        after : (k : ℕ) → k ≤ m → from (m + 1) p k ≡ false
        after k b = rw (says_false (says_le (m + 1) k) (λ g. omega arith))

-- none before the start, and from there on the test is p
pub from_before : (i : ℕ) (p : ℕ → Bool) (k : ℕ) → k < i → from i p k ≡ false
from_before i p k l = rw (says_false (says_le i k) (λ g. omega arith))

pub from_past : (i : ℕ) (p : ℕ → Bool) (k : ℕ) → i ≤ k → from i p k ≡ p k
from_past i p k l = rw (says_true (says_le i k) l)
