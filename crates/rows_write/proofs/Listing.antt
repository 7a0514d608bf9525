-- The members of a set, written one by one.
use mathlib.Core.Bool.{Bool, true, false, cond}
use mathlib.Core.List.{List, [], ◌∷◌, ◌++◌, append_assoc, append-nil}
use mathlib.Core.Path.{◌≡◌, refl, sym, ap, ap₂, ◌∙◌}
use Prim.Native.Nat.{ℕ, zero, suc, ◌+◌, ◌-◌, ◌*◌, ◌≤◌}
use native.Mathlib.Numerals.{add-one}
use native.Mathlib.Omega.{arith}
use lib.ListN.{length}
use Rattle.prelude.specs.BigEndian.{big_endian_bytes}
use Rattle.sets.specs.Sets.{member, count_below, list_below, from, members_from}
use Rattle.sets.specs.CountLaws.{count_add}
use Rattle.sets.specs.ListLaws.{list_count, from_past}
use Rattle.rows_format.specs.Entries.{entry_bytes}
use Rattle.rows_format.specs.EntriesLaws.{entry_length}

-- one entry, or none
pub one_entry : (n : ℕ) {b c : Bool} → c ≡ b → c ≡ true → entry_bytes (cond b (n ∷ []) []) ≡ big_endian_bytes 2 n
unfolding entry_bytes
one_entry n e t = rw (← e, t) (append-nil (big_endian_bytes 2 n))

pub no_entry : (n : ℕ) {b c : Bool} → c ≡ b → c ≡ false → entry_bytes (cond b (n ∷ []) []) ≡ []
unfolding entry_bytes
no_entry n e t = rw (← e, t)

entry_append : (xs ys : List ℕ) → entry_bytes (xs ++ ys) ≡ entry_bytes xs ++ entry_bytes ys
unfolding entry_bytes
entry_append [] ys = refl
entry_append (x ∷ xs) ys = ap (λ (t : List ℕ). big_endian_bytes 2 x ++ t) (entry_append xs ys)
    ∙ sym (append_assoc (big_endian_bytes 2 x) (entry_bytes xs) (entry_bytes ys))

module _ (p : ℕ → Bool) where
  pub entries_none : entry_bytes (list_below 0 p) ≡ []
  unfolding entry_bytes list_below
  entries_none = refl

  pub entries_more : (n : ℕ) → entry_bytes (list_below (n + 1) p) ≡ entry_bytes (list_below n p) ++ entry_bytes (cond (p n) (n ∷ []) [])
  unfolding list_below
  entries_more n = rw (add-one n) (entry_append (list_below n p) (cond (p n) (n ∷ []) []))

  -- those below a bound are no more than those below a higher one
  pub entries_fit : (n m : ℕ) → n ≤ m → length (entry_bytes (list_below n p)) ≤ length (entry_bytes (list_below m p))
  entries_fit n m h =
      let e : m ≡ n + (m - n) = omega arith in
      let c = count_add n (m - n) p in
      let d : count_below m p ≡ count_below (n + (m - n)) p = ap (λ (k : ℕ). count_below k p) e in
      omega (arith, entry_length (list_below n p), entry_length (list_below m p), list_count n p, list_count m p)

list_cong : (n : ℕ) (p q : ℕ → Bool) → ((k : ℕ) → p k ≡ q k) → list_below n p ≡ list_below n q
unfolding list_below
list_cong zero p q h = refl
list_cong (suc n) p q h = ap₂ (λ (a : List ℕ) (b : Bool). a ++ cond b (n ∷ []) []) (list_cong n p q h) (h n)

-- all of them
pub entries_all : (cell : List ℕ) → list_below (length cell * 8) (member cell) ≡ members_from 0 cell
unfolding members_from
entries_all cell = sym (list_cong (length cell * 8) (from 0 (member cell)) (member cell) (λ k. from_past 0 (member cell) k (omega arith)))
