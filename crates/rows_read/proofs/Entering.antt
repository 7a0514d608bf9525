-- A turn of each loop over set entries.
use mathlib.Core.Bool.{true, false}
use mathlib.Core.List.{List, [], ◌∷◌, Memᴰ}
use mathlib.Core.Path.{◌≡◌, refl, ap, ◌∙◌}
use Prim.Native.Nat.{ℕ, ◌+◌, ◌*◌, ◌≤◌, ◌<◌, max}
use native.Mathlib.Decide.{ℕ_discrete}
use native.Mathlib.Numerals.{add-one}
use native.Mathlib.Omega.{arith}
use lib.Dec.{eqb, ltb}
use lib.ListN.{length, get_or, drop}
use borrow.Author.Tests.{le-leb, lt-leb}
use Rattle.prelude.specs.SaysLaws.{says_eq, says_true, says_false}
use Rattle.prelude.specs.Part.{zeros}
use Rattle.prelude.specs.PartLaws.{zeros_length, zeros_at}
use Rattle.prelude.specs.BigEndian.{big_endian}
use Rattle.sets.specs.Sets.{flag, bit, set_of, with_member}
use Rattle.sets.specs.SetsLaws.{flag_lt, bit_lt, set_bytes, with_length, bit_with, bit_with_other, bit_zeros, is_set}
use Rattle.prelude.specs.Unlike.{among}
use Rattle.rows_format.specs.Entries.{entries, rises_below}
use Rattle.rows_format.specs.EntriesLaws.{entries_cons, entries_none, says_rises}

-- ---- do they rise?

module _ (limit low i n : ℕ) (v : List ℕ) (h : i + 2 ≤ length v) (e : n ≡ big_endian 2 i v) where
  pub rises_low : n < low → rises_below limit low (entries (drop i v)) ≡ false
  unfolding rises_below
  rises_low l = rw (entries_cons v i h, ← e, lt-leb low n l)

  pub rises_over : low ≤ n → ltb n limit ≡ false → rises_below limit low (entries (drop i v)) ≡ false
  unfolding rises_below
  rises_over l m = rw (entries_cons v i h, ← e, le-leb low n l, m)

  pub rises_more : low ≤ n → ltb n limit ≡ true → rises_below limit low (entries (drop i v)) ≡ rises_below limit (n + 1) (entries (drop (i + 2) v))
  unfolding rises_below
  rises_more l m = rw (entries_cons v i h, ← e, le-leb low n l, m, add-one n)

pub rises_done : (limit low i : ℕ) (v : List ℕ) → length v ≤ i → rises_below limit low (entries (drop i v)) ≡ true
unfolding rises_below
rises_done limit low i v h = rw (entries_none v i h)

-- ---- the set of them, one by one

unfoldable pub insert_all : List ℕ → List ℕ → List ℕ
insert_all cell [] = cell
insert_all cell (x ∷ xs) = insert_all (with_member x cell) xs

insert_length : (xs cell : List ℕ) → length (insert_all cell xs) ≡ length cell
unfolding insert_all
insert_length [] cell = refl
insert_length (x ∷ xs) cell = insert_length xs (with_member x cell) ∙ with_length x cell

insert_bytes : (xs cell : List ℕ) → ((i : ℕ) → get_or cell i 0 < 256) → (i : ℕ) → get_or (insert_all cell xs) i 0 < 256
unfolding insert_all with_member
insert_bytes [] cell b = b
insert_bytes (x ∷ xs) cell b = insert_bytes xs (with_member x cell) (set_bytes (length cell) _)

-- the numbers are within the cell
abbrev pub Within : ℕ → List ℕ → Type 0
Within n xs = (k : ℕ) → Memᴰ k xs → k < n * 8

insert_bit : (xs cell : List ℕ) (k : ℕ) → Within (length cell) xs → bit (insert_all cell xs) k ≡ max (bit cell k) (flag (among xs k))
unfolding insert_all among
insert_bit [] cell k w = omega arith
insert_bit (x ∷ xs) cell k w =
    insert_bit xs (with_member x cell) k (λ j m. rw (with_length x cell) (w j (Memᴰ.tail m)))
    ∙ here (ℕ_discrete k x)
  where
    here : Dec (k ≡ x) → max (bit (with_member x cell) k) (flag (among xs k)) ≡ max (bit cell k) (flag (among (x ∷ xs) k))
    here (yes q) =
        let one : bit (with_member x cell) k ≡ 1 = ap (bit (with_member x cell)) q ∙ bit_with cell x (w x (Memᴰ.head refl)) in
        let is : eqb k x ≡ true = says_true (says_eq k x) q in
        rw (one, is) (omega (arith, bit_lt cell k, flag_lt (among xs k)))
    here (no d) =
        let is : eqb k x ≡ false = says_false (says_eq k x) d in
        rw (bit_with_other cell x k d, is)

pub insert_all_lem : (n : ℕ) (xs : List ℕ) → Within n xs → insert_all (zeros n) xs ≡ set_of n (among xs)
insert_all_lem n xs w = is_set (insert_all (zeros n) xs) n (among xs) (insert_length xs (zeros n) ∙ zeros_length n)
    (insert_bytes xs (zeros n) (λ i. omega (arith, zeros_at n i)))
    (λ k l. let b = insert_bit xs (zeros n) k (λ j m. rw (zeros_length n) (w j m)) in omega (arith, b, bit_zeros n k))

module _ (i n : ℕ) (v cell : List ℕ) (h : i + 2 ≤ length v) (e : n ≡ big_endian 2 i v) where
  pub insert_turn : insert_all cell (entries (drop i v)) ≡ insert_all (with_member n cell) (entries (drop (i + 2) v))
  unfolding insert_all
  insert_turn = rw (entries_cons v i h, ← e)

  pub within_rest : (m : ℕ) → Within m (entries (drop i v)) → Within m (entries (drop (i + 2) v))
  within_rest m w k g = w k (rw (entries_cons v i h) (Memᴰ.tail g))

pub insert_done : (i : ℕ) (v cell : List ℕ) → length v ≤ i → insert_all cell (entries (drop i v)) ≡ cell
unfolding insert_all
insert_done i v cell h = rw (entries_none v i h)

-- where the loop begins
pub within_all : (n : ℕ) (v : List ℕ) → rises_below (n * 8) 0 (entries v) ≡ true → Within n (entries v)
within_all n v r = ((says_rises (n * 8) 0 (entries v)).holds r).1

pub insert_begin : (v cell cleared : List ℕ) → rises_below (length cell * 8) 0 (entries v) ≡ true → cleared ≡ zeros (length cell)
    → Within (length cleared) (entries v) × (insert_all cleared (entries v) ≡ set_of (length cleared) (among (entries v)))
insert_begin v cell cleared r e =
    let w : Within (length cell) (entries v) = within_all (length cell) v r in
    let l : length cleared ≡ length cell = ap length e ∙ zeros_length (length cell) in
    rw l (w, ap (λ (x : List ℕ). insert_all x (entries v)) e ∙ insert_all_lem (length cell) (entries v) w)
