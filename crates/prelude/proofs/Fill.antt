-- A loop that overwrites d with t from the front, one byte a turn: its invariant says that i bytes are t's and the rest is as it was.
use mathlib.Core.Path.{◌≡◌, refl, sym, ap, ◌∙◌}
use mathlib.Core.List.{List, [], ◌∷◌, ◌++◌, append_assoc, append-nil}
use Prim.Native.Nat.{ℕ, suc, ◌+◌, ◌-◌, ◌≤◌, ◌<◌}
use native.Mathlib.Omega.{arith}
use native.Mathlib.Numerals.{add-one}
use lib.ListN.{length, take, drop, get_or, set, length-set, drop_of_length-le}
use lib.Seq.{drop-cons, take-suc, take_all, set_at, length-take-le, get_or-append-add, get_or-drop}

-- d, of which the first i bytes have been overwritten with t's
pub record Filled (t d : List ℕ) (i : ℕ) (now : List ℕ) : Type 0 where
  pub far : i ≤ length d
  pub long : length now ≡ length d
  pub bytes : now ≡ take i t ++ drop i d

module _ (t d : List ℕ) where
  pub fill_none : Filled t d 0 d
  fill_none = record { far = omega arith; long = refl; bytes = refl }

  -- a turn of the loop
  pub fill_more : (i v : ℕ) (now : List ℕ) → length t ≡ length d → i < length d → v ≡ get_or t i 0 → Filled t d i now → Filled t d (i + 1) (set now i v)
  fill_more i v now h l e f = record { far = omega arith; long = length-set now i v ∙ f.long; bytes = ap (λ (x : List ℕ). set x i v) f.bytes ∙ turn }
    where
      turn : set (take i t ++ drop i d) i v ≡ take (i + 1) t ++ drop (i + 1) d
      turn =
          let k : i < length t = omega arith in
          rw (
            e,
            drop-cons d i 0 l,
            set_at (take i t) (get_or d i 0) (drop (suc i) d) (get_or t i 0) i (length-take-le i t (omega arith)),
            add-one,
            take-suc t i 0 k,
          )
          (sym (append_assoc (take i t) (get_or t i 0 ∷ []) (drop (suc i) d)))

  -- the loop's end
  pub fill_all : (i : ℕ) (now : List ℕ) → length t ≡ length d → length d ≤ i → Filled t d i now → now ≡ t
  fill_all i now h l f = f.bytes ∙ rw (take_all i t (omega arith), drop_of_length-le d l, append-nil)

  -- a byte that the loop has not come to
  pub fill_later : (i j : ℕ) (now : List ℕ) → length t ≡ length d → i ≤ j → Filled t d i now → get_or now j 0 ≡ get_or d j 0
  fill_later i j now h l f =
      let p : length (take i t) ≡ i = length-take-le i t (omega (arith, f.far)) in
      let e : j ≡ length (take i t) + (j - i) = omega arith in
      let e' : j ≡ i + (j - i) = omega arith in
      ap (λ (x : List ℕ). get_or x j 0) f.bytes ∙ ap (λ (k : ℕ). get_or (take i t ++ drop i d) k 0) e
      ∙ get_or-append-add (take i t) (drop i d) (j - i) 0 ∙ get_or-drop i d (j - i) 0 ∙ ap (λ (k : ℕ). get_or d k 0) (sym e')
