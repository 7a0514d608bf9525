-- The front of a store cleared, and a row put in place.
use mathlib.Core.List.{List, ◌++◌}
use mathlib.Core.Path.{◌≡◌, refl, sym, ap, ◌∙◌}
use Prim.Native.Nat.{ℕ, ◌+◌, ◌-◌, ◌≤◌}
use native.Mathlib.Nat.{zero-add}
use native.Mathlib.Omega.{arith}
use lib.ListN.{length, take, drop}
use lib.Seq.{length-take-le}
use Rattle.prelude.specs.Part.{splice, zeros, padded}
use Rattle.prelude.specs.PartLaws.{part_cut, part_length, padded_full, zeros_length}
use Rattle.prelude.specs.LentLaws.{lent_back}

pub lent_cleared_front : (n : ℕ) (s back : List ℕ) → n ≤ length s → back ≡ zeros (length (take (n - 0) (drop 0 s))) → back ++ drop (n - 0) (drop 0 s)
    ≡ splice 0 (zeros n) s
lent_cleared_front n s back h q =
    let m : n - 0 ≡ n = omega arith in
    let l : length (take (n - 0) s) ≡ n = ap (λ (k : ℕ). length (take k s)) m ∙ length-take-le n s h in
    lent_back 0 n s back (zeros n) (sym (zero-add (length (zeros n)) ∙ zeros_length n)) (q ∙ ap zeros l)

pub cut_length : (at w : ℕ) (s : List ℕ) → at + w ≤ length s → length (take (at + w - at) (drop at s)) ≡ w
cut_length at w s h = ap length (part_cut at w s (at + w) refl) ∙ part_length at w s h

pub row_put : (at w : ℕ) (s row back : List ℕ) → at + w ≤ length s → length row ≡ w → back ≡ padded (length (take (at + w - at) (drop at s))) row
    → take at s ++ (back ++ drop (at + w - at) (drop at s)) ≡ splice at row s
row_put at w s row back h e q =
    let l : length (take (at + w - at) (drop at s)) ≡ w = cut_length at w s h in
    lent_back at (at + w) s back row (ap (λ (k : ℕ). at + k) (sym e)) (q ∙ ap (λ (k : ℕ). padded k row) l ∙ padded_full w row e)
