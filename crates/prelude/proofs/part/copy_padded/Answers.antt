use mathlib.Core.Path.{◌≡◌, refl, sym, ap, ◌∙◌}
use mathlib.Core.List.{List, ◌++◌, append-nil}
use Prim.Native.Nat.{ℕ, ◌-◌, ◌≤◌}
use lib.ListN.{length, take, drop, length-append, length-drop, drop_of_length-le}
use lib.Seq.{take_at, take_all}
use Rattle.prelude.specs.Part.{zeros, padded}
use native.Mathlib.Omega.{arith}
use Rattle.prelude.proofs.part.copy_padded.Goals as goal

-- the bytes of s and then zeros to the end: d after the copy is e, and its rest came back as `back`
copied : (n : ℕ) (d s e back : List ℕ) → n ≡ length s → length s ≤ length d → e ≡ s ++ drop (length s) d
    → back ≡ zeros (length (take (length e - n) (drop n e)))
    → take n e ++ (back ++ drop (length e - n) (drop n e)) ≡ padded (length d) s
unfolding padded
copied n d s e back h k whole z =
    let rest : List ℕ = drop (length s) d in
    let long : length e ≡ length d = ap length whole ∙ simp (length-append, length-drop) (omega arith) in
    let short : length (drop n e) ≤ length e - n = simp length-drop (omega arith) in
    let count : length (drop n e) ≡ length d - length s = simp length-drop (omega arith) in
    let front : take n e ≡ s = ap (take n) whole ∙ take_at s rest n (sym h) in
    rw (z, take_all (length e - n) (drop n e) short, drop_of_length-le (drop n e) short, append-nil, front, count)

pub returns : goal.returns
returns c =
    copied _ c.args.d.now c.args.s.now _ _ refl c.requires
    (ap (λ (x : List ℕ). x ++ drop (length c.args.s.now) c.args.d.now) c.copy_from_slice.ensures.after) c.clear.ensures
