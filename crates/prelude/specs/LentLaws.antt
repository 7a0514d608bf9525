-- A part of a byte string that was lent as `&mut s[a..e]` and has come back. The borrow checker writes the whole as `put_mid a (e - a) s back`,
-- which is `take a s ++ (back ++ drop (e - a) (drop a s))`: each law turns that form into a splice.
use Rattle.std.specs.Prelude.{List, ◌++◌, ◌≡◌, refl, ℕ, ◌+◌, ◌-◌, ◌≤◌, length, take, drop}
use Rattle.std.proofs.Common.{append-nil, sym, ap, ◌∙◌, arith, length-drop, drop_of_length-le, drop-drop, take_all}
use Rattle.std.proofs.Math.Seq.{take-length}
use Rattle.prelude.specs.Part.{splice, zeros}
use Rattle.prelude.specs.PartLaws.{part_cut, part_length, zeros_length}

-- a part that came back as new
pub lent_back : (a e : ℕ) (s back new : List ℕ) → e ≡ a + length new → back ≡ new
    → take a s ++ (back ++ drop (e - a) (drop a s)) ≡ splice a new s
unfolding splice
lent_back a e s back new h q = let k : e - a ≡ length new = omega arith in rw (q, k, drop-drop (length new) a s)

-- a part to the end, `&mut s[a..]`, of which the first bytes were replaced
pub lent_front : (a : ℕ) (s back new : List ℕ) → a ≤ length s → back ≡ new ++ drop (length new) (take (length s - a) (drop a s))
    → take a s ++ (back ++ drop (length s - a) (drop a s)) ≡ splice a new s
unfolding splice
lent_front a s back new h q =
    let short : length (drop a s) ≤ length s - a = simp length-drop (omega arith) in
    rw (q, take_all (length s - a) (drop a s) short, drop_of_length-le (drop a s) short, append-nil, drop-drop (length new) a s)

-- bytes copied to the front of such a part
pub lent_copied : (a : ℕ) (v s back : List ℕ) → a ≤ length s → back ≡ take (length v) v ++ drop (length v) (take (length s - a) (drop a s))
    → take a s ++ (back ++ drop (length s - a) (drop a s)) ≡ splice a v s
lent_copied a v s back h e = lent_front a s back v h (rw (take-length v) at e)

-- a part lent to be cleared
pub lent_cleared : (a n : ℕ) (s back : List ℕ) → a + n ≤ length s → back ≡ zeros (length (take (a + n - a) (drop a s)))
    → take a s ++ (back ++ drop (a + n - a) (drop a s)) ≡ splice a (zeros n) s
lent_cleared a n s back f q =
    let l : length (take (a + n - a) (drop a s)) ≡ n = ap length (part_cut a n s (a + n) refl) ∙ part_length a n s f in
    lent_back a (a + n) s back (zeros n) (ap (λ (k : ℕ). a + k) (sym (zeros_length n))) (q ∙ ap zeros l)
