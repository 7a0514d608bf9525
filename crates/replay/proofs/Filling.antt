-- Bytes that are filled up with one byte. Assumes nothing.
use Rattle.std.proofs.Common.{◌≡◌, ℕ, zero, suc, ◌+◌, ◌-◌, ◌≤◌, List, [], ◌∷◌, ◌++◌, length, take, replicate, refl, ap, ◌∙◌, arith, append_assoc, length-append}
use Rattle.std.proofs.Common.{length-take}
use lib.ListN.{length-replicate}
use Rattle.replay.specs.Playing.{past_byte, past_bytes, spare, first_bytes, resized}

replicate_more : (n x : ℕ) → replicate n x ++ (x ∷ []) ≡ replicate (suc n) x
replicate_more zero x = refl
replicate_more (suc n) x = ap (λ (s : List ℕ). x ∷ s) (replicate_more n x)

pub filled_more : (start now : List ℕ) (x : ℕ) → length start ≤ length now → now ≡ start ++ replicate (length now - length start) x
    → now ++ (x ∷ []) ≡ start ++ replicate (length (now ++ (x ∷ [])) - length start) x
filled_more start now x h e =
    let n : ℕ = length now - length start in
    let k : suc n ≡ length (now ++ (x ∷ [])) - length start = omega (arith, length-append now (x ∷ [])) in
    let r : (start ++ replicate n x) ++ (x ∷ []) ≡ start ++ (replicate n x ++ (x ∷ [])) = simp append_assoc in
    ap (λ (s : List ℕ). s ++ (x ∷ [])) e ∙ r ∙ ap (λ (s : List ℕ). start ++ s) (replicate_more n x ∙ ap (λ (j : ℕ). replicate j x) k)

-- where nothing stood before
filled_whole : (n x : ℕ) (start now : List ℕ) → start ≡ [] → now ≡ start ++ replicate (n - length start) x → now ≡ replicate n x
filled_whole n x start now z e =
    let k : n - length start ≡ n = omega (arith, ap length z) in
    e ∙ rw (k, z)

pub first_filled : (n : ℕ) (start mid now : List ℕ) → start ≡ [] → mid ≡ start ++ replicate (n - length start) 0
    → now ≡ mid ++ replicate (n + spare - length mid) past_byte → now ≡ first_bytes n
unfolding first_bytes past_bytes
first_filled n start mid now z p q =
    let m : mid ≡ replicate n 0 = filled_whole n 0 start mid z p in
    let k : n + spare - length mid ≡ spare = omega (arith, ap length m, length-replicate {A = ℕ} n 0) in
    q ∙ rw (k, m)

pub past_filled : (n m : ℕ) (start now : List ℕ) → m ≡ n → start ≡ [] → now ≡ start ++ replicate (m - length start) past_byte → now ≡ past_bytes n
unfolding past_bytes
past_filled n m start now e z p = rw (← e) (filled_whole m past_byte start now z p)

pub resized_filled : (n m : ℕ) (old cut now : List ℕ) → m ≡ n → cut ≡ take m old → now ≡ cut ++ replicate (m - length cut) past_byte → now ≡ resized n old
unfolding resized past_bytes
resized_filled n m old cut now e p q =
    let k : n - length (take n old) ≡ n - length old = omega (arith, length-take n old) in
    q ∙ rw (p, e, k)
