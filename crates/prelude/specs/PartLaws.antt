-- Laws of parts, rows, zeros and padding.
use Rattle.std.specs.Prelude.{◌≡◌, true, length}
use Rattle.std.proofs.Math.Path.{refl, sym}
use Rattle.std.proofs.Common.{ap, ◌∙◌, add-one, mul-le-mul_left, length-append, length-drop, drop_at, drop-drop, take-take, take-add, take_all, get_or-take, get_or-drop, drop-cons, take-suc, ext_get_or}
use mathlib.Core.List.{List, [], ◌∷◌, ◌++◌, append-nil}
use Prim.Native.Nat.{ℕ, zero, suc, ◌+◌, ◌-◌, ◌*◌, ◌≤◌, ◌<◌}
use native.Mathlib.Omega.{arith}
use Rattle.std.proofs.Math.Decide.{dec_lt}
use Rattle.std.proofs.Math.ListN.{take, drop, get_or, length-take, get_or-eq_default}
use Rattle.std.proofs.lemmas.List.{length-replicate, replicate-append-replicate}
use Rattle.std.proofs.Math.Seq.{take-append_seam}
use Rattle.prelude.specs.Says.{Says}
use Rattle.prelude.specs.SaysLaws.{says_iff, says_and, says_eq}
use Rattle.prelude.specs.BelowLaws.{says_all}
use Rattle.prelude.specs.Part.{part, row_at, zeros, padded, is_zero, same_bytes}

-- no bytes
pub length_nil : (s : List ℕ) → length s ≡ 0 → s ≡ []
length_nil [] e = refl
length_nil (x ∷ s) e = absurd (omega arith)

-- ---- a part

module _ (at n : ℕ) (s : List ℕ) where
  pub part_length : at + n ≤ length s → length (part at n s) ≡ n
  unfolding part
  part_length h = simp (length-take, length-drop) (omega arith)

  -- wherever it begins
  pub part_short : (length (part at n s) ≤ n) × (length (part at n s) ≤ length s)
  unfolding part
  part_short = (simp (length-take, length-drop) (omega arith), simp (length-take, length-drop) (omega arith))

  pub part_at : (i : ℕ) → i < n → get_or (part at n s) i 0 ≡ get_or s (at + i) 0
  unfolding part
  part_at i h = rw (get_or-take, get_or-drop)

  -- a part as the language cuts it, from at up to e
  pub part_cut : (e : ℕ) → e ≡ at + n → take (e - at) (drop at s) ≡ part at n s
  unfolding part
  part_cut e h = let k : e - at ≡ n = omega arith in rw k

  -- a part of a part
  pub part_part : (i m : ℕ) → i + m ≤ n → part i m (part at n s) ≡ part (at + i) m s
  unfolding part
  part_part i m h = cut_twice (n - i) (omega arith)
    where
      skip : (i n : ℕ) (l : List ℕ) → i ≤ n → drop i (take n l) ≡ take (n - i) (drop i l)
      skip zero n l h = let e : n - 0 ≡ n = omega arith in rw e
      skip (suc i) zero l h = absurd (omega arith)
      skip (suc i) (suc n) [] h = sym (empty (suc n - suc i))
        where
          empty : (k : ℕ) → take {A = ℕ} k [] ≡ []
          empty zero = refl
          empty (suc k) = refl
      skip (suc i) (suc n) (x ∷ l) h = skip i n l (omega arith) ∙ (let e : n - i ≡ suc n - suc i = omega arith in rw e)

      cut_twice : (k : ℕ) → (k ≡ n - i) × (m ≤ k) → take m (drop i (take n (drop at s))) ≡ take m (drop (at + i) s)
      cut_twice k e = rw (skip i n (drop at s) (omega arith), ← e.0, take-take m k (drop i (drop at s)) e.1, drop-drop i at s)

  -- the bytes of a part are bytes
  pub part_bytes : ((i : ℕ) → get_or s i 0 < 256) → (i : ℕ) → get_or (part at n s) i 0 < 256
  unfolding part
  part_bytes h i = go (dec_lt i n)
    where
      go : Dec (i < n) → get_or (take n (drop at s)) i 0 < 256
      go (yes l) = rw (get_or-take, get_or-drop) (h (at + i))
      go (no g) =
          let e : get_or (take n (drop at s)) i 0 ≡ 0 = get_or-eq_default (take n (drop at s)) 0 (simp length-take (omega arith)) in
          omega arith

pub part_none : (at : ℕ) (s : List ℕ) → part at 0 s ≡ []
unfolding part
part_none at s = refl

-- all of it
pub part_all : (n : ℕ) (s : List ℕ) → length s ≤ n → part 0 n s ≡ s
unfolding part
part_all n s h = take_all n s h

-- a part byte by byte, from the front and from the back
pub part_cons : (at n : ℕ) (s : List ℕ) → at < length s → part at (n + 1) s ≡ get_or s at 0 ∷ part (at + 1) n s
unfolding part
part_cons at n s h = rw (add-one n, drop-cons s at 0 h, add-one at)

pub part_snoc : (at n : ℕ) (s : List ℕ) → at + n < length s → part at (n + 1) s ≡ part at n s ++ (get_or s (at + n) 0 ∷ [])
unfolding part
part_snoc at n s h =
    let l : n < length (drop at s) = simp length-drop (omega arith) in
    rw (add-one n, take-suc (drop at s) n 0 l, get_or-drop at s n 0)

-- two parts side by side
pub part_add : (at n m : ℕ) (s : List ℕ) → part at (n + m) s ≡ part at n s ++ part (at + n) m s
unfolding part
part_add at n m s = rw (take-add n m (drop at s), drop-drop n at s)

-- what stands between p and q
pub part_between : (p v q : List ℕ) (at n : ℕ) → length p ≡ at → length v ≡ n → part at n (p ++ (v ++ q)) ≡ v
unfolding part
part_between p v q at n e d = rw (drop_at p (v ++ q) at e, ← d, take-append_seam v q)

-- a row below n lies within a store that holds n rows
pub row_fits : (base width n k room : ℕ) → base + width * n ≤ room → k < n → base + width * k + width ≤ room
row_fits base width n k room h l = let p : width * (k + 1) ≤ width * n = mul-le-mul_left width (omega arith) in omega arith

-- and is as wide as its rows are
pub row_length : (base width n k : ℕ) (s : List ℕ) → base + width * n ≤ length s → k < n → length (row_at base width s k) ≡ width
row_length base width n k s h l = part_length (base + width * k) width s (row_fits base width n k (length s) h l)

pub row_wide : (base width n k : ℕ) (s r : List ℕ) → base + width * n ≤ length s → k < n → r ≡ row_at base width s k → width ≤ length r
row_wide base width n k s r h l e =
    let w : length r ≡ width = ap length e ∙ row_length base width n k s h l in
    omega arith

-- ---- zeros

pub zeros_length : (n : ℕ) → length (zeros n) ≡ n
unfolding zeros
zeros_length n = length-replicate n 0

pub zeros_at : (n i : ℕ) → get_or (zeros n) i 0 ≡ 0
unfolding zeros
zeros_at zero i = refl
zeros_at (suc n) zero = refl
zeros_at (suc n) (suc i) = zeros_at n i

pub zeros_add : (m n : ℕ) → zeros (m + n) ≡ zeros m ++ zeros n
unfolding zeros
zeros_add m n = sym (replicate-append-replicate m n 0)

pub part_zeros : (at n m : ℕ) → at + n ≤ m → part at n (zeros m) ≡ zeros n
part_zeros at n m h =
    let fits : at + n ≤ length (zeros m) = rw (zeros_length m) h in
    let l : length (part at n (zeros m)) ≡ n = part_length at n (zeros m) fits in
    ext_get_or 0 (part at n (zeros m)) (zeros n) (l ∙ sym (zeros_length n))
    (λ i b. part_at at n (zeros m) i (omega (arith, l)) ∙ zeros_at m (at + i) ∙ sym (zeros_at n i))

-- ---- padding

pub padded_length : (n : ℕ) (s : List ℕ) → length s ≤ n → length (padded n s) ≡ n
unfolding padded
padded_length n s h = simp (length-append, zeros_length) (omega arith)

-- padding that adds nothing
pub padded_full : (n : ℕ) (s : List ℕ) → length s ≡ n → padded n s ≡ s
unfolding padded zeros
padded_full n s e = let z : n - length s ≡ 0 = omega arith in rw (z, append-nil)

-- ---- two byte strings

-- the test says that they are equal
pub says_same_bytes : (a b : List ℕ) → Says (same_bytes a b) (a ≡ b)
unfolding same_bytes
says_same_bytes a b =
    says_iff (says_and (says_eq (length a) (length b)) (says_all (length a) (λ i l. says_eq (get_or a i 0) (get_or b i 0))))
    (λ h. ext_get_or 0 a b h.0 h.1, λ e. (ap length e, λ i l. ap (λ (x : List ℕ). get_or x i 0) e))

-- the test of zero bytes says that they are zeros
pub says_zero : (s : List ℕ) → Says (is_zero s) (s ≡ zeros (length s))
unfolding is_zero
says_zero s =
    says_iff (says_all (length s) (λ i l. says_eq (get_or s i 0) 0)) (
      λ h. ext_get_or 0 s (zeros (length s)) (sym (zeros_length (length s))) (λ i l. h i l ∙ sym (zeros_at (length s) i)),
      λ e i l. ap
          (λ (x : List ℕ). get_or x i 0) e ∙ zeros_at (length s) i,
    )

pub zeros_zero : (n : ℕ) → is_zero (zeros n) ≡ true
zeros_zero n = (says_zero (zeros n)).passes (ap zeros (sym (zeros_length n)))

pub zero_zeros : (n : ℕ) (s : List ℕ) → length s ≡ n → is_zero s ≡ true → s ≡ zeros n
zero_zeros n s l z = (says_zero s).holds z ∙ ap zeros l
