-- Laws of a part replaced: the length, what is read before, inside and after it, and undoing it.
use Rattle.std.specs.Prelude.{◌≡◌, take, get_or, set}
use Rattle.std.proofs.Math.Path.{refl, sym, ap}
use Rattle.std.proofs.Common.{◌∙◌, add-zero, zero-add, add-one, drop_of_length-le, length-set, length-drop, take-append-drop, take-take, take-add, get_or-take, get_or-drop, ext_get_or}
use mathlib.Core.List.{List, [], ◌∷◌, ◌++◌, append_assoc, append-nil}
use Prim.Native.Nat.{ℕ, ◌+◌, ◌-◌, ◌≤◌, ◌<◌}
use native.Mathlib.Omega.{arith}
use Rattle.std.proofs.Math.Nat.{add_assoc}
use Rattle.std.proofs.Math.Decide.{dec_lt}
use Rattle.std.proofs.Math.ListN.{length, drop, length-append, length-take}
use Rattle.std.proofs.lemmas.List.{take-append-le, set_split}
use Rattle.std.proofs.Math.Seq.{drop-append-add, take_at, drop_at, drop-drop, take-append_seam, length-take-le}
use Rattle.prelude.specs.Part.{part, splice}
use Rattle.prelude.specs.PartLaws.{part_length, part_at}

-- to cut the front off and the back off, in either order
cut_swap : (at n : ℕ) (s : List ℕ) → at ≤ length s → take n (drop at s) ≡ drop at (take (at + n) s)
cut_swap at n s h = sym (ap (drop at) (take-add at n s) ∙ drop_at (take at s) (take n (drop at s)) at (length-take-le at s h))

module _ (at : ℕ) (new s : List ℕ) (fits : at + length new ≤ length s) where
  head_length_lem : length (take at s ++ new) ≡ at + length new
  head_length_lem = simp (length-append, length-take) (omega arith)

  splice_flat : splice at new s ≡ (take at s ++ new) ++ drop (at + length new) s
  unfolding splice
  splice_flat = sym (append_assoc (take at s) new (drop (at + length new) s))

  pub splice_length : length (splice at new s) ≡ length s
  unfolding splice
  splice_length = simp (length-append, length-take, length-drop) (omega arith)

  pub splice_before : (n : ℕ) → n ≤ at → take n (splice at new s) ≡ take n s
  unfolding splice
  splice_before n h =
      let f : at ≤ length s = omega arith in
      let l : n ≤ length (take at s) = rw length-take-le h in
      rw (take-append-le, take-take)

  pub splice_after : (n : ℕ) → at + length new ≤ n → drop n (splice at new s) ≡ drop n s
  splice_after n h =
      let a : ℕ = at + length new in
      let m : ℕ = n - a in
      let e : n ≡ a + m = omega arith in
      rw (e, ← drop-drop m a (splice at new s), ← drop-drop m a s, splice_flat, drop_at (take at s ++ new) (drop a s) a head_length_lem)

  -- a part before it, the part itself, and a part after it
  pub part_splice_before : (b n : ℕ) → b + n ≤ at → part b n (splice at new s) ≡ part b n s
  unfolding part
  part_splice_before b n h =
      cut_swap b n (splice at new s) (rw splice_length (omega arith))
      ∙ ap (drop b) (splice_before (b + n) h)
      ∙ sym (cut_swap b n s (omega arith))

  pub part_splice_same : (n : ℕ) → n ≡ length new → part at n (splice at new s) ≡ new
  unfolding part splice
  part_splice_same n e =
      rw (e, drop_at (take at s) (new ++ drop (at + length new) s) at (length-take-le at s (omega arith)), take-append_seam)

  pub part_splice_after : (b n : ℕ) → at + length new ≤ b → part b n (splice at new s) ≡ part b n s
  unfolding part
  part_splice_after b n h = ap (take n) (splice_after b h)

  -- a byte before it, of it, and after it
  pub splice_at_before : (i : ℕ) → i < at → get_or (splice at new s) i 0 ≡ get_or s i 0
  splice_at_before i h =
      sym (get_or-take at (splice at new s) i 0 h) ∙ ap (λ (x : List ℕ). get_or x i 0) (splice_before at (omega arith)) ∙ get_or-take at s i 0 h

  pub splice_at_same : (i : ℕ) → i < length new → get_or (splice at new s) (at + i) 0 ≡ get_or new i 0
  splice_at_same i h =
      sym (part_at at (length new) (splice at new s) i h) ∙ ap (λ (x : List ℕ). get_or x i 0) (part_splice_same (length new) refl)

  pub splice_at_after : (i : ℕ) → at + length new ≤ i → get_or (splice at new s) i 0 ≡ get_or s i 0
  splice_at_after i h =
      let a : ℕ = at + length new in
      let e : i ≡ a + (i - a) = omega arith in
      ap (λ (j : ℕ). get_or (splice at new s) j 0) e ∙ sym (get_or-drop a (splice at new s) (i - a) 0)
      ∙ ap (λ (x : List ℕ). get_or x (i - a) 0) (splice_after a (omega arith)) ∙ get_or-drop a s (i - a) 0 ∙ ap (λ (j : ℕ). get_or s j 0) (sym e)

  -- bytes after bytes
  pub splice_append : (v : List ℕ) → splice (at + length new) v (splice at new s) ≡ splice at (new ++ v) s
  unfolding splice
  splice_append v =
      let a : ℕ = at + length new in
      let d : drop (a + length v) ((take at s ++ new) ++ drop a s) ≡ drop (length v) (drop a s) =
      ap (λ (n : ℕ). drop (n + length v) ((take at s ++ new) ++ drop a s)) (sym head_length_lem) ∙ drop-append-add (take at s ++ new) (drop a s) (length v) in
      rw (
        ← append_assoc (take at s) new (drop a s),
        take_at (take at s ++ new) (drop a s) a head_length_lem,
        d,
        drop-drop (length v) a s,
        length-append new v,
        ← add_assoc at (length new) (length v),
        append_assoc (take at s) new,
        append_assoc new v,
      )

-- a splice inside a part is a splice of the part
module _ (at n i : ℕ) (new s : List ℕ) (h : i + length new ≤ n) (f : at + n ≤ length s) where
  outer : at + i + length new ≤ length s
  outer = omega arith

  inner : i + length new ≤ length (part at n s)
  inner = rw (part_length at n s f) h

  left_length : length (part at n (splice (at + i) new s)) ≡ n
  left_length = part_length at n (splice (at + i) new s) (rw (splice_length (at + i) new s outer) f)

  right_length : length (splice i new (part at n s)) ≡ n
  right_length = splice_length i new (part at n s) inner ∙ part_length at n s f

  -- byte j of the part lies before the new bytes, among them or after them
  inside_at : (j : ℕ) → j < n → Dec (j < i) → Dec (j < i + length new) → get_or (splice (at + i) new s) (at + j) 0 ≡ get_or (splice i new (part at n s)) j 0
  inside_at j l (yes b) d =
      splice_at_before (at + i) new s outer (at + j) (omega arith) ∙ sym (part_at at n s j l) ∙ sym (splice_at_before i new (part at n s) inner j b)
  inside_at j l (no b) (yes d) =
      let k : ℕ = j - i in
      let e : at + j ≡ at + i + k = omega arith in
      let e' : j ≡ i + k = omega arith in
      ap (λ (m : ℕ). get_or (splice (at + i) new s) m 0) e ∙ splice_at_same (at + i) new s outer k (omega arith)
      ∙ sym (splice_at_same i new (part at n s) inner k (omega arith)) ∙ ap (λ (m : ℕ). get_or (splice i new (part at n s)) m 0) (sym e')
  inside_at j l (no b) (no d) =
      splice_at_after (at + i) new s outer (at + j) (omega arith) ∙ sym (part_at at n s j l)
      ∙ sym (splice_at_after i new (part at n s) inner j (omega arith))

  pub part_splice_inside : part at n (splice (at + i) new s) ≡ splice i new (part at n s)
  part_splice_inside =
      ext_get_or 0 (part at n (splice (at + i) new s)) (splice i new (part at n s)) (left_length ∙ sym right_length)
      (λ j l. let m : j < n = omega (arith, left_length) in
      part_at at n (splice (at + i) new s) j m ∙ inside_at j m (dec_lt j i) (dec_lt j (i + length new)))

-- a splice over a splice at the same place
pub splice_over : (at : ℕ) (old new s : List ℕ) → length old ≡ length new → at + length new ≤ length s → splice at old (splice at new s) ≡ splice at old s
splice_over at old new s e f =
    splice_is (splice at new s)
    ∙ ap (λ (x : List ℕ). x ++ (old ++ drop (at + length old) (splice at new s))) (splice_before at new s f at (omega arith))
    ∙ ap (λ (x : List ℕ). take at s ++ (old ++ x)) (splice_after at new s f (at + length old) (omega (arith, e)))
    ∙ sym (splice_is s)
  where
    splice_is : (t : List ℕ) → splice at old t ≡ take at t ++ (old ++ drop (at + length old) t)
    splice_is t = unfold splice in refl

-- what stood there is put back
pub splice_part : (at n : ℕ) (s : List ℕ) → at + n ≤ length s → splice at (part at n s) s ≡ s
unfolding splice part
splice_part at n s f =
    let l : length (take n (drop at s)) ≡ n = simp (length-take, length-drop) (omega arith) in
    rw (l, ← drop-drop n at s, take-append-drop n (drop at s), take-append-drop at s)

pub splice_undo : (at n : ℕ) (new s : List ℕ) → length new ≡ n → at + n ≤ length s → splice at (part at n s) (splice at new s) ≡ s
splice_undo at n new s e f =
    splice_over at (part at n s) new s (part_length at n s f ∙ sym e) (omega (arith, e)) ∙ splice_part at n s f

-- a byte stored is a splice of one byte
pub set_splice : (at v : ℕ) (s : List ℕ) → at < length s → set s at v ≡ splice at (v ∷ []) s
unfolding splice
set_splice at v s h = rw (set_split s at v h, add-one at)

-- a byte stored, and then bytes after it
pub set_then_splice : (at v : ℕ) (new s : List ℕ) → at + 1 + length new ≤ length s → splice (at + 1) new (set s at v) ≡ splice at (v ∷ new) s
set_then_splice at v new s h =
    ap (splice (at + 1) new) (set_splice at v s (omega arith)) ∙ splice_append at (v ∷ []) s (omega arith) new

-- two bytes stored one after the other
pub set_splice_two : (at v w : ℕ) (s : List ℕ) → at + 2 ≤ length s → set (set s at v) (at + 1) w ≡ splice at (v ∷ w ∷ []) s
set_splice_two at v w s h = set_splice (at + 1) w (set s at v) (simp length-set (omega arith)) ∙ set_then_splice at v (w ∷ []) s (omega arith)

-- ---- at the front

pub splice_front : (x s : List ℕ) → splice 0 x s ≡ x ++ drop (length x) s
unfolding splice
splice_front x s = ap (λ (n : ℕ). x ++ drop n s) (zero-add (length x))

-- every byte is replaced, and none
pub splice_all : (new s : List ℕ) → length s ≡ length new → splice 0 new s ≡ new
splice_all new s e = let h : length s ≤ length new = omega arith in splice_front new s ∙ rw (drop_of_length-le s h, append-nil)

pub splice_none : (at : ℕ) (s : List ℕ) → splice at [] s ≡ s
unfolding splice
splice_none at s = rw (add-zero at) (take-append-drop at s)

-- bytes written, and then what is left to write after them
pub write_turn : (at next : ℕ) (u v out out' : List ℕ) → at + length u ≤ length out → next ≡ at + length u → out' ≡ splice at u out
    → splice next v out' ≡ splice at (u ++ v) out
write_turn at next u v out out' h e q = rw (e, q) (splice_append at u out h v)

-- ---- parts that lie apart

-- a byte after a splice comes from the new part or from the same place
splice_at_cong : (at : ℕ) (new s t : List ℕ) → length s ≡ length t → at + length new ≤ length s → (i : ℕ) → get_or s i 0 ≡ get_or t i 0
    → get_or (splice at new s) i 0 ≡ get_or (splice at new t) i 0
splice_at_cong at new s t e h i q = go (dec_lt i at) (dec_lt i (at + length new))
  where
    k : at + length new ≤ length t
    k = omega arith

    go : Dec (i < at) → Dec (i < at + length new) → get_or (splice at new s) i 0 ≡ get_or (splice at new t) i 0
    go (yes l) d = splice_at_before at new s h i l ∙ q ∙ sym (splice_at_before at new t k i l)
    go (no l) (yes m) =
        let j : i ≡ at + (i - at) = omega arith in
        rw j (splice_at_same at new s h (i - at) (omega arith) ∙ sym (splice_at_same at new t k (i - at) (omega arith)))
    go (no l) (no m) = splice_at_after at new s h i (omega arith) ∙ q ∙ sym (splice_at_after at new t k i (omega arith))

pub splice_apart : (a b : ℕ) (x y s : List ℕ) → a + length x ≤ b → b + length y ≤ length s → splice a x (splice b y s) ≡ splice b y (splice a x s)
splice_apart a b x y s h k =
    ext_get_or 0 (splice a x (splice b y s)) (splice b y (splice a x s)) long (λ i l. go i (dec_lt i b))
  where
    xs : length (splice a x s) ≡ length s
    xs = splice_length a x s (omega arith)

    ys : length (splice b y s) ≡ length s
    ys = splice_length b y s k

    long : length (splice a x (splice b y s)) ≡ length (splice b y (splice a x s))
    long = splice_length a x (splice b y s) (omega (arith, ys)) ∙ ys ∙ sym xs ∙ sym (splice_length b y (splice a x s) (omega (arith, xs)))

    go : (i : ℕ) → Dec (i < b) → get_or (splice a x (splice b y s)) i 0 ≡ get_or (splice b y (splice a x s)) i 0
    go i (yes l) =
        splice_at_cong a x (splice b y s) s ys (omega (arith, ys)) i (splice_at_before b y s k i l)
        ∙ sym (splice_at_before b y (splice a x s) (omega (arith, xs)) i l)
    go i (no l) =
        splice_at_after a x (splice b y s) (omega (arith, ys)) i (omega arith)
        ∙ sym (splice_at_cong b y (splice a x s) s xs (omega (arith, xs)) i (splice_at_after a x s (omega arith) i (omega arith)))
