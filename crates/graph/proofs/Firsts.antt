-- The first stage: what a class names and lists itself, written set by set.
use mathlib.Core.Bool.{Bool, not, ◌&&◌, ◌||◌}
use mathlib.Core.List.{List}
use mathlib.Core.Logic.{◌⊎◌, inl, inr, ⊎_elim}
use mathlib.Core.Path.{◌≡◌, sym, ap, ap₂, ◌∙◌}
use Prim.Native.Nat.{ℕ, ◌+◌, ◌*◌, ◌≤◌, ◌<◌}
use native.Mathlib.Decide.{dec_lt}
use native.Mathlib.Omega.{arith}
use lib.Dec.{eqb, leb, ltb}
use lib.ListN.{length}
use Rattle.prelude.specs.SaysLaws.{says_and, says_or, says_not, says_lt, says_le, says_eq, says_test, says_iff, says_same, says_true}
use Rattle.prelude.specs.Part.{part, padded, Bytes}
use Rattle.prelude.specs.PartLaws.{part_length, padded_full}
use Rattle.sets.specs.Sets.{flag, member, set_of, union, with_member, without_member}
use Rattle.sets.specs.SetsLaws.{bit_flag, is_set, set_cong, set_length, member_within, with_set, and_true}
use Rattle.schema.specs.Numbers.{class_limit}
use Rattle.schema.specs.Layout.{class_width, class_set, fixed_auxiliary_at, open_auxiliary_at}
use Rattle.schema.specs.ClassRow.{superclass_of, fixed_auxiliary_of, open_auxiliary_of}
use Rattle.schema.specs.Store.{Table}
use Rattle.tables.specs.Named.{lists}
use Rattle.graph.specs.Walk.{via}
use Rattle.graph.specs.Graph.{inherits}
use Rattle.graph.specs.Stages.{steps_to, comes_to}

-- ---- the members from n on taken out, one after the other

module _ (s₀ : List ℕ) (n : ℕ) where
  -- those from n up to k are out
  abbrev pub Kept : ℕ → List ℕ → Type 0
  Kept k s = s ≡ set_of class_set (λ j. member s₀ j && (ltb j n || leb k j))

  pub kept_none : length s₀ ≡ class_set → Bytes s₀ → Kept n s₀
  kept_none l b = is_set s₀ class_set (λ j. member s₀ j && (ltb j n || leb n j)) l b
      (λ j m. bit_flag s₀ j ∙ ap flag (sym (and_true (member s₀ j) (ltb j n || leb n j)
      (says_true (says_or (says_lt j n) (says_le n j)) (either (dec_lt j n))))))
    where
      either : {j : ℕ} → Dec (j < n) → (j < n) ⊎ (n ≤ j)
      either (yes l) = inl l
      either (no g) = inr (omega arith)

  pub kept_length : (k : ℕ) (s : List ℕ) → Kept k s → length s ≡ class_set
  kept_length k s p = ap length p ∙ set_length class_set _

  pub kept_more : (k : ℕ) (s r : List ℕ) → n ≤ k → Kept k s → r ≡ without_member k s → Kept (k + 1) r
  unfolding without_member
  kept_more k s r h p q =
      q ∙ ap (λ (m : ℕ). set_of m (λ j. member s j && not (eqb j k))) (kept_length k s p)
      ∙ set_cong class_set _ _ (λ j m. ap (λ (x : Bool). x && not (eqb j k)) (ap (λ (x : List ℕ). member x j) p ∙ member_within class_set _ j m) ∙ each j)
    where
      each : (j : ℕ) → (member s₀ j && (ltb j n || leb k j)) && not (eqb j k) ≡ member s₀ j && (ltb j n || leb (k + 1) j)
      each j =
          says_same
          (says_iff (says_and (says_and (says_test (member s₀ j)) (says_or (says_lt j n) (says_le k j))) (says_not (says_eq j k))) (
            λ a. (a.0.0, ⊎_elim (λ l. inl l) (λ l. inr (omega (arith, l, a.1))) a.0.1),
            λ a.
                ((a.0, ⊎_elim (λ l. inl l) (λ l. inr (omega (arith, l))) a.1), λ e. ⊎_elim (λ l. omega (arith, l, e, h)) (λ l. omega (arith, l, e)) a.1),
          ))
          (says_and (says_test (member s₀ j)) (says_or (says_lt j n) (says_le (k + 1) j)))

  pub kept_end : (k : ℕ) (s : List ℕ) → class_limit ≤ k → Kept k s → s ≡ set_of class_set (λ j. member s₀ j && ltb j n)
  kept_end k s h p = p ∙ set_cong class_set _ _ (λ j m. ap (λ (x : Bool). member s₀ j && x) (each j m))
    where
      each : (j : ℕ) → j < class_set * 8 → ltb j n || leb k j ≡ ltb j n
      each j m = says_same (says_iff (says_or (says_lt j n) (says_le k j)) (⊎_elim (λ l. l) (λ l. absurd (omega (arith, l, m))), λ l. inl l)) (says_lt j n)

-- ---- one set of a row copied, and two joined

module _ (size at : ℕ) (row out : List ℕ) {fixed copied : List ℕ} (fits : at + size ≤ length row) (long : length out ≡ size)
    (f : fixed ≡ part at size row) (c : copied ≡ padded (length out) fixed) where
  pub part_fits : length fixed ≤ length out
  part_fits = omega (arith, ap length f, part_length at size row fits)

  pub copied_is : copied ≡ part at size row
  copied_is = c ∙ ap (λ (m : ℕ). padded m fixed) long ∙ padded_full size fixed (ap length f ∙ part_length at size row fits) ∙ f

  pub copied_length : length copied ≡ size
  copied_length = ap length copied_is ∙ part_length at size row fits

  pub copied_set : Bytes copied → copied ≡ set_of size (member (part at size row))
  copied_set b = is_set copied size (member (part at size row)) copied_length b
      (λ k l. bit_flag copied k ∙ ap (λ (s : List ℕ). flag (member s k)) copied_is)

-- the two lists of auxiliaries in a row have a set's width
pub lists_wide : (row : List ℕ) → class_width ≤ length row → (length (fixed_auxiliary_of row) ≡ class_set) × (length (open_auxiliary_of row) ≡ class_set)
lists_wide row wide = (part_length fixed_auxiliary_at class_set row (omega (arith, wide)), part_length open_auxiliary_at class_set row (omega (arith, wide)))

-- two sets of a row joined
pub union_is : (size at at' : ℕ) (row : List ℕ) → at + size ≤ length row
    → union (part at size row) (part at' size row) ≡ set_of size (λ k. member (part at size row) k || member (part at' size row) k)
unfolding union
union_is size at at' row fits =
    ap (λ (m : ℕ). set_of m (λ k. member (part at size row) k || member (part at' size row) k)) (part_length at size row fits)

-- ---- what a class names, and itself

module _ (t : Table) (c : ℕ) (there : c < t.count) where
  comes_first : (x : ℕ) → (((member (fixed_auxiliary_of (t.row c)) x || member (open_auxiliary_of (t.row c)) x) || eqb x (superclass_of (t.row c))) && ltb x
      t.count) || eqb x c ≡ comes_to t 0 c x
  unfolding comes_to via steps_to inherits lists
  comes_first x =
      says_same
      (says_or (says_and (says_or (says_test _) (says_eq x (superclass_of (t.row c)))) (says_lt x t.count)) (says_eq x c))
      (says_iff
      (says_and (says_lt c t.count) (says_or (says_eq c x)
      (says_and (says_lt c t.count) (says_and (says_lt x t.count) (says_or (says_eq (superclass_of (t.row c)) x) (says_test _)))))) (
        λ h. ⊎_elim (λ e. inr (sym e)) (λ p. inl (⊎_elim (λ e. inr (sym e)) (λ m. inl m) p.1.1, p.1.0)) h.1,
        λ h. (there, ⊎_elim (λ p. inr (there, (p.1, ⊎_elim (λ m. inr m) (λ e. inl (sym e)) p.0))) (λ e. inl (sym e)) h),
      ))

  -- the set before, with the superclass, kept below the count, and with the class itself
  pub named_written : (joined up below all : List ℕ) (x n : ℕ) → x ≡ superclass_of (t.row c) → n ≡ t.count
      → joined ≡ set_of class_set (λ k. member (fixed_auxiliary_of (t.row c)) k || member (open_auxiliary_of (t.row c)) k) → up ≡ with_member x joined
      → below ≡ set_of class_set (λ k. member up k && ltb k n) → all ≡ with_member c below → all ≡ set_of class_set (comes_to t 0 c)
  named_written joined up below all x n e m j u b a =
      a ∙ ap (with_member c) b ∙ with_set class_set c (λ k. member up k && ltb k n)
      ∙ set_cong class_set _ _ (λ k l. ap₂ (λ (p : Bool) (i : ℕ). (p && ltb k i) || eqb k c) (upper k l) m ∙ comes_first k)
    where
      upper : (k : ℕ) → k < class_set * 8
          → member up k ≡ (member (fixed_auxiliary_of (t.row c)) k || member (open_auxiliary_of (t.row c)) k) || eqb k (superclass_of (t.row c))
      upper k l =
          ap (λ (s : List ℕ). member s k) (u ∙ ap₂ with_member e j ∙ with_set class_set (superclass_of (t.row c)) _)
          ∙ member_within class_set _ k l
