-- Three sets side by side, as the kept sets of a class stand: as the set of a whole row, member by member, and with an attribute joined in.
use Rattle.std.specs.Prelude.{eqb, ltb, ◌*◌, ◌+◌, ◌-◌, ◌<◌, ℕ, Bool, ◌||◌, cond, ◌≡◌}
use native.Mathlib.Omega.{arith}
use mathlib.Core.List.{List, ◌++◌, append_assoc}
use Rattle.std.proofs.Common.{◌∙◌, sym}
use Rattle.std.proofs.Math.Path.{ap}
use Rattle.schema.specs.Layout.{attribute_set, class_set, closure_width}
use Rattle.prelude.specs.Part.{zeros}
use Rattle.prelude.specs.PartLaws.{zeros_add, zeros_length}
use Rattle.prelude.specs.SaysLaws.{says_false, says_lt, says_true}
use Rattle.sets.specs.Sets.{member, set_of, union, with_member}
use Rattle.sets.specs.SideLaws.{member_alone, member_zeros, set_append}
use Rattle.sets.specs.SetsLaws.{member_within, or-false, with_length}
use Rattle.graph.specs.ThreeLaws.{three, three_cong, union_three}
use Rattle.closure_change.specs.Kept.{option_row}

-- a set of a whole row is three sets
pub three_split : (f : ℕ → Bool) → set_of closure_width f ≡ three f (λ k. f (class_set * 8 + k)) (λ k. f (class_set * 8 + (attribute_set * 8 + k)))
three_split f =
    set_append class_set (attribute_set + attribute_set) f
    ∙ ap (λ (x : List ℕ). set_of class_set f ++ x) (set_append attribute_set attribute_set (λ k. f (class_set * 8 + k)))

-- three tests one after the other
unfoldable whole : (ℕ → Bool) → (ℕ → Bool) → (ℕ → Bool) → ℕ → Bool
whole f g h k =
    cond (ltb k (class_set * 8)) (f k)
    (cond (ltb k (class_set * 8 + attribute_set * 8)) (g (k - class_set * 8)) (h (k - (class_set * 8 + attribute_set * 8))))

module _ (f g h : ℕ → Bool) where
  whole_first : (k : ℕ) → k < class_set * 8 → whole f g h k ≡ f k
  unfolding whole
  whole_first k l = rw (says_true (says_lt k (class_set * 8)) l)

  whole_second : (k : ℕ) → k < attribute_set * 8 → whole f g h (class_set * 8 + k) ≡ g k
  unfolding whole
  whole_second k l =
      let e : class_set * 8 + k - class_set * 8 ≡ k = omega arith in
      rw (
        says_false (says_lt (class_set * 8 + k) (class_set * 8)) (λ q. omega arith),
        says_true (says_lt (class_set * 8 + k) (class_set * 8 + attribute_set * 8)) (omega arith),
      ) (ap g e)

  whole_third : (k : ℕ) → k < attribute_set * 8 → whole f g h (class_set * 8 + (attribute_set * 8 + k)) ≡ h k
  unfolding whole
  whole_third k l =
      let e : class_set * 8 + (attribute_set * 8 + k) - (class_set * 8 + attribute_set * 8) ≡ k = omega arith in
      rw (
        says_false (says_lt (class_set * 8 + (attribute_set * 8 + k)) (class_set * 8)) (λ q. omega arith),
        says_false (says_lt (class_set * 8 + (attribute_set * 8 + k)) (class_set * 8 + attribute_set * 8)) (λ q. omega arith),
      ) (ap h e)

  three_whole : three f g h ≡ set_of closure_width (whole f g h)
  three_whole = sym (three_split (whole f g h) ∙ three_cong whole_first whole_second whole_third)

  -- the members of each of the three
  pub member_first : (k : ℕ) → k < class_set * 8 → member (three f g h) k ≡ f k
  member_first k l = ap (λ (s : List ℕ). member s k) three_whole ∙ member_within closure_width (whole f g h) k (omega arith) ∙ whole_first k l

  pub member_second : (k : ℕ) → k < attribute_set * 8 → member (three f g h) (class_set * 8 + k) ≡ g k
  member_second k l =
      ap (λ (s : List ℕ). member s (class_set * 8 + k)) three_whole ∙ member_within closure_width (whole f g h) (class_set * 8 + k) (omega arith)
      ∙ whole_second k l

  pub member_third : (k : ℕ) → k < attribute_set * 8 → member (three f g h) (class_set * 8 + (attribute_set * 8 + k)) ≡ h k
  member_third k l =
      ap (λ (s : List ℕ). member s (class_set * 8 + (attribute_set * 8 + k))) three_whole
      ∙ member_within closure_width (whole f g h) (class_set * 8 + (attribute_set * 8 + k)) (omega arith) ∙ whole_third k l

  -- an attribute that becomes optional
  pub option_joined : (b : ℕ) → union (three f g h) (option_row b) ≡ three f g (λ k. h k || eqb k b)
  unfolding option_row
  option_joined b =
      let alone = with_member b (zeros attribute_set) in
      ap (union (three f g h)) (ap (λ (x : List ℕ). x ++ alone) (zeros_add class_set attribute_set) ∙ append_assoc (zeros class_set) (zeros attribute_set) alone)
      ∙ union_three f g h (zeros class_set) (zeros attribute_set) alone (zeros_length class_set) (zeros_length attribute_set)
      (with_length b (zeros attribute_set) ∙ zeros_length attribute_set)
      ∙ three_cong (λ k l. or-false (f k) (member (zeros class_set) k) (member_zeros class_set k))
      (λ k l. or-false (g k) (member (zeros attribute_set) k) (member_zeros attribute_set k))
      (λ k l. ap (λ (x : Bool). h k || x) (member_alone attribute_set b k l))
