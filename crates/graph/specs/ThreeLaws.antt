-- Three sets side by side, as the kept sets of a class stand, by three tests; and joined set by set.
use Rattle.std.specs.Prelude.{length, ◌*◌, ◌+◌, ◌<◌, ℕ, Bool, ◌||◌, List, ◌++◌, ◌≡◌}
use Rattle.std.proofs.Common.{length-append, arith, ◌∙◌, ap, ap₂, sym}
use Rattle.sets.specs.Sets.{member, set_of, union}
use Rattle.sets.specs.SideLaws.{union_any}
use Rattle.sets.specs.SetsLaws.{member_within, set_cong, set_length, union_append}
use Rattle.schema.specs.Layout.{attribute_set, class_set}

abbrev pub three : (ℕ → Bool) → (ℕ → Bool) → (ℕ → Bool) → List ℕ
three f g h = set_of class_set f ++ (set_of attribute_set g ++ set_of attribute_set h)

pub three_cong : {f p g q h o : ℕ → Bool} → ((k : ℕ) → k < class_set * 8 → f k ≡ p k) → ((k : ℕ) → k < attribute_set * 8 → g k ≡ q k)
    → ((k : ℕ) → k < attribute_set * 8 → h k ≡ o k) → three f g h ≡ three p q o
three_cong {f} {p} {g} {q} {h} {o} a b c = ap₂ ◌++◌ (set_cong class_set f p a) (ap₂ ◌++◌ (set_cong attribute_set g q b) (set_cong attribute_set h o c))

module _ (f g h : ℕ → Bool) where
  -- three sets more are joined set by set
  pub union_three : (x y z : List ℕ) → length x ≡ class_set → length y ≡ attribute_set → length z ≡ attribute_set
      → union (three f g h) (x ++ (y ++ z)) ≡ three (λ k. f k || member x k) (λ k. g k || member y k) (λ k. h k || member z k)
  union_three x y z lx ly lz =
      let m : length (set_of attribute_set g ++ set_of attribute_set h) ≡ attribute_set + attribute_set = simp (length-append, set_length) in
      union_append (set_of class_set f) (set_of attribute_set g ++ set_of attribute_set h) x (y ++ z) (lx ∙ sym (set_length class_set f))
      (omega (arith, length-append y z))
      ∙ ap₂ ◌++◌ (union_any class_set f x)
      (union_append (set_of attribute_set g) (set_of attribute_set h) y z (ly ∙ sym (set_length attribute_set g)) (lz ∙ sym (set_length attribute_set h))
      ∙ ap₂ ◌++◌ (union_any attribute_set g y) (union_any attribute_set h z))

  -- also three sets by three tests
  pub three_union : (p q o : ℕ → Bool) → union (three f g h) (three p q o) ≡ three (λ k. f k || p k) (λ k. g k || q k) (λ k. h k || o k)
  three_union p q o =
      union_three (set_of class_set p) (set_of attribute_set q) (set_of attribute_set o) (set_length class_set p) (set_length attribute_set q)
      (set_length attribute_set o)
      ∙ three_cong (λ k l. ap (λ (b : Bool). f k || b) (member_within class_set p k l))
      (λ k l. ap (λ (b : Bool). g k || b) (member_within attribute_set q k l)) (λ k l. ap (λ (b : Bool). h k || b) (member_within attribute_set o k l))
