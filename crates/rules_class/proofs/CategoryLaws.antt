-- What the tests of categories say.
use Rattle.std.specs.Prelude.{cond, List, Option, None, Some, ◌≡◌, refl, ℕ, ◌≤◌, ◌<◌, eqb}
use Rattle.std.proofs.Common.{inl, inr, ◌∙◌, arith}
use Rattle.std.proofs.Math.Logic.{⊎_elim}
use Rattle.std.proofs.Math.Path.{sym, ap, subst}
use Rattle.std.proofs.Math.Decide.{ℕ_discrete, dec_lt}
use Rattle.prelude.specs.Says.{Says}
use Rattle.prelude.specs.SaysLaws.{says_and, says_or, says_not, says_eq, says_lt, says_true, says_false, says_iff, says_split}
use Rattle.prelude.specs.BelowLaws.{says_any}
use Rattle.schema.specs.Numbers.{class_limit}
use Rattle.schema.specs.ClassRow.{category_of, superclass_of}
use Rattle.schema.specs.Store.{Table}
use Rattle.tables.specs.declared.named.ClassList.{ClassList}
use Rattle.tables.proofs.NamedLaws.{says_lists}
use Rattle.rules_class.specs.declared.category.Inheritance.{Inheritance}
use Rattle.rules_class.specs.declared.category.Inheritance.TheVariants.{RootNotAbstract, AbstractUnderOther, AuxiliaryUnderStructural}
use Rattle.rules_class.specs.declared.category.Inheritance.TheVariants.{StructuralUnderAuxiliary}
use Rattle.rules_class.specs.Category.{other_category, wrongly_listed, structural, abstract, auxiliary, category_wrong, inheritance}
use Rattle.rules_class.specs.Category.{root_inheritance, inheritance_of, inheritance_number, answer_number, inheritance_wrong, CategoryWrong, Illegal}
use Rattle.rules_class.specs.Category.{InheritanceWrong, RootIllegal, class88, list_category}
use Rattle.schema.specs.Refusals as refusal

-- rules 19 and 20
pub says_category_wrong : (kind : ClassList) (c : Table) (row : List ℕ) → Says (category_wrong kind c row) (CategoryWrong kind c row)
unfolding category_wrong wrongly_listed other_category
says_category_wrong kind c row =
    says_any class_limit
    (λ n l. says_iff (says_and (says_lists kind row n)
    (says_and (says_lt n c.count)
    (says_not (says_or (says_eq (category_of (c.row n)) class88) (says_eq (category_of (c.row n)) (list_category kind))))))
    (λ h. record { listed = h.0; there = h.1.0; other = h.1.1 }, λ h. (h.listed, (h.there, h.other))))

-- ---- rules 21, 38, 39 and 40, by where the superclass stands

module _ (c : Table) (k : ℕ) where
  pub inheritance_root : k ≡ 0 → inheritance_of c k ≡ root_inheritance (category_of (c.row k))
  unfolding inheritance_of
  inheritance_root e = rw (says_true (says_eq k 0) e)

  pub inheritance_lost : ¬ (k ≡ 0) → c.count ≤ superclass_of (c.row k) → inheritance_of c k ≡ None
  unfolding inheritance_of
  inheritance_lost d h = rw (says_false (says_eq k 0) d, says_false (says_lt (superclass_of (c.row k)) c.count) (λ l. omega arith))

  pub inheritance_at : ¬ (k ≡ 0) → (s : ℕ) → superclass_of (c.row k) ≡ s → s < c.count
      → inheritance_of c k ≡ inheritance (category_of (c.row k)) (category_of (c.row s))
  unfolding inheritance_of
  inheritance_at d s e l = rw (says_false (says_eq k 0) d, e, says_true (says_lt s c.count) l)

-- ---- what the answer says

-- the answers have numbers of their own
answer_of : ℕ → Option Inheritance
answer_of n =
    cond (eqb n refusal.root_not_abstract) (Some RootNotAbstract)
    (cond (eqb n refusal.abstract_under_other) (Some AbstractUnderOther)
    (cond (eqb n refusal.auxiliary_under_structural) (Some AuxiliaryUnderStructural)
    (cond (eqb n refusal.structural_under_auxiliary) (Some StructuralUnderAuxiliary) None)))

answer_of_lem : (o : Option Inheritance) → answer_of (answer_number o) ≡ o
unfolding answer_of
answer_of_lem None = refl
answer_of_lem (Some RootNotAbstract) = refl
answer_of_lem (Some AbstractUnderOther) = refl
answer_of_lem (Some AuxiliaryUnderStructural) = refl
answer_of_lem (Some StructuralUnderAuxiliary) = refl

-- an answer that is given is the one that was found
found_is : (P : Inheritance → Type 0) {o : Option Inheritance} (x y : Inheritance) → o ≡ Some y → o ≡ Some x → P y → P x
found_is P x y e q h = let is : y ≡ x = cc in subst P is h

-- row 0
root_given : (x : Inheritance) (own : ℕ) → RootIllegal x own → root_inheritance own ≡ Some x
unfolding root_inheritance
root_given RootNotAbstract own h = rw (says_false (says_eq own abstract) h)
root_given AbstractUnderOther own h = absurd h
root_given AuxiliaryUnderStructural own h = absurd h
root_given StructuralUnderAuxiliary own h = absurd h

given_root : (own : ℕ) (x : Inheritance) → root_inheritance own ≡ Some x → RootIllegal x own
unfolding root_inheritance
given_root own x e =
    ⊎_elim (λ q. let n : None ≡ Some x = rw q.0 at e in absurd cc)
    (λ q. found_is (λ y. RootIllegal y own) x RootNotAbstract refl (rw q.0 at e) q.1)
    (says_split (says_eq own abstract))

-- any other class
illegal_given : (x : Inheritance) (own above : ℕ) → Illegal x own above → inheritance own above ≡ Some x
unfolding inheritance
illegal_given AbstractUnderOther own above h = rw (h.0, says_false (says_eq above abstract) h.1)
illegal_given AuxiliaryUnderStructural own above h = rw (h.0, h.1)
illegal_given StructuralUnderAuxiliary own above h = rw (h.0, h.1)
illegal_given RootNotAbstract own above h = absurd h

given_illegal : (own above : ℕ) (x : Inheritance) → inheritance own above ≡ Some x → Illegal x own above
unfolding inheritance
given_illegal own above x e =
    ⊎_elim (λ a. found_is (λ y. Illegal y own above) x AbstractUnderOther refl (rw a.0 at e) a.1)
    (λ a. ⊎_elim (λ b. found_is (λ y. Illegal y own above) x AuxiliaryUnderStructural refl (rw (a.0, b.0) at e) b.1)
    (λ b. ⊎_elim (λ c. found_is (λ y. Illegal y own above) x StructuralUnderAuxiliary refl (rw (a.0, b.0, c.0) at e) c.1)
    (λ c. let n : None ≡ Some x = rw (a.0, b.0, c.0) at e in absurd cc)
    (says_split (says_and (says_eq own structural) (says_eq above auxiliary))))
    (says_split (says_and (says_eq own auxiliary) (says_eq above structural))))
    (says_split (says_and (says_eq own abstract) (says_not (says_eq above abstract))))

module _ (c : Table) (k : ℕ) where
  wrong_given : (x : Inheritance) → InheritanceWrong x c k → inheritance_of c k ≡ Some x
  wrong_given x = ⊎_elim (λ s. inheritance_root c k s.0 ∙ root_given x (category_of (c.row k)) s.1)
      (λ s. inheritance_at c k s.0 (superclass_of (c.row k)) refl s.1.0
      ∙ illegal_given x (category_of (c.row k)) (category_of (c.row (superclass_of (c.row k)))) s.1.1)

  given_wrong : (x : Inheritance) → inheritance_of c k ≡ Some x → InheritanceWrong x c k
  given_wrong x e = go (ℕ_discrete k 0) (dec_lt (superclass_of (c.row k)) c.count)
    where
      go : Dec (k ≡ 0) → Dec (superclass_of (c.row k) < c.count) → InheritanceWrong x c k
      go (yes z) l = inl (z, given_root (category_of (c.row k)) x (sym (inheritance_root c k z) ∙ e))
      go (no d) (yes l) = inr (
        d,
        (
          l,
          given_illegal (category_of (c.row k)) (category_of (c.row (superclass_of (c.row k)))) x (sym (inheritance_at c k d
              (superclass_of (c.row k)) refl l) ∙ e),
        ),
      )
      go (no d) (no n) = let lost : None ≡ Some x = sym (inheritance_lost c k d (omega arith)) ∙ e in absurd cc

  -- each of the rules: class k gets its number exactly where it is broken
  pub says_inheritance_wrong : (x : Inheritance) → 0 < inheritance_number x → Says (inheritance_wrong (inheritance_number x) c k) (InheritanceWrong x c k)
  unfolding inheritance_wrong
  says_inheritance_wrong x some =
      says_iff (says_eq (answer_number (inheritance_of c k)) (inheritance_number x)) (to, λ h. ap answer_number (wrong_given x h))
    where
      to : answer_number (inheritance_of c k) ≡ answer_number (Some x) → InheritanceWrong x c k
      to e = given_wrong x (sym (answer_of_lem (inheritance_of c k)) ∙ ap answer_of e ∙ answer_of_lem (Some x))
