use Rattle.std.proofs.Common.{◌≡◌, ◌∙◌, ◌&&◌, ℕ, zero, suc, List, [], ◌∷◌, Bool, false, true, cond, eqb, length, get_or, rules, arith, refl, sym, ap, ap₂, ◌<◌, ◌||◌, Iter}
use Rattle.std.specs.Prelude.{Option, Some, None}
use Rattle.std.specs.List.{find, FoldsTo}
use Rattle.std.specs.Fn.{CalledAt}
use Rattle.std.specs.Iterator.{YieldsThen}
use Rattle.std.specs.Slice.Iter.{iter_rest}
use Rattle.std.specs.Bool.{⊤}
use Rattle.std.proofs.iter.Yields.{fronts}
use denote.Param.Members.{Mut}
use Rattle.std.specs.Option.{option_map, MatchOption}
use Rattle.std.proofs.lemmas.Iterator.{YieldsList-from_slice}
use Rattle.std.proofs.lemmas.Iterator.Search.{find_from_yields_List}
use Rattle.std.proofs.Math.Logic.{⊎_elim}
use denote.Ref.{Bor}
use Rattle.prelude.specs.Below.{any_below, all_below, first_below}
use Rattle.prelude.specs.BelowLaws.{any_zero, any_cong, first_cong, any_false, any_none, first_found, first_absent, first_some, all_each}
use Rattle.prelude.specs.SaysLaws.{true_or_false, says_and, says_eq}
use Rattle.prelude.specs.Part.{part, padded, zeros, same_bytes}
use Rattle.prelude.specs.PartLaws.{says_same_bytes}
use Rattle.prelude.proofs.Ranges.{any_first}
use Rattle.schema.specs.ObjectClasses.{object_classes, first_object_class, entry_syntax, entry_value}
use Rattle.schema.specs.ObjectClassesLaws.{no_value}
use Rattle.schema.proofs.object_classes.first_object_class.Goals as goal

-- the first apart from the others
first_first : (n : ℕ) (p : ℕ → Bool) → first_below (suc n) p ≡ cond (p 0) 0 (suc (first_below n (λ k. p (suc k))))
first_first n p = ⊎_elim here (λ e. ⊎_elim (later e) (never e) (true_or_false (any_below n q))) (true_or_false (p 0))
  where
    q : ℕ → Bool
    q k = p (suc k)

    here : p 0 ≡ true → first_below (suc n) p ≡ cond (p 0) 0 (suc (first_below n q))
    here e = rw e (first_found p 0 (suc n) (omega arith) (any_false p 0 (λ k l. absurd (omega arith))) e)

    before : p 0 ≡ false → (m : ℕ) → ((k : ℕ) → k < m → q k ≡ false) → (k : ℕ) → k < suc m → p k ≡ false
    before e m h zero l = e
    before e m h (suc k) l = h k (omega arith)

    later : p 0 ≡ false → any_below n q ≡ true → first_below (suc n) p ≡ cond (p 0) 0 (suc (first_below n q))
    later e t =
        let s = first_some q n t in
        rw e (first_found p (suc (first_below n q)) (suc n) (omega (arith, s.0)) (any_false p (suc (first_below n q)) (before e (first_below n q) s.2)) s.1)

    never : p 0 ≡ false → any_below n q ≡ false → first_below (suc n) p ≡ cond (p 0) 0 (suc (first_below n q))
    never e f = rw e (first_absent p (suc n) (any_false p (suc n) (before e n (any_none q n f))) ∙ ap suc (sym (first_absent q n f)))

-- one item more, in front
find_step : {A : Type 0} (d x : A) (s : List A) (b m : Bool) (k : ℕ) (o : Option A) → o ≡ cond m (Some (get_or s k d)) None
    → cond b (Some x) o ≡ cond (b || m) (Some (get_or (x ∷ s) (cond b 0 (suc k)) d)) None
find_step d x s true m k o e = refl
find_step d x s false m k o e = e

-- `find` over a list, by its places
find_places : {A : Type 0} (d : A) (p : A → Bool) (s : List A)
    → find p s ≡ cond (any_below (length s) (λ i. p (get_or s i d))) (Some (get_or s (first_below (length s) (λ i. p (get_or s i d))) d)) None
find_places {A} d p [] = ap (λ (b : Bool). cond {A = Option A} b (Some d) None) (sym (any_zero (λ i. p (get_or [] i d))))
find_places {A} d p (x ∷ s) =
    let q : ℕ → Bool = λ i. p (get_or (x ∷ s) i d) in
    find_step d x s (p x) _ _ (find p s) (find_places d p s)
    ∙ sym (ap₂ (λ (m : Bool) (k : ℕ). cond {A = Option A} m (Some (get_or (x ∷ s) k d)) None) (any_first (length s) q) (first_first (length s) q))

-- ---- the table as the code has it: syntaxes with values
abbrev pub Pair : Type 0
Pair = ℕ × Bor (List ℕ)

abbrev pub value_of : Option Pair → List ℕ
value_of None = []
value_of (Some e) = e.1.now

-- entry i of the code's table and of the definition's
abbrev pub agrees : Pair → List Pair → ℕ → Bool
agrees d xs i = eqb (get_or xs i d).0 (entry_syntax object_classes i) && same_bytes (get_or xs i d).1.now (entry_value object_classes i)

module _ (syntax : ℕ) (d : Pair) (xs : List Pair) (long : length xs ≡ 6) (agree : all_below 6 (agrees d xs) ≡ true) where
  same : (i : ℕ) → i < 6 → ((get_or xs i d).0 ≡ entry_syntax object_classes i) × ((get_or xs i d).1.now ≡ entry_value object_classes i)
  same i l = (says_and (says_eq (get_or xs i d).0 (entry_syntax object_classes i)) (says_same_bytes (get_or xs i d).1.now (entry_value object_classes i))).holds
      (all_each (agrees d xs) 6 agree i l)

  abbrev pub p : ℕ → Bool
  p i = eqb (get_or xs i d).0 syntax

  abbrev pub q : ℕ → Bool
  q i = eqb (entry_syntax object_classes i) syntax

  alike : (i : ℕ) → i < 6 → p i ≡ q i
  alike i l = ap (λ (k : ℕ). eqb k syntax) (same i l).0

  chosen : value_of (cond (any_below 6 q) (Some (get_or xs (first_below 6 q) d)) None) ≡ entry_value object_classes (first_below 6 q)
  chosen = ⊎_elim
      (λ t. ap (λ (b : Bool). value_of (cond b (Some (get_or xs (first_below 6 q) d)) None)) t ∙ (same (first_below 6 q) (first_some q 6 t).0).1)
      (λ f. ap (λ (b : Bool). value_of (cond b (Some (get_or xs (first_below 6 q) d)) None)) f
      ∙ sym (ap (entry_value object_classes) (first_absent q 6 f) ∙ no_value))
      (true_or_false (any_below 6 q))

  pub first_found_in : value_of (find (λ e. eqb e.0 syntax) xs) ≡ first_object_class syntax
  unfolding first_object_class
  first_found_in =
      ap value_of (find_places d (λ e. eqb e.0 syntax) xs)
      ∙ ap₂ (λ (b : Bool) (k : ℕ). value_of (cond b (Some (get_or xs k d)) None)) (ap (λ (n : ℕ). any_below n p) long ∙ any_cong 6 p q alike)
      (ap (λ (n : ℕ). first_below n p) long ∙ first_cong 6 p q alike)
      ∙ chosen

any_item : (syntax : ℕ) (xs : List Pair) → length xs ≡ 6 → ((d : Pair) → all_below 6 (agrees d xs) ≡ true) → value_of (find (λ e. eqb e.0 syntax) xs) ≡ first_object_class syntax
any_item syntax [] long agree = absurd (omega arith)
any_item syntax (x ∷ xs) long agree = first_found_in syntax x (x ∷ xs) long (agree x)

-- what `find` gives of them
module _ {F : Type 0} {g : Mut F (Bor (Bor Pair) × Unit {0}) Bool} {s : Iter Pair} {xs : List Pair} (syntax : ℕ) (u : Iter Pair) (f : F) (r : Option (Bor Pair)) where
  pub found : (ys : List (Bor Pair)) × (j : F) × YieldsThen fronts s ys r u × FoldsTo (λ p x q. CalledAt g p x false q) f ys j
      × MatchOption r ⊤ (λ x. (h : F) × CalledAt g j x true h) → iter_rest s ≡ xs
      → ((x : Bor Pair) (b : Bool) (q : F) → CalledAt g f x b q → (q ≡ f) × (b ≡ eqb x.now.0 syntax)) → length xs ≡ 6 → ((d : Pair) → all_below 6 (agrees d xs) ≡ true)
      → value_of (option_map (λ y. y.now) r) ≡ first_object_class syntax
  found ran rest says long agree =
      ap value_of (find_from_yields_List (λ e. eqb e.0 syntax) u f r ran (YieldsList-from_slice xs rest) says) ∙ any_item syntax xs long agree

pub returns-in-Some : goal.returns-in-Some
unfolding all_below object_classes part padded zeros same_bytes
returns-in-Some c =
    ap (λ o. value_of (option_map (λ y. y.now) o)) (sym c.in-Some.is)
    ∙ found c.args.syntax c.find.new.self _ c.find.result c.find.ensures.ran c.iter.ensures.rest (λ x b q k. search rules) refl (λ d. refl)

pub returns-in-None : goal.returns-in-None
unfolding all_below object_classes part padded zeros same_bytes
returns-in-None c =
    ap (λ o. value_of (option_map (λ y. y.now) o)) (sym c.in-None.is)
    ∙ found c.args.syntax c.find.new.self _ c.find.result c.find.ensures.ran c.iter.ensures.rest (λ x b q k. search rules) refl (λ d. refl)
