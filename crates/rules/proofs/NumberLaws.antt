-- Finding the rule of a number among the rules of an order.
use Rattle.std.specs.Prelude.{Bool, true, false, cond, ◌≡◌, ℕ, eqb, map, Option, None, Some}
use Rattle.std.specs.Bool.{⊤}
use Rattle.std.specs.Fn.{CalledAt}
use Rattle.std.specs.Iterator.{YieldsThen}
use Rattle.std.specs.List.{find, FoldsTo}
use Rattle.std.specs.Option.{option_map, MatchOption}
use Rattle.std.specs.Slice.Iter.{iter_rest}
use Rattle.std.proofs.Common.{⊎_elim, sym, ap, refl, ◌∙◌, Iter}
use Rattle.std.proofs.iter.Yields.{fronts}
use Rattle.std.proofs.lemmas.Iterator.{YieldsList-from_slice}
use Rattle.std.proofs.lemmas.Iterator.Search.{find_from_yields_List}
use denote.Param.Members.{Mut}
use denote.Ref.{Bor}
use mathlib.Core.List.{List, [], ◌∷◌}
use Rattle.prelude.specs.SaysLaws.{says_eq, says_split}
use Rattle.schema.specs.declared.refusal.Refusal.{Refusal}
use Rattle.schema.specs.Refused.{refusal_number}
use Rattle.rules.specs.Rules.{Rule, no_rule, numbered, rules_of}
use Rattle.rules.specs.RulesLaws.{numbered_number}

module _ (rs : List Rule) (n : ℕ) where
  -- the rule of what was found
  abbrev found_rule : Option Refusal → Rule
  found_rule None = no_rule n
  found_rule (Some r) = numbered rs (refusal_number r)

  found_numbered : (order : List Refusal) → found_rule (find (λ r. eqb (refusal_number r) n) order) ≡ numbered (rules_of rs (map refusal_number order)) n
  unfolding numbered
  found_numbered [] = refl
  found_numbered (r ∷ order) =
      ⊎_elim (λ q. rw q.0 refl) (λ q. rw q.0 (found_numbered order)) (says_split (says_eq (refusal_number r) n))
      ∙ ap (λ k. cond (eqb k n) (numbered rs (refusal_number r)) (numbered (rules_of rs (map refusal_number order)) n))
      (sym (numbered_number rs (refusal_number r)))

  -- what `find` gives of the order
  pub found_in_order : {F : Type 0} {g : Mut F (Bor (Bor Refusal) × Unit {0}) Bool} {s : Iter Refusal} {o : Option (Bor Refusal)} (order : List Refusal)
      (u : Iter Refusal) (f : F) (r : Option (Bor Refusal))
      → (xs : List (Bor Refusal)) × (j : F) × YieldsThen fronts s xs r u × FoldsTo (λ p x q. CalledAt g p x false q) f xs j
      × MatchOption r ⊤ (λ x. (h : F) × CalledAt g j x true h)
      → iter_rest s ≡ order
      → ((x : Bor Refusal) (b : Bool) (q : F) → CalledAt g f x b q → (q ≡ f) × (b ≡ eqb (refusal_number x.now) n))
      → r ≡ o → found_rule (option_map (λ y. y.now) o) ≡ numbered (rules_of rs (map refusal_number order)) n
  found_in_order order u f r ran rest says is =
      ap (λ x. found_rule (option_map (λ y. y.now) x)) (sym is)
      ∙ ap found_rule (find_from_yields_List (λ x. eqb (refusal_number x) n) u f r ran (YieldsList-from_slice order rest) says) ∙ found_numbered order
