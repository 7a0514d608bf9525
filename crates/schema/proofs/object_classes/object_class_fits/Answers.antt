use Rattle.std.proofs.Common.{◌≡◌, ◌∙◌, ◌&&◌, ℕ, List, Bool, false, true, Option, eqb, length, get_or, rules}
use Rattle.std.specs.Prelude.{Option}
use Rattle.std.specs.Fn.{Called}
use Rattle.std.specs.Iterator.{YieldsThen}
use Rattle.std.specs.List.{FoldsTo}
use Rattle.std.specs.Option.{MatchOption}
use Rattle.std.proofs.lemmas.Iterator.{YieldsList, YieldsList-from_slice}
use Rattle.std.proofs.lemmas.Iterator.Search.{any_from_yields_List}
use denote.Param.Members.{Mut}
use denote.Ref.{Bor}
use Rattle.prelude.specs.Below.{any_below}
use Rattle.prelude.specs.Part.{part, padded, zeros, same_bytes}
use Rattle.prelude.proofs.Places.{any_places}
use Rattle.schema.specs.ObjectClasses.{object_classes, object_class_fits}
use Rattle.schema.proofs.object_classes.object_class_fits.Goals as goal

-- `any` over what yields the items of all, by their places
any_yielded : {S A B F : Type 0} {steps : S → Option A → S → Type 0} {v : A → B} {g : Mut F (A × Unit {0}) Bool} {s : S} {all : List B} (d : B) (test : B → Bool) (u : S)
    (f : F) (r : Bool) → (xs : List A) × (o : Option A) × (j : F) × YieldsThen steps s xs o u × FoldsTo (λ p x q. Called g p (x, tt) false q) f xs j
    × MatchOption o (r ≡ false) (λ x. (r ≡ true) × ((h : F) × Called g j (x, tt) true h)) → YieldsList steps v s all
    → ((x : A) (b : Bool) (q : F) → Called g f (x, tt) b q → (q ≡ f) × (b ≡ test (v x))) → r ≡ any_below (length all) (λ i. test (get_or all i d))
any_yielded {all} d test u f r ran y says = any_from_yields_List test u f r ran y says ∙ any_places d test all

pub returns : goal.returns
unfolding object_class_fits object_classes any_below part padded zeros
returns c =
    any_yielded {B = ℕ × Bor (List ℕ)} (0, c.args.value) (λ e. eqb e.0 c.args.syntax && same_bytes c.args.value.now e.1.now) c.any.new.self _ c.any.result
    c.any.ensures.ran (YieldsList-from_slice _ c.iter.ensures.rest) (λ x r q h. search rules)
