-- The tags of changes.
use Rattle.std.specs.Prelude.{cond, ◌≡◌, refl, ℕ, eqb, Some, None, Option}
use Rattle.std.proofs.Common.{ap, sym, ◌∙◌, arith}
use Rattle.prelude.specs.SaysLaws.{choose, says_eq}
use Rattle.schema.specs.declared.number.TableId.TheVariants.{Attributes, Classes}
use Rattle.change_read.specs.declared.read.Change.{Change}
use Rattle.change_read.specs.declared.read.Change.TheVariants.{Add, SetRange, Rename, Deactivate, Reactivate, AddEntry, RemoveEntry}
use Rattle.change_read.specs.Reading.{change_of}
use Rattle.change_read.specs.Stopping.{change_tag}

-- the tag of a change is known as its
pub tag_known : (change : Change) → change_of (change_tag change) ≡ Some change
unfolding change_of change_tag
tag_known (Add Attributes) = refl
tag_known (Add Classes) = refl
tag_known SetRange = refl
tag_known (Rename Attributes) = refl
tag_known (Rename Classes) = refl
tag_known (Deactivate Attributes) = refl
tag_known (Deactivate Classes) = refl
tag_known (Reactivate Attributes) = refl
tag_known (Reactivate Classes) = refl
tag_known AddEntry = refl
tag_known RemoveEntry = refl

-- and what is known as a change has its tag
abbrev Named : ℕ → Option Change → Type 0
Named tag t = (change : Change) → t ≡ Some change → tag ≡ change_tag change

named : (tag : ℕ) (c : Change) (t : Option Change) → Named tag t → Named tag (cond (eqb tag (change_tag c)) (Some c) t)
named tag c t rest =
    choose (Named tag) (eqb tag (change_tag c))
    (λ e change q. (let is : c ≡ change = cc in (says_eq tag (change_tag c)).holds e ∙ ap change_tag is)) (λ e. rest)

pub known_named : (tag : ℕ) → Named tag (change_of tag)
unfolding change_of change_tag
known_named tag =
    named tag (Add Attributes) _ (named tag (Add Classes) _ (named tag SetRange _ (named tag (Rename Attributes) _ (named tag (Rename Classes) _
    (named tag (Deactivate Attributes) _ (named tag (Deactivate Classes) _ (named tag (Reactivate Attributes) _ (named tag (Reactivate Classes) _
    (named tag AddEntry _ (named tag RemoveEntry _ (λ change q. absurd (unknown_known q))))))))))))
  where
    unknown_known : {change : Change} → None ≡ Some change → ⊥
    unknown_known q = let no : ◌≡◌ {A = ℕ} 0 1 = cc in omega arith

-- a tag is a change's, or no change's
pub data Kind (tag : ℕ) : Type 0 where
  a_change : (change : Change) → tag ≡ change_tag change → Kind tag
  none : change_of tag ≡ None → ((change : Change) → ¬ (tag ≡ change_tag change)) → Kind tag

pub kind : (tag : ℕ) → Kind tag
kind tag = go (change_of tag) refl
  where
    other : change_of tag ≡ None → (change : Change) → tag ≡ change_tag change → ⊥
    other e change q = let a : None ≡ Some change = sym e ∙ ap change_of q ∙ tag_known change in let no : ◌≡◌ {A = ℕ} 0 1 = cc in omega arith

    go : (t : Option Change) → change_of tag ≡ t → Kind tag
    go (Some change) e = a_change change (known_named tag change e)
    go None e = none e (other e)
