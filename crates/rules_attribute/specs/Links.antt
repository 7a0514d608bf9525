-- Rules 29 and 45: a back link needs its forward link, and a linked attribute holds names.
use Rattle.std.specs.Prelude.{Bool, cond, not, ◌&&◌, ◌||◌, List, ◌⊎◌, ◌≡◌, ℕ, ◌+◌, ◌%◌, eqb}
use Rattle.prelude.specs.Below.{any_below, Some}
use Rattle.schema.specs.AttributeRow.{syntax_of, link_of}
use Rattle.schema.specs.Store.{Table}
use Rattle.tables.specs.Live.{live, Live}

-- an odd linkID is a back link
unfoldable pub is_back_link : List ℕ → Bool
is_back_link row = eqb (link_of row % 2) 1

-- "holding the number one less; 1 never has one": 0 is absent, and no row holds it
unfoldable pub is_forward_of : List ℕ → List ℕ → Bool
is_forward_of back row = not (eqb (link_of row) 0) && eqb (link_of row + 1) (link_of back)

-- attribute j is such a one, and live for the back link; some attribute is
abbrev pub is_live_forward : Table → List ℕ → ℕ → Bool
is_live_forward a back j = is_forward_of back (a.row j) && live a back j

abbrev pub has_forward : Table → List ℕ → Bool
has_forward a back = any_below a.count (is_live_forward a back)

-- "29 An odd linkID without a live attribute holding the number one less"
unfoldable pub forward_missing : Table → List ℕ → Bool
forward_missing a row = is_back_link row && not (has_forward a row)

-- ---- rule 45

-- "a present even linkID needs 2.5.5.1, 2.5.5.7 or 2.5.5.14, an odd one 2.5.5.1": the syntaxes of names; 0 is absent, and needs none
unfoldable pub link_syntax_fits : List ℕ → Bool
link_syntax_fits row =
    cond (is_back_link row) (eqb (syntax_of row) 1)
    (eqb (link_of row) 0 || (eqb (syntax_of row) 1 || (eqb (syntax_of row) 7 || eqb (syntax_of row) 14)))

-- "Refusals: 45, a schema rule after 29."
unfoldable pub link_syntax_wrong : List ℕ → Bool
link_syntax_wrong row = not (link_syntax_fits row)

-- ---- the same as statements

abbrev pub ForwardOf : List ℕ → List ℕ → Type 0
ForwardOf back row = ¬ (link_of row ≡ 0) × (link_of row + 1 ≡ link_of back)

abbrev pub ForwardMissing : Table → List ℕ → Type 0
ForwardMissing a row = (link_of row % 2 ≡ 1) × ¬ (Some a.count (λ j. ForwardOf row (a.row j) × Live a row j))

pub record LinkSyntaxFits (row : List ℕ) : Type 0 where
  pub even : ¬ (link_of row ≡ 0) → link_of row % 2 ≡ 0 → (syntax_of row ≡ 1) ⊎ ((syntax_of row ≡ 7) ⊎ (syntax_of row ≡ 14))
  pub odd : link_of row % 2 ≡ 1 → syntax_of row ≡ 1
