-- Rules 26 and 27: which oMSyntax goes with an attributeSyntax, and which oMObjectClass with oMSyntax 127. Both are tables; the second is the schema's.
use Rattle.std.specs.Prelude.{Bool, not, ◌&&◌, List, [], ◌∷◌, ◌≡◌, ℕ, ◌+◌, ◌*◌, eqb, get_or}
use Rattle.prelude.specs.Below.{any_below, Some}
use Rattle.schema.specs.ObjectClasses.{object_class_fits}
use Rattle.schema.specs.AttributeRow.{syntax_of, om_syntax_of, object_class_of}

-- ---- rule 26

-- "1:127, 2:6, 3:27, 4:20, 5:19 or 22, 6:18, 7:127, 8:1, 9:2 or 10, 10:4, 11:23 or 24, 12:64, 13:127, 14:127, 15:66, 16:65, 17:4"
abbrev pub syntax_pairs : List ℕ
syntax_pairs = 1 ∷ 127 ∷ 2 ∷ 6 ∷ 3 ∷ 27 ∷ 4 ∷ 20 ∷ 5 ∷ 19 ∷ 5 ∷ 22 ∷ 6 ∷ 18 ∷ 7 ∷ 127 ∷ 8 ∷ 1 ∷ 9 ∷ 2 ∷ 9 ∷ 10 ∷ 10 ∷ 4 ∷ 11 ∷ 23 ∷ 11 ∷ 24 ∷ 12 ∷ 64 ∷
    13 ∷ 127 ∷ 14 ∷ 127 ∷ 15 ∷ 66 ∷ 16 ∷ 65 ∷ 17 ∷ 4 ∷ []

-- how many pairs there are
abbrev pub pair_count : ℕ
pair_count = 20

-- some pair of the table is syntax with omSyntax
unfoldable pub syntax_fits : ℕ → ℕ → Bool
syntax_fits syntax omSyntax = any_below pair_count (λ i. eqb (get_or syntax_pairs (2 * i) 0) syntax && eqb (get_or syntax_pairs (2 * i + 1) 0) omSyntax)

-- "26 Syntax and oMSyntax don't match"
unfoldable pub syntax_wrong : List ℕ → Bool
syntax_wrong row = not (syntax_fits (syntax_of row) (om_syntax_of row))

-- ---- rule 27

-- "27 oMSyntax 127 with a wrong oMObjectClass." With a syntax that has no entry every value is wrong
unfoldable pub object_class_wrong : List ℕ → Bool
object_class_wrong row = eqb (om_syntax_of row) 127 && not (object_class_fits (syntax_of row) (object_class_of row))

-- ---- the same as statements

abbrev pub SyntaxFits : ℕ → ℕ → Type 0
SyntaxFits syntax omSyntax = Some pair_count (λ i. (get_or syntax_pairs (2 * i) 0 ≡ syntax) × (get_or syntax_pairs (2 * i + 1) 0 ≡ omSyntax))
