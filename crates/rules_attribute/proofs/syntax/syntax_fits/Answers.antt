use Rattle.std.proofs.Common.{◌∙◌, ◌&&◌, ℕ, List, [], ◌∷◌, eqb}
use Rattle.prelude.specs.Below.{any_below}
use Rattle.prelude.proofs.Places.{any_places}
use Rattle.rules_attribute.specs.Syntax.{syntax_fits, syntax_pairs}
use Rattle.rules_attribute.proofs.syntax.syntax_fits.Goals as goal

-- numbers taken two by two
pairs : List ℕ → List (ℕ × ℕ)
pairs (x ∷ y ∷ rest) = (x, y) ∷ pairs rest
pairs (x ∷ []) = []
pairs [] = []

pub returns : goal.returns
unfolding syntax_fits any_below pairs
returns c = c.contains.ensures.value ∙ any_places {A = ℕ × ℕ} (0, 0) (λ p. eqb p.0 c.args.syntax && eqb p.1 c.args.om) (pairs syntax_pairs)
