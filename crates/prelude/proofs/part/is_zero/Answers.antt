use Rattle.std.proofs.Common.{rules, arith, ◌≡◌, ◌&&◌, List, [], ◌∷◌, ℕ, sym, ap, ◌∙◌}
use Rattle.std.specs.List.{fold, list_all}
use Rattle.std.proofs.lemmas.Iterator.{YieldsList-from_slice}
use Rattle.std.proofs.lemmas.Iterator.Consumers.{fold_from_yields_List}
use lib.Bits.{bit_or, or_zero_l, or_add_and, and_le_l, and_le_r}
use lib.Dec.{eqb}
use Rattle.prelude.specs.Part.{is_zero}
use Rattle.prelude.specs.BelowLaws.{all_not}
use Rattle.prelude.specs.SaysLaws.{says_eq, says_and, says_iff, says_same, says_false}
use Rattle.prelude.proofs.Ranges.{and_over, and_true}
use Rattle.prelude.proofs.Places.{all_places}
use Rattle.prelude.proofs.part.is_zero.Goals as goal

-- bytes gathered are zero where each is
gathered : (a b : ℕ) → eqb (bit_or a b) 0 ≡ eqb a 0 && eqb b 0
gathered a b =
    says_same
    (says_iff (says_eq (bit_or a b) 0) (
      λ e. (omega (arith, or_add_and a b, and_le_r a b), omega (arith, or_add_and a b, and_le_l a b)),
      λ h. rw (h.0, h.1) (or_zero_l 0),
    ))
    (says_and (says_eq a 0) (says_eq b 0))

all_gathered : (s : List ℕ) (a : ℕ) → eqb (fold bit_or a s) 0 ≡ eqb a 0 && list_all (λ b. eqb b 0) s
all_gathered [] a = sym (and_true (eqb a 0))
all_gathered (x ∷ s) a = all_gathered s (bit_or a x) ∙ rw (gathered a x) (and_over (eqb a 0) (eqb x 0) (list_all (λ b. eqb b 0) s))

pub returns-then-s-ne0 : goal.returns-then-s-ne0
unfolding is_zero
returns-then-s-ne0 c = sym (all_not _ 0 _ (search rules) (says_false (says_eq _ _) c.if-s-ne0.true))

pub returns : goal.returns
unfolding is_zero
returns c =
    ap (λ n. eqb n 0) (fold_from_yields_List _ bit_or 0 c.fold.result c.fold.ensures.ran (YieldsList-from_slice c.args.s.now (cc)) (λ a x b q h. search rules))
    ∙ all_gathered c.args.s.now 0 ∙ all_places 0 (λ b. eqb b 0) c.args.s.now
