-- What the tests of syntax and object class say.
use Rattle.std.specs.Prelude.{true, false, not, ◌||◌, List, ◌≡◌, refl, ℕ, ◌+◌, ◌*◌, eqb, get_or}
use Rattle.std.proofs.Common.{⊎_elim}
use Rattle.std.proofs.lemmas.Bool.{not-false}
use Rattle.prelude.specs.Below.{any_below, all_below}
use Rattle.prelude.specs.Part.{part, padded, zeros}
use Rattle.prelude.specs.Says.{Says}
use Rattle.prelude.specs.SaysLaws.{says_and, says_not, says_eq, says_or, says_false}
use Rattle.prelude.specs.BelowLaws.{says_any, all_each}
use Rattle.schema.specs.ObjectClasses.{ObjectClassFits, entry_count, object_classes, entry_syntax, first_object_class, HasObjectClass}
use Rattle.schema.specs.ObjectClassesLaws.{says_object_class_fits, first_fits}
use Rattle.schema.specs.AttributeRow.{syntax_of, om_syntax_of, object_class_of}
use Rattle.rules_attribute.specs.Syntax.{syntax_pairs, pair_count, syntax_fits, syntax_wrong, object_class_wrong, SyntaxFits}

pub says_syntax_fits : (syntax omSyntax : ℕ) → Says (syntax_fits syntax omSyntax) (SyntaxFits syntax omSyntax)
unfolding syntax_fits
says_syntax_fits syntax omSyntax =
    says_any pair_count (λ i l. says_and (says_eq (get_or syntax_pairs (2 * i) 0) syntax) (says_eq (get_or syntax_pairs (2 * i + 1) 0) omSyntax))

-- rule 26
pub says_syntax_wrong : (row : List ℕ) → Says (syntax_wrong row) (¬ (SyntaxFits (syntax_of row) (om_syntax_of row)))
unfolding syntax_wrong
says_syntax_wrong row = says_not (says_syntax_fits (syntax_of row) (om_syntax_of row))

-- rule 27
pub says_object_class_wrong : (row : List ℕ) → Says (object_class_wrong row) ((om_syntax_of row ≡ 127) × ¬ (ObjectClassFits (syntax_of row) (object_class_of row)))
unfolding object_class_wrong
says_object_class_wrong row = says_and (says_eq (om_syntax_of row) 127) (says_not (says_object_class_fits (syntax_of row) (object_class_of row)))

-- ---- the first value of a syntax, which a row gets that has none

-- computed over both tables: a syntax that goes with oMSyntax 127 has a right value
all_have : all_below pair_count (λ i. not (eqb (get_or syntax_pairs (2 * i + 1) 0) 127) || any_below entry_count
    (λ j. eqb (entry_syntax object_classes j) (get_or syntax_pairs (2 * i) 0))) ≡ true
unfolding all_below any_below object_classes part padded zeros
all_have = refl

object_has : (syntax : ℕ) → SyntaxFits syntax 127 → HasObjectClass syntax
object_has syntax s =
    ⊎_elim (λ d. absurd (d s.is.1)) (λ h. rw s.is.0 at h)
    ((says_or (says_not (says_eq (get_or syntax_pairs (2 * s.at + 1) 0) 127))
    (says_any entry_count (λ j l. says_eq (entry_syntax object_classes j) (get_or syntax_pairs (2 * s.at) 0)))).holds
    (all_each (λ i. not (eqb (get_or syntax_pairs (2 * i + 1) 0) 127) || any_below entry_count
    (λ j. eqb (entry_syntax object_classes j) (get_or syntax_pairs (2 * i) 0))) pair_count all_have s.at s.below))

-- where rule 26 is kept and oMSyntax is 127
pub kept_has : (row : List ℕ) → syntax_wrong row ≡ false → om_syntax_of row ≡ 127 → HasObjectClass (syntax_of row)
unfolding syntax_wrong
kept_has row k e = object_has (syntax_of row)
    (rw e at ((says_syntax_fits (syntax_of row) (om_syntax_of row)).holds (not-false (syntax_fits (syntax_of row) (om_syntax_of row)) k)))

-- the first value of a syntax that has one keeps rule 27
pub first_right : (row : List ℕ) → HasObjectClass (syntax_of row) → object_class_of row ≡ first_object_class (syntax_of row) → object_class_wrong row ≡ false
first_right row h e = says_false (says_object_class_wrong row) (λ w. w.1 (rw e (first_fits (syntax_of row) h)))
