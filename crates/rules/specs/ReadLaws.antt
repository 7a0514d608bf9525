-- What reading stores by itself breaks no rule. Document 01, rule 27: "Absent, the first is stored."
use Rattle.std.specs.Prelude.{false, List, ◌⊎◌, ◌≡◌, ℕ, ◌≤◌, length}
use Rattle.std.proofs.Common.{sym, ◌∙◌}
use Rattle.std.proofs.Math.Decide.{ℕ_discrete}
use Rattle.prelude.specs.SaysLaws.{says_false}
use Rattle.schema.specs.Layout.{attribute_width}
use Rattle.schema.specs.AttributeRow.{syntax_of, om_syntax_of, object_class_length}
use Rattle.schema.specs.ObjectClasses.{HasObjectClass}
use Rattle.schema.specs.ObjectClassesLaws.{has_object_class}
use Rattle.rows_read.specs.ObjectClass.{settled}
use Rattle.rows_read.specs.WellFormedLaws.{settled_syntaxes, settled_value}
use Rattle.rules_attribute.specs.Syntax.{syntax_wrong, object_class_wrong}
use Rattle.rules_attribute.proofs.SyntaxLaws.{says_object_class_wrong, kept_has, first_right}

-- the fields of an attribute row without 08
module _ (row : List ℕ) (long : attribute_width ≤ length row) (absent : object_class_length row ≡ 0) where
  absent_right : (om_syntax_of row ≡ 127 → HasObjectClass (syntax_of row)) → object_class_wrong (settled row) ≡ false
  absent_right has = go (ℕ_discrete (om_syntax_of row) 127)
    where
      same : (om_syntax_of (settled row) ≡ om_syntax_of row) × (syntax_of (settled row) ≡ syntax_of row)
      same = settled_syntaxes row long

      go : Dec (om_syntax_of row ≡ 127) → object_class_wrong (settled row) ≡ false
      go (no d) = says_false (says_object_class_wrong (settled row)) (λ w. d (sym same.0 ∙ w.0))
      go (yes e) = first_right (settled row) (rw same.1 (has e)) (rw same.1 (settled_value row long e absent))

  -- a syntax that rule 27 names: what is stored keeps it
  pub absent_named : (syntax_of row ≡ 1) ⊎ ((syntax_of row ≡ 7) ⊎ ((syntax_of row ≡ 13) ⊎ (syntax_of row ≡ 14))) → object_class_wrong (settled row) ≡ false
  absent_named h = absent_right (λ e. has_object_class h)

  -- any syntax: a row that keeps rule 26 keeps 27 too
  pub absent_kept : syntax_wrong row ≡ false → object_class_wrong (settled row) ≡ false
  absent_kept k = absent_right (kept_has row k)
