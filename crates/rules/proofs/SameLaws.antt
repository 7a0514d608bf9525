-- Schemas with the same rows are judged the same: every rule looks only at rows that are there.
use Rattle.std.specs.Prelude.{Bool, ◌&&◌, ◌||◌, ◌≡◌, ℕ, ◌<◌}
use Rattle.std.proofs.Math.Bool.{not}
use mathlib.Core.List.{List, [], ◌∷◌}
use Rattle.std.proofs.Math.Path.{refl, ap, ap₂}
use Rattle.std.proofs.Common.{sym, ◌∙◌}
use Rattle.std.proofs.Math.Dec.{eqb}
use Rattle.prelude.specs.BelowLaws.{first_cong, any_cong}
use Rattle.prelude.specs.First.{Case, ◌when◌}
use Rattle.schema.specs.declared.answer.Answer.{Answer}
use Rattle.schema.specs.declared.number.TableId.{TableId}
use Rattle.schema.specs.declared.number.TableId.TheVariants.{Attributes, Classes}
use Rattle.schema.specs.ClassRow.{naming_of}
use Rattle.schema.specs.Store.{Table, Schema, table}
use Rattle.schema.specs.Numbers.{same_table}
use Rattle.tables.specs.Same.{SameRows}
use Rattle.tables.specs.declared.named.ClassList.TheVariants.{Auxiliaries, Superiors}
use Rattle.tables.specs.SameLaws.{live_same}
use Rattle.tables.specs.Live.{live}
use Rattle.rules_names.specs.Name.{name_invalid, identifier_invalid}
use Rattle.rules_unique.specs.declared.Key.TheVariants.{Name, Identifier, Guid, Mapi, Link}
use Rattle.rules_unique.specs.Unique.{every_row}
use Rattle.rules_unique.specs.SameLaws.{taken_same}
use Rattle.rules_attribute.specs.Range.{range_wrong}
use Rattle.rules_attribute.specs.Syntax.{syntax_wrong, object_class_wrong}
use Rattle.rules_attribute.specs.Links.{forward_missing, link_syntax_wrong}
use Rattle.rules_attribute.specs.SameLaws.{forward_missing_same}
use Rattle.rules_class.specs.Live.{not_live, naming_wrong}
use Rattle.rules_class.specs.Category.{category_wrong, inheritance_wrong}
use Rattle.rules_class.specs.SameLaws.{not_live_same, class_wrong_same, lists_itself_same, category_wrong_same, inheritance_wrong_same}
use Rattle.rules_class.specs.SameLaws.{naming_wrong_same}
use Rattle.rules.specs.declared.row.Added.{Added}
use Rattle.rules.specs.declared.row.Added.TheVariants.{Nothing, Class, Entry}
use Rattle.rules.specs.Rules.{Rule, of_attributes, of_classes, inheritance_rule, barred, schema_rules, row_cases, Each, ◌&◌, attribute_not_live}
use Rattle.rules.specs.Rules.{class_not_live, entry_dead}
use Rattle.rules.specs.Judge.{judge_table, judge_rule, judge_rules, judged, AllKept}
use Rattle.rules.proofs.JudgeLaws.{judged_zero}
use Rattle.rules.specs.Rules.{breaks}
use Rattle.schema.specs.Refusals as refusal

-- the rows that are there break the rule in one schema as they do in the other
abbrev SameBreaks : Schema → Schema → (Schema → TableId → ℕ → Bool) → Type 0
SameBreaks m n breaks = (t : TableId) (k : ℕ) → k < (table t m).count → breaks m t k ≡ breaks n t k

-- ---- rules of which that holds are judged the same

module _ {m n : Schema} (s : SameRows m n) where
  judge_table_same : (r : Rule) → SameBreaks m n r.breaks → (t : TableId) (else : Answer) → judge_table r m t else ≡ judge_table r n t else
  unfolding judge_table
  judge_table_same r h t else =
      rw (any_cong (table t m).count (r.breaks m t) (r.breaks n t) (h t), first_cong (table t m).count (r.breaks m t) (r.breaks n t) (h t), (s t).count)

  judge_rules_same : (rs : List Rule) → Each (λ r. SameBreaks m n r.breaks) rs → judge_rules rs m ≡ judge_rules rs n
  unfolding judge_rules judge_rule
  judge_rules_same [] h = refl
  judge_rules_same (r ∷ rs) h =
      judge_table_same r h.0 Attributes (judge_table r m Classes (judge_rules rs m))
      ∙ ap (judge_table r n Attributes) (judge_table_same r h.0 Classes (judge_rules rs m) ∙ ap (judge_table r n Classes) (judge_rules_same rs h.1))

  cases_same : (rs : List Rule) → Each (λ r. SameBreaks m n r.breaks) rs → (t : TableId) (k : ℕ) → k < (table t m).count → row_cases rs m t k
      ≡ row_cases rs n t k
  cases_same [] h t k l = refl
  cases_same (r ∷ rs) h t k l = ap₂ (λ (b : Bool) (cs : List Case). (r.number when b) ∷ cs) (h.0 t k l) (cases_same rs h.1 t k l)

  -- ---- it holds of every rule

  same_by : (f : List ℕ → Bool) (t : TableId) (k : ℕ) → k < (table t m).count → f ((table t m).row k) ≡ f ((table t n).row k)
  same_by f t k l = ap f ((s t).rows k l)

  of_classes_lem : (p : Schema → ℕ → Bool) → ((k : ℕ) → k < m.classes.count → p m k ≡ p n k) → SameBreaks m n (of_classes p)
  of_classes_lem p h Attributes k l = refl
  of_classes_lem p h Classes k l = h k l

  of_attributes_lem : (p : Table → ℕ → Bool) → ((k : ℕ) → k < m.attributes.count → p m.attributes k ≡ p n.attributes k) → SameBreaks m n (of_attributes p)
  of_attributes_lem p h Attributes k l = h k l
  of_attributes_lem p h Classes k l = refl

  barred_same : (added : Added) (k : ℕ) → k < m.classes.count → barred added m.classes k ≡ barred added n.classes k
  unfolding barred
  barred_same Nothing k l = refl
  barred_same (Class a) k l = ap (λ (q : Bool). eqb a.0 k && q) (lists_itself_same (s Classes) k l)
  barred_same (Entry a of x) k l = refl

  entry_same : (added : Added) (u : TableId) (k : ℕ) → k < m.classes.count → entry_dead added u (table u m) (m.classes.row k) k
      ≡ entry_dead added u (table u n) (n.classes.row k) k
  unfolding entry_dead
  entry_same Nothing u k l = refl
  entry_same (Class a) u k l = refl
  entry_same (Entry a of x) u k l =
      ap (λ (q : Bool). eqb a.0 k && (same_table of u && not q)) (live_same (s u) (m.classes.row k) x ∙ same_by (λ r. live (table u n) r x) Classes k l)

  attribute_live_same : (added : Added) (k : ℕ) → k < m.classes.count → attribute_not_live added m k ≡ attribute_not_live added n k
  unfolding attribute_not_live
  attribute_live_same added k l =
      ap₂ (λ (p q : Bool). p || q)
      (not_live_same (s Attributes) Attributes (m.classes.row k) ∙ same_by (not_live Attributes n.attributes) Classes k l)
      (entry_same added Attributes k l)

  class_live_same : (added : Added) (k : ℕ) → k < m.classes.count → class_not_live added m.classes k ≡ class_not_live added n.classes k
  unfolding class_not_live
  class_live_same added k l =
      ap₂ (λ (p q : Bool). p || q) (class_wrong_same (s Classes) k l)
      (ap₂ (λ (p q : Bool). p || q) (barred_same added k l) (entry_same added Classes k l))

  inheritance_same : (number : ℕ) → SameBreaks m n (inheritance_rule number).breaks
  inheritance_same number = of_classes_lem (λ x. inheritance_wrong number x.classes) (λ k l. inheritance_wrong_same (s Classes) k l number)

  all_same : (added : Added) → Each (λ r. SameBreaks m n r.breaks) (schema_rules added)
  all_same added =
      let a = s Attributes in
      let c = s Classes in
      same_by name_invalid
      & taken_same every_row Name s
      & same_by identifier_invalid
      & taken_same every_row Identifier s
      & taken_same every_row Guid s
      & of_classes_lem (attribute_not_live added) (attribute_live_same added)
      & of_classes_lem (λ x k. class_not_live added x.classes k) (class_live_same added)
      & of_classes_lem (λ x k. category_wrong Auxiliaries x.classes (x.classes.row k))
      (λ k l. category_wrong_same c Auxiliaries (m.classes.row k) ∙ same_by (category_wrong Auxiliaries n.classes) Classes k l)
      & of_classes_lem (λ x k. category_wrong Superiors x.classes (x.classes.row k))
      (λ k l. category_wrong_same c Superiors (m.classes.row k) ∙ same_by (category_wrong Superiors n.classes) Classes k l)
      & inheritance_same refusal.root_not_abstract
      & inheritance_same refusal.abstract_under_other
      & inheritance_same refusal.auxiliary_under_structural
      & inheritance_same refusal.structural_under_auxiliary
      & of_classes_lem (λ x k. naming_wrong x.attributes (naming_of (x.classes.row k)))
      (λ k l. naming_wrong_same a (naming_of (m.classes.row k)) ∙ same_by (λ r. naming_wrong n.attributes (naming_of r)) Classes k l)
      & taken_same every_row Mapi s
      & of_attributes_lem (λ x k. range_wrong (x.row k)) (λ k l. same_by range_wrong Attributes k l)
      & of_attributes_lem (λ x k. syntax_wrong (x.row k)) (λ k l. same_by syntax_wrong Attributes k l)
      & of_attributes_lem (λ x k. object_class_wrong (x.row k)) (λ k l. same_by object_class_wrong Attributes k l)
      & taken_same every_row Link s
      & of_attributes_lem (λ x k. forward_missing x (x.row k))
      (λ k l. forward_missing_same a (m.attributes.row k) ∙ same_by (forward_missing n.attributes) Attributes k l)
      & of_attributes_lem (λ x k. link_syntax_wrong (x.row k)) (λ k l. same_by link_syntax_wrong Attributes k l)
      & tt

  -- the whole check
  pub judged_same : (added : Added) → judged added m ≡ judged added n
  unfolding judged
  judged_same added = judge_rules_same (schema_rules added) (all_same added)

  -- so no row of the one breaks a rule where none of the other does
  pub kept_same : (added : Added) → AllKept added m → AllKept added n
  kept_same added h = (judged_zero added n).0 (ap (λ (x : Answer). x.number) (sym (judged_same added)) ∙ (judged_zero added m).1 h)

  -- one row
  pub row_cases_same : (added : Added) (t : TableId) (k : ℕ) → k < (table t m).count → row_cases (schema_rules added) m t k ≡ row_cases (schema_rules added) n t k
  row_cases_same added = cases_same (schema_rules added) (all_same added)
