-- "Meets every rule" says the same as the list of tests: no row breaks any, rule by rule.
use native.Mathlib.Omega.{arith}
use Rattle.std.specs.Prelude.{eqb, Bool, true, ◌&&◌, ◌||◌, List, ◌∷◌, ◌↔◌, ◌⊎◌, ◌≡◌, refl, ℕ, ◌<◌, ◌≤◌}
use Rattle.std.proofs.lemmas.Bool.{not-true, false≢true}
use Rattle.std.proofs.Math.Bool.{false, not}
use Rattle.std.proofs.Common.{inl, inr, ⊎_elim, sym, ◌∙◌}
use Rattle.std.proofs.Math.Path.{ap, ap₂}
use Rattle.prelude.specs.Says.{Says}
use Rattle.prelude.specs.SaysLaws.{says_and, says_or, says_eq, says_lt, says_test, says_split, says_false, says_fails, neither, says_not, says_iff}
use Rattle.prelude.specs.BelowLaws.{says_any}
use Rattle.prelude.specs.First.{Among}
use Rattle.prelude.specs.Below.{Some}
use Rattle.prelude.specs.FirstLaws.{first_least}
use Rattle.schema.specs.declared.number.TableId.{TableId}
use Rattle.schema.specs.declared.number.TableId.TheVariants.{Attributes, Classes}
use Rattle.schema.specs.Numbers.{SameRow, same_table}
use Rattle.schema.specs.NumbersLaws.{says_same_row, says_same_table}
use Rattle.schema.specs.Order.{rank}
use Rattle.schema.specs.Row.{name_of}
use Rattle.schema.specs.AttributeRow.{syntax_of, om_syntax_of, object_class_of, is_single_valued, link_of, mapi_of}
use Rattle.schema.specs.ClassRow.{category_of, superclass_of, naming_of}
use Rattle.schema.specs.ObjectClassesLaws.{says_object_class_fits}
use Rattle.schema.specs.Store.{Table, Schema, table}
use Rattle.tables.specs.LiveLaws.{says_live}
use Rattle.tables.specs.declared.named.ClassList.{ClassList}
use Rattle.tables.specs.declared.named.ClassList.TheVariants.{Auxiliaries, Superiors}
use Rattle.tables.specs.Named.{Lists}
use Rattle.tables.specs.Live.{Live, live}
use Rattle.rules_names.specs.NameLaws.{says_valid, says_name_invalid, says_identifier_invalid}
use Rattle.rules_unique.specs.declared.Key.{Key}
use Rattle.rules_unique.specs.declared.Key.TheVariants.{Name, Identifier, Guid, Mapi, Link}
use Rattle.rules_unique.specs.Unique.{has_key, every_row, taken, SameKey, Clash}
use Rattle.rules_unique.proofs.UniqueLaws.{says_taken}
use Rattle.rules_attribute.proofs.RangeLaws.{says_range_wrong}
use Rattle.rules_attribute.proofs.SyntaxLaws.{says_syntax_fits, says_syntax_wrong, says_object_class_wrong}
use Rattle.rules_attribute.proofs.LinksLaws.{says_forward, says_forward_missing, says_link_syntax_fits, says_link_syntax_wrong}
use Rattle.rules_attribute.specs.Range.{range_wrong}
use Rattle.rules_attribute.specs.Syntax.{syntax_wrong, object_class_wrong}
use Rattle.rules_attribute.specs.Links.{link_syntax_wrong}
use Rattle.rules_attribute.specs.Links.{forward_missing}
use Rattle.rules_class.specs.Live.{not_live, class_wrong, SuperclassEarly, lists_itself, superclass_late, naming_wrong}
use Rattle.rules_class.specs.LiveLaws.{says_not_live, says_naming_wrong, says_lists_itself, says_superclass_late}
use Rattle.rules_class.specs.Category.{class88, abstract, list_category, category_wrong, inheritance_number, inheritance_wrong, RootIllegal}
use Rattle.rules_class.specs.declared.category.Inheritance.{Inheritance}
use Rattle.rules_class.specs.declared.category.Inheritance.TheVariants.{RootNotAbstract, AbstractUnderOther, AuxiliaryUnderStructural}
use Rattle.rules_class.specs.declared.category.Inheritance.TheVariants.{StructuralUnderAuxiliary}
use Rattle.rules_class.proofs.CategoryLaws.{says_category_wrong, says_inheritance_wrong}
use Rattle.rules.specs.declared.row.Added.TheVariants.{Nothing}
use Rattle.rules.specs.Rules.{of_attributes, of_classes, inheritance_rule, schema_rules, numbered, ◌&◌, attribute_not_live, class_not_live}
use Rattle.rules.specs.Rules.{entry_dead, barred, Each, Rule}
use Rattle.rules.specs.RulesLaws.{each_numbered, case_picked, picked_case, rising}
use Rattle.rules.specs.Judge.{Kept, AllKept, breaks_in, broken, broken_cases, judged}
use Rattle.rules.specs.Meets.{Apart, NumbersApart, NamedLive, EntryLive, NotItself, Fitting, Legal, RuleName, rule_number, Met, Meets}
use Rattle.rules.specs.declared.row.Added.{Added}
use Rattle.rules.specs.declared.row.Added.TheVariants.{Class, Entry}
use Rattle.rules.specs.Rules.{cases_of}
use Rattle.rules.proofs.JudgeLaws.{judge_number, none_broken}
use Rattle.schema.specs.Refusals as refusal

-- what is decided by a test, and cannot fail, holds
sure : {b : Bool} {P : Type 0} → Says b P → ¬ (¬ P) → P
sure s n = ⊎_elim (λ q. q.1) (λ q. absurd (n q.1)) (says_split s)

-- ---- keys

every_clash : {key : Key} {a b : List ℕ} → SameKey key a b → Clash every_row key a b
every_clash s = record { first = refl; second = refl; same = s }

module _ (m : Schema) (key : Key) where
  abbrev Unique : Type 0
  Unique = (t : TableId) (k : ℕ) → k < (table t m).count → taken every_row key m t k ≡ false

  -- a key of both tables
  unique_apart : ((t : TableId) → has_key key t ≡ true) → Unique → Apart m (SameKey key)
  unique_apart has h t k l u j i same = ⊎_elim (λ q. q.1) (λ q. absurd (clash q.1)) (says_split (says_same_row t k u j))
    where
      clash : ¬ (SameRow t k u j) → ⊥
      clash d = says_fails (says_taken every_row key m t k) (h t k l)
          (record { has = has t; of = u; its = has u; at = j; below = i; other = d; clash = every_clash same })

  apart_unique : Apart m (SameKey key) → Unique
  apart_unique h t k l = says_false (says_taken every_row key m t k) (λ r. r.other (h t k l r.of r.at r.below r.clash.same))

  -- a key of attributes
  unique_numbers : has_key key Attributes ≡ true → Unique → (k : ℕ) → k < m.attributes.count → (j : ℕ) → j < m.attributes.count
      → SameKey key (m.attributes.row k) (m.attributes.row j) → k ≡ j
  unique_numbers has h k l j i same = ⊎_elim (λ q. q.1.1) (λ q. absurd (clash q.1)) (says_split (says_same_row Attributes k Attributes j))
    where
      clash : ¬ (SameRow Attributes k Attributes j) → ⊥
      clash d =
          says_fails (says_taken every_row key m Attributes k) (h Attributes k l)
          (record { has = has; of = Attributes; its = has; at = j; below = i; other = d; clash = every_clash same })

  numbers_unique : has_key key Classes ≡ false
      → ((k : ℕ) → k < m.attributes.count → (j : ℕ) → j < m.attributes.count → SameKey key (m.attributes.row k) (m.attributes.row j) → k ≡ j) → Unique
  numbers_unique none h t k l = says_false (says_taken every_row key m t k)
      (λ r. go t r.of l r.has r.its r.at r.below r.other r.clash.same)
    where
      go : (t u : TableId) → k < (table t m).count → has_key key t ≡ true → has_key key u ≡ true → (j : ℕ) → j < (table u m).count → ¬ (SameRow t k u j)
          → SameKey key ((table t m).row k) ((table u m).row j) → ⊥
      go Attributes Attributes l p q j i d same = d (refl, h k l j i same)
      go Attributes Classes l p q j i d same = false≢true (sym none ∙ q)
      go Classes u l p q j i d same = false≢true (sym none ∙ p)

  -- said of a number that rows have
  numbers_met : has_key key Attributes ≡ true → has_key key Classes ≡ false → (number : List ℕ → ℕ)
      → ((a b : List ℕ) → SameKey key a b ↔ (¬ (number a ≡ 0) × (number a ≡ number b))) → Unique ↔ NumbersApart m number
  numbers_met has none number same = (
    λ h k l j i d e. unique_numbers has h k l j i ((same (m.attributes.row k) (m.attributes.row j)).1 (d, e)),
    λ h. numbers_unique none (λ k l j i s. (let x = (same (m.attributes.row k) (m.attributes.row j)).0 s in h k l j i x.0 x.1)),
  )

both_names : (t : TableId) → has_key Name t ≡ true
unfolding has_key
both_names Attributes = refl
both_names Classes = refl

both_identifiers : (t : TableId) → has_key Identifier t ≡ true
unfolding has_key
both_identifiers Attributes = refl
both_identifiers Classes = refl

both_guids : (t : TableId) → has_key Guid t ≡ true
unfolding has_key
both_guids Attributes = refl
both_guids Classes = refl

-- ---- a rule of classes only, of attributes only

of_classes_lem : (m : Schema) (f : Schema → ℕ → Bool) → ((k : ℕ) → k < m.classes.count → f m k ≡ false) → (t : TableId) (k : ℕ) → k < (table t m).count
    → of_classes f m t k ≡ false
of_classes_lem m f e Attributes k l = refl
of_classes_lem m f e Classes k l = e k l

of_attributes_lem : (m : Schema) (f : Table → ℕ → Bool) → ((k : ℕ) → k < m.attributes.count → f m.attributes k ≡ false) → (t : TableId) (k : ℕ)
    → k < (table t m).count → of_attributes f m t k ≡ false
of_attributes_lem m f e Attributes k l = e k l
of_attributes_lem m f e Classes k l = refl

-- a test of each class, or of each attribute: no row has Q, which is that each has P
class_met : (m : Schema) (f : Schema → ℕ → Bool) {Q P : ℕ → Type 0} → ((k : ℕ) → Says (f m k) (Q k)) → ((k : ℕ) → k < m.classes.count → (¬ Q k) ↔ P k)
    → ((t : TableId) (k : ℕ) → k < (table t m).count → of_classes f m t k ≡ false) ↔ ((k : ℕ) → k < m.classes.count → P k)
class_met m f s i = (λ h k l. (i k l).0 (says_fails (s k) (h Classes k l)), λ h. of_classes_lem m f (λ k l. says_false (s k) ((i k l).1 (h k l))))

attribute_met : (m : Schema) (f : Table → ℕ → Bool) {Q P : ℕ → Type 0} → ((k : ℕ) → Says (f m.attributes k) (Q k))
    → ((k : ℕ) → (¬ Q k) ↔ P k) → ((t : TableId) (k : ℕ) → k < (table t m).count → of_attributes f m t k ≡ false)
    ↔ ((k : ℕ) → k < m.attributes.count → P k)
attribute_met m f s i = (λ h k l. (i k).0 (says_fails (s k) (h Attributes k l)), λ h. of_attributes_lem m f (λ k l. says_false (s k) ((i k).1 (h k l))))

-- what a test decides, and its negation
decided : {b : Bool} {P : Type 0} → Says b P → (¬ (¬ P)) ↔ P
decided s = (sure s, λ p n. n p)

-- ---- rules 17 and 18

says_entry_live : (added : Added) (u : TableId) (m : Schema)
    → ((k : ℕ) → k < m.classes.count → entry_dead added u (table u m) (m.classes.row k) k ≡ false) ↔ EntryLive added u m
unfolding entry_dead
says_entry_live Nothing u m = (λ h. tt, λ h k l. refl)
says_entry_live (Class a) u m = (λ h. tt, λ h k l. refl)
says_entry_live (Entry a of n) u m = (to, from)
  where
    says : (k : ℕ) → Says (eqb a.0 k && (same_table of u && not (live (table u m) (m.classes.row k) n)))
        ((a.0 ≡ k) × ((of ≡ u) × ¬ (Live (table u m) (m.classes.row k) n)))
    says k = says_and (says_eq a.0 k) (says_and (says_same_table of u) (says_not (says_live (table u m) (m.classes.row k) n)))

    to : ((k : ℕ) → k < m.classes.count → (eqb a.0 k && (same_table of u && not (live (table u m) (m.classes.row k) n))) ≡ false)
        → a.0 < m.classes.count → of ≡ u → Live (table u m) (m.classes.row a.0) n
    to h l q = sure (says_live (table u m) (m.classes.row a.0) n) (λ dead. says_fails (says a.0) (h a.0 l) (refl, (q, dead)))

    from : (a.0 < m.classes.count → of ≡ u → Live (table u m) (m.classes.row a.0) n) → (k : ℕ) → k < m.classes.count
        → (eqb a.0 k && (same_table of u && not (live (table u m) (m.classes.row k) n))) ≡ false
    from h k l = says_false (says k) (λ bad. bad.1.1 (rw bad.0 at (h (rw bad.0 l) bad.1.0)))

says_not_itself : (added : Added) (m : Schema) → ((k : ℕ) → k < m.classes.count → barred added m.classes k ≡ false) ↔ NotItself added m
unfolding barred
says_not_itself Nothing m = (λ h. tt, λ h k l. refl)
says_not_itself (Entry a of n) m = (λ h. tt, λ h k l. refl)
says_not_itself (Class a) m = (to, from)
  where
    says : (k : ℕ) → Says (eqb a.0 k && lists_itself m.classes k)
        ((a.0 ≡ k) × (Lists Auxiliaries (m.classes.row k) k ⊎ Lists Superiors (m.classes.row k) k))
    says k = says_and (says_eq a.0 k) (says_lists_itself m.classes k)

    to : ((k : ℕ) → k < m.classes.count → (eqb a.0 k && lists_itself m.classes k) ≡ false) → a.0 < m.classes.count → (kind : ClassList)
        → ¬ (Lists kind (m.classes.row a.0) a.0)
    to h l Auxiliaries x = says_fails (says a.0) (h a.0 l) (refl, inl x)
    to h l Superiors x = says_fails (says a.0) (h a.0 l) (refl, inr x)

    from : (a.0 < m.classes.count → (kind : ClassList) → ¬ (Lists kind (m.classes.row a.0) a.0)) → (k : ℕ) → k < m.classes.count
        → (eqb a.0 k && lists_itself m.classes k) ≡ false
    from h k l = says_false (says k) (λ bad. ⊎_elim (λ x. h (rw bad.0 l) Auxiliaries (rw bad.0 x)) (λ x. h (rw bad.0 l) Superiors (rw
        bad.0 x)) bad.1)

says_named_live : (t : TableId) (m : Schema)
    → ((k : ℕ) → k < m.classes.count → not_live t (table t m) (m.classes.row k) ≡ false) ↔ NamedLive t m
says_named_live t m = (
  λ h k l n few named. sure (says_live (table t m) (m.classes.row k) n)
      (λ dead. says_fails (says_not_live t (table t m) (m.classes.row k)) (h k l)
      (record { at = n; below = few; is = record { named = named; dead = dead } })),
  λ h k l. says_false (says_not_live t (table t m) (m.classes.row k)) (λ bad. bad.is.dead (h k l bad.at bad.below bad.is.named)),
)

module _ (added : Added) (m : Schema) where
  attribute_live_met : ((t : TableId) (k : ℕ) → k < (table t m).count → of_classes (attribute_not_live added) m t k ≡ false)
      ↔ (NamedLive Attributes m × EntryLive added Attributes m)
  unfolding attribute_not_live
  attribute_live_met =
      let n = says_named_live Attributes m in
      let e = says_entry_live added Attributes m in (
        λ h. (n.0 (λ k l. (parts k (h Classes k l)).0), e.0 (λ k l. (parts k (h Classes k l)).1)),
        λ h. of_classes_lem m (attribute_not_live added) (λ k l. ap₂ (λ (x y : Bool). x || y) (n.1 h.0 k l) (e.1 h.1 k l)),
      )
    where
      parts : (k : ℕ) → (not_live Attributes m.attributes (m.classes.row k) || entry_dead added Attributes m.attributes (m.classes.row k) k) ≡ false
          → (not_live Attributes m.attributes (m.classes.row k) ≡ false) × (entry_dead added Attributes m.attributes (m.classes.row k) k ≡ false)
      parts k = neither (not_live Attributes m.attributes (m.classes.row k)) (entry_dead added Attributes m.attributes (m.classes.row k) k)

  -- the four parts of rule 18
  class_parts : (k : ℕ) → class_not_live added m.classes k ≡ false
      → (not_live Classes m.classes (m.classes.row k) ≡ false)
      × ((superclass_late k (m.classes.row k) ≡ false)
      × ((barred added m.classes k ≡ false) × (entry_dead added Classes m.classes (m.classes.row k) k ≡ false)))
  unfolding class_not_live class_wrong
  class_parts k h =
      let p = neither _ _ h in
      let q = neither (not_live Classes m.classes (m.classes.row k)) (superclass_late k (m.classes.row k)) p.0 in
      (q.0, (q.1, neither _ _ p.1))

  class_live_met : ((t : TableId) (k : ℕ) → k < (table t m).count → of_classes (λ x j. class_not_live added x.classes j) m t k ≡ false)
      ↔ (NamedLive Classes m × ((k : ℕ) → k < m.classes.count → SuperclassEarly k (m.classes.row k)) × NotItself added m × EntryLive added Classes m)
  unfolding class_not_live class_wrong superclass_late
  class_live_met =
      let n = says_named_live Classes m in
      let b = says_not_itself added m in
      let e = says_entry_live added Classes m in (
        λ h. (
          n.0 (λ k l. (class_parts k (h Classes k l)).0),
          λ k l. (early k).holds (ap not (class_parts k (h Classes k l)).1.0),
          b.0 (λ k l. (class_parts k (h Classes k l)).1.1.0),
          e.0 (λ k l. (class_parts k (h Classes k l)).1.1.1),
        ),
        λ h. of_classes_lem m (λ x j. class_not_live added x.classes j) (λ k l.
            ap₂ (λ (x y : Bool). x || y)
            (ap₂ (λ (x y : Bool). x || y) (n.1 h.0 k l) (not-true _ ((early k).passes (h.1 k l))))
            (ap₂ (λ (x y : Bool). x || y) (b.1 h.2 k l) (e.1 h.3 k l))),
      )
    where
      early : (k : ℕ) → Says (not (superclass_late k (m.classes.row k))) (SuperclassEarly k (m.classes.row k))
      early k = says_iff (says_not (says_superclass_late k (m.classes.row k)))
          (decided (says_or (says_and (says_eq k 0) (says_eq (superclass_of (m.classes.row k)) 0)) (says_lt (superclass_of (m.classes.row k)) k)))

-- ---- each rule

category_met : (kind : ClassList) (m : Schema)
    → ((t : TableId) (k : ℕ) → k < (table t m).count → of_classes (λ x j. category_wrong kind x.classes (x.classes.row j)) m t k ≡ false) ↔ Fitting kind m
category_met kind m =
    class_met m (λ x j. category_wrong kind x.classes (x.classes.row j)) (λ k. says_category_wrong kind m.classes (m.classes.row k)) (λ k l. (
      λ none n few listed there.
          sure (says_or (says_eq (category_of (m.classes.row n)) class88) (says_eq (category_of (m.classes.row n)) (list_category kind)))
          (λ other. none (record { at = n; below = few; is = record { listed = listed; there = there; other = other } })),
      λ h s. s.is.other (h s.at s.below s.is.listed s.is.there),
    ))

-- 21, 38, 39 and 40
module _ (x : Inheritance) (some : 0 < inheritance_number x) (m : Schema) where
  abbrev NoneInherits : Type 0
  NoneInherits = Kept m (inheritance_rule (inheritance_number x))

  inheritance_met : NoneInherits ↔ ((0 < m.classes.count → ¬ (RootIllegal x (category_of (m.classes.row 0)))) × Legal x m)
  inheritance_met = (
    λ h. (
      λ l d. says_fails (says_inheritance_wrong m.classes 0 x some) (h Classes 0 l) (inl (refl, d)),
      λ k l d there ill. says_fails (says_inheritance_wrong m.classes k x some) (h Classes k l) (inr (d, (there, ill))),
    ),
    λ h. of_classes_lem m (λ n. inheritance_wrong (inheritance_number x) n.classes) (λ k l. says_false (says_inheritance_wrong m.classes k x some)
        (⊎_elim (λ s. h.0 (rw s.0 at l) (rw s.0 at s.1)) (λ s. h.1 k l s.0 s.1.0 s.1.1))),
  )

  -- row 0 has no class above it
  under_met : ((own : ℕ) → ¬ (RootIllegal x own)) → NoneInherits ↔ Legal x m
  under_met never = (λ h. (inheritance_met.0 h).1, λ h. inheritance_met.1 (λ l. never (category_of (m.classes.row 0)), h))

root_met : (m : Schema) → Kept m (inheritance_rule (inheritance_number RootNotAbstract)) ↔ Met Nothing RuleName.root_not_abstract m
root_met m =
    let i = inheritance_met RootNotAbstract (omega arith) m in (
      λ h l. sure (says_eq (category_of (m.classes.row 0)) abstract) ((i.0 h).0 l),
      λ h. i.1 (λ l d. d (h l), λ k l d there ill. ill),
    )

naming_met : (m : Schema)
    → ((t : TableId) (k : ℕ) → k < (table t m).count → of_classes (λ x j. naming_wrong x.attributes (naming_of (x.classes.row j))) m t k ≡ false)
    ↔ Met Nothing RuleName.naming_unfit m
naming_met m =
    class_met m (λ x j. naming_wrong x.attributes (naming_of (x.classes.row j))) (λ k. says_naming_wrong m.attributes (naming_of (m.classes.row k))) (λ k l. (
      λ none n by there. sure (says_and (says_eq (syntax_of (m.attributes.row n)) 12) (says_test (is_single_valued (m.attributes.row n))))
          (λ wrong. none (record { attribute = n; by = by; there = there; wrong = wrong })),
      λ h bad. bad.wrong (h bad.attribute bad.by bad.there),
    ))

forward_met : (m : Schema) → ((t : TableId) (k : ℕ) → k < (table t m).count → of_attributes (λ a j. forward_missing a (a.row j)) m t k ≡ false)
    ↔ Met Nothing RuleName.link_alone m
forward_met m =
    attribute_met m (λ a j. forward_missing a (a.row j)) (λ k. says_forward_missing m.attributes (m.attributes.row k)) (λ k. (
      λ n odd. sure (says_any m.attributes.count (λ j i. says_and (says_forward (m.attributes.row k) (m.attributes.row j))
          (says_live m.attributes (m.attributes.row k) j))) (λ none. n (odd, none)),
      λ h bad. bad.1 (h bad.0),
    ))

pub kept_met : (added : Added) (m : Schema) (rule : RuleName) → Kept m (numbered (schema_rules added) (rule_number rule)) ↔ Met added rule m
unfolding numbered has_key
kept_met added m RuleName.name_invalid = (
  λ h t k l. sure (says_valid (name_of ((table t m).row k))) (says_fails (says_name_invalid ((table t m).row k)) (h t k l)),
  λ h t k l. says_false (says_name_invalid ((table t m).row k)) (λ bad. bad (h t k l)),
)
kept_met added m RuleName.name_taken = (unique_apart m Name both_names, apart_unique m Name)
kept_met added m RuleName.identifier_invalid = (
  λ h t k l. says_fails (says_identifier_invalid ((table t m).row k)) (h t k l),
  λ h t k l. says_false (says_identifier_invalid ((table t m).row k)) (h t k l),
)
kept_met added m RuleName.identifier_taken = (unique_apart m Identifier both_identifiers, apart_unique m Identifier)
kept_met added m RuleName.guid_taken = (unique_apart m Guid both_guids, apart_unique m Guid)
kept_met added m RuleName.attribute_not_live = attribute_live_met added m
kept_met added m RuleName.class_not_live = class_live_met added m
kept_met added m RuleName.not_an_auxiliary = category_met Auxiliaries m
kept_met added m RuleName.not_a_superior = category_met Superiors m
kept_met added m RuleName.root_not_abstract = root_met m
kept_met added m RuleName.abstract_under_other = under_met AbstractUnderOther (omega arith) m (λ own f. f)
kept_met added m RuleName.auxiliary_under_structural = under_met AuxiliaryUnderStructural (omega arith) m (λ own f. f)
kept_met added m RuleName.structural_under_auxiliary = under_met StructuralUnderAuxiliary (omega arith) m (λ own f. f)
kept_met added m RuleName.naming_unfit = naming_met m
kept_met added m RuleName.mapi_taken = numbers_met m Mapi refl refl mapi_of (λ a b. (λ d. d, λ d. d))
kept_met added m RuleName.range_crossed =
    attribute_met m (λ a k. range_wrong (a.row k)) (λ k. says_range_wrong (m.attributes.row k)) (λ k. (λ n. n, λ n. n))
kept_met added m RuleName.syntax_misfit =
    attribute_met m (λ a k. syntax_wrong (a.row k)) (λ k. says_syntax_wrong (m.attributes.row k))
    (λ k. decided (says_syntax_fits (syntax_of (m.attributes.row k)) (om_syntax_of (m.attributes.row k))))
kept_met added m RuleName.object_class_wrong =
    attribute_met m (λ a k. object_class_wrong (a.row k)) (λ k. says_object_class_wrong (m.attributes.row k)) (λ k. (
      λ n e. sure (says_object_class_fits (syntax_of (m.attributes.row k)) (object_class_of (m.attributes.row k))) (λ d. n (e, d)),
      λ h bad. bad.1 (h bad.0),
    ))
kept_met added m RuleName.link_taken = numbers_met m Link refl refl link_of (λ a b. (λ d. d, λ d. d))
kept_met added m RuleName.link_alone = forward_met m
kept_met added m RuleName.link_syntax_unfit =
    attribute_met m (λ a k. link_syntax_wrong (a.row k)) (λ k. says_link_syntax_wrong (m.attributes.row k)) (λ k. decided (says_link_syntax_fits (m.attributes.row k)))

-- ---- all of them

pub meets : (added : Added) (m : Schema) → AllKept added m ↔ Meets added m
meets added m = (λ h rule. (kept_met added m rule).0 (each_numbered (Kept m) (schema_rules added) h (rule_number rule) (λ t j l. refl)), from)
  where
    from : Meets added m → AllKept added m
    from h =
        let kept : (rule : RuleName) → Kept m (numbered (schema_rules added) (rule_number rule)) = λ rule. (kept_met added m rule).1 (h rule) in
        unfold numbered in
        (kept RuleName.name_invalid & kept RuleName.name_taken & kept RuleName.identifier_invalid & kept RuleName.identifier_taken & kept RuleName.guid_taken
        & kept RuleName.attribute_not_live & kept RuleName.class_not_live & kept RuleName.not_an_auxiliary & kept RuleName.not_a_superior
        & kept RuleName.root_not_abstract & kept RuleName.abstract_under_other & kept RuleName.auxiliary_under_structural
        & kept RuleName.structural_under_auxiliary & kept RuleName.naming_unfit & kept RuleName.mapi_taken & kept RuleName.range_crossed
        & kept RuleName.syntax_misfit & kept RuleName.object_class_wrong & kept RuleName.link_taken & kept RuleName.link_alone & kept RuleName.link_syntax_unfit & tt)

-- ---- "The smallest number whose condition holds", the first in the order of judging, in words

-- some row breaks a rule exactly if the rule is not met
says_broken : (m : Schema) (r : Rule) → Says (broken m r) (¬ (Kept m r))
says_broken m r = says_iff (says_or (table_breaks Attributes) (table_breaks Classes)) (to, from)
  where
    Breaks : TableId → Type 0
    Breaks t = Some (table t m).count (λ k. r.breaks m t k ≡ true)

    table_breaks : (t : TableId) → Says (breaks_in r m t) (Breaks t)
    table_breaks t = says_any (table t m).count (λ k l. says_test (r.breaks m t k))

    at : (t : TableId) → Breaks t → ¬ (Kept m r)
    at t b kept = false≢true (sym (kept t b.at b.below) ∙ b.is)

    to : Breaks Attributes ⊎ Breaks Classes → ¬ (Kept m r)
    to (inl b) = at Attributes b
    to (inr b) = at Classes b

    unbroken : ¬ (Breaks Attributes ⊎ Breaks Classes) → Kept m r
    unbroken n Attributes k l = says_false (says_test (r.breaks m Attributes k)) (λ q. n (inl (record { at = k; below = l; is = q })))
    unbroken n Classes k l = says_false (says_test (r.breaks m Classes k)) (λ q. n (inr (record { at = k; below = l; is = q })))

    from : ¬ (Kept m r) → Breaks Attributes ⊎ Breaks Classes
    from n = sure (says_or (table_breaks Attributes) (table_breaks Classes)) (λ none. n (unbroken none))

pub says_unmet : (added : Added) (m : Schema) (rule : RuleName)
    → Says (broken m (numbered (schema_rules added) (rule_number rule))) (¬ (Met added rule m))
says_unmet added m rule =
    let e = kept_met added m rule in
    says_iff (says_broken m (numbered (schema_rules added) (rule_number rule))) (λ n met. n (e.1 met), λ n kept. n (e.0 kept))

-- a rule that cannot fail is met
pub met_of : (added : Added) (m : Schema) (rule : RuleName) → ¬ (¬ (Met added rule m)) → Met added rule m
met_of added m rule n =
    (kept_met added m rule).0 (kept_of (says_split (says_broken m (numbered (schema_rules added) (rule_number rule)))))
  where
    kept_of : ((broken m (numbered (schema_rules added) (rule_number rule)) ≡ true) × ¬ (Kept m (numbered (schema_rules added) (rule_number rule))))
        ⊎ ((broken m (numbered (schema_rules added) (rule_number rule)) ≡ false) × ¬ (¬ (Kept m (numbered (schema_rules added) (rule_number rule)))))
        → Kept m (numbered (schema_rules added) (rule_number rule))
    kept_of (inl q) = absurd (n (λ met. q.1 ((kept_met added m rule).1 met)))
    kept_of (inr q) = λ t k l. says_false (says_test ((numbered (schema_rules added) (rule_number rule)).breaks m t k))
        (λ b. q.1 (λ kept. false≢true (sym (kept t k l) ∙ b)))

-- every rule of the list has a name
all_named : (added : Added) → Each (λ r. (rule : RuleName) × (rule_number rule ≡ r.number)) (schema_rules added)
all_named added =
    (RuleName.name_invalid, refl) & (RuleName.name_taken, refl) & (RuleName.identifier_invalid, refl) & (RuleName.identifier_taken, refl)
    & (RuleName.guid_taken, refl) & (RuleName.attribute_not_live, refl) & (RuleName.class_not_live, refl) & (RuleName.not_an_auxiliary, refl)
    & (RuleName.not_a_superior, refl) & (RuleName.root_not_abstract, refl) & (RuleName.abstract_under_other, refl)
    & (RuleName.auxiliary_under_structural, refl) & (RuleName.structural_under_auxiliary, refl) & (RuleName.naming_unfit, refl)
    & (RuleName.mapi_taken, refl) & (RuleName.range_crossed, refl) & (RuleName.syntax_misfit, refl) & (RuleName.object_class_wrong, refl)
    & (RuleName.link_taken, refl) & (RuleName.link_alone, refl) & (RuleName.link_syntax_unfit, refl) & tt

case_named : {n : ℕ} (test : Rule → Bool) (rs : List Rule) → Each (λ r. (rule : RuleName) × (rule_number rule ≡ r.number)) rs
    → Among n (cases_of test rs) → (rule : RuleName) × (rule_number rule ≡ n)
case_named {n = n} test mathlib.Core.List.[] h x'' = elim x'' [ ]
case_named test (r ∷ rs) h (Among.here e q) = (h.0.0, h.0.1 ∙ q)
case_named test (r ∷ rs) h (Among.there a) = case_named test rs h.1 a

module _ (added : Added) (m : Schema) where
  -- a number of the judge's cases is that of a rule that is not met
  pub among_unmet : {n : ℕ} → Among n (broken_cases (schema_rules added) m) → (rule : RuleName) × (rule_number rule ≡ n) × ¬ (Met added rule m)
  among_unmet a =
      let named = case_named (broken m) (schema_rules added) (all_named added) a in
      let picked = case_picked (broken m) (rank refusal.still_needed) (schema_rules added) (rising added (broken m)) a in
      (named.0, named.1, (says_unmet added m named.0).holds (rw named.1 picked))

  -- and a rule that is not met is among them
  pub unmet_among : (rule : RuleName) → ¬ (Met added rule m) → Among (rule_number rule) (broken_cases (schema_rules added) m)
  unmet_among rule n =
      picked_case (broken m) (rule_number rule) (schema_rules added) (none_broken m (rule_number rule)) ((says_unmet added m rule).passes n)

  -- so no rule that comes before the judge's number in the order of judging is unmet
  pub judged_before : (rule : RuleName) → ¬ (Met added rule m) → rank (judged added m).number ≤ rank (rule_number rule)
  unfolding judged
  judged_before rule n =
      omega (
        arith,
        ap rank (judge_number (schema_rules added) m),
        first_least rank (rank refusal.still_needed) (rule_number rule) (broken_cases (schema_rules added) m) (rising added (broken m))
            (unmet_among rule n),
      )

-- ---- what is met whatever was added is met where nothing was

pub meets_nothing : (added : Added) (m : Schema) → Meets added m → Meets Nothing m
meets_nothing added m h RuleName.name_invalid = h RuleName.name_invalid
meets_nothing added m h RuleName.name_taken = h RuleName.name_taken
meets_nothing added m h RuleName.identifier_invalid = h RuleName.identifier_invalid
meets_nothing added m h RuleName.identifier_taken = h RuleName.identifier_taken
meets_nothing added m h RuleName.guid_taken = h RuleName.guid_taken
meets_nothing added m h RuleName.attribute_not_live = ((h RuleName.attribute_not_live).0, tt)
meets_nothing added m h RuleName.class_not_live = let p = h RuleName.class_not_live in (p.0, p.1, tt, tt)
meets_nothing added m h RuleName.not_an_auxiliary = h RuleName.not_an_auxiliary
meets_nothing added m h RuleName.not_a_superior = h RuleName.not_a_superior
meets_nothing added m h RuleName.root_not_abstract = h RuleName.root_not_abstract
meets_nothing added m h RuleName.abstract_under_other = h RuleName.abstract_under_other
meets_nothing added m h RuleName.auxiliary_under_structural = h RuleName.auxiliary_under_structural
meets_nothing added m h RuleName.structural_under_auxiliary = h RuleName.structural_under_auxiliary
meets_nothing added m h RuleName.naming_unfit = h RuleName.naming_unfit
meets_nothing added m h RuleName.mapi_taken = h RuleName.mapi_taken
meets_nothing added m h RuleName.range_crossed = h RuleName.range_crossed
meets_nothing added m h RuleName.syntax_misfit = h RuleName.syntax_misfit
meets_nothing added m h RuleName.object_class_wrong = h RuleName.object_class_wrong
meets_nothing added m h RuleName.link_taken = h RuleName.link_taken
meets_nothing added m h RuleName.link_alone = h RuleName.link_alone
meets_nothing added m h RuleName.link_syntax_unfit = h RuleName.link_syntax_unfit
