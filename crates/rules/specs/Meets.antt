-- "Meets every rule" of documents 01 and 02, rule by rule, of names, numbers, sets and rows. It says the same as the list of tests (`MeetsLaws`).
use Rattle.std.specs.Prelude.{List, ◌⊎◌, ◌≡◌, ℕ, ◌<◌, ◌%◌}
use Rattle.prelude.specs.Below.{Some}
use Rattle.schema.specs.declared.number.TableId.{TableId}
use Rattle.schema.specs.declared.number.TableId.TheVariants.{Attributes, Classes}
use Rattle.schema.specs.Numbers.{class_limit, limit, SameRow}
use Rattle.schema.specs.Row.{name_of, identifier_of, guid_of}
use Rattle.schema.specs.AttributeRow.{syntax_of, om_syntax_of, object_class_of, range_lower, range_upper, link_of, mapi_of}
use Rattle.schema.specs.ClassRow.{category_of, superclass_of, naming_of}
use Rattle.schema.specs.ObjectClasses.{ObjectClassFits}
use Rattle.schema.specs.Store.{Schema, table}
use Rattle.tables.specs.Live.{Live}
use Rattle.tables.specs.Named.{Names, Lists}
use Rattle.tables.specs.declared.named.ClassList.{ClassList}
use Rattle.tables.specs.declared.named.ClassList.TheVariants.{Auxiliaries, Superiors}
use Rattle.rules_names.specs.Name.{ValidName, SameName, IdentifierInvalid}
use Rattle.rules_attribute.specs.Range.{EndsCrossed}
use Rattle.rules_attribute.specs.Syntax.{SyntaxFits}
use Rattle.rules_attribute.specs.Links.{ForwardOf, LinkSyntaxFits}
use Rattle.rules_class.specs.Live.{SuperclassEarly, CanName}
use Rattle.rules_class.specs.Category.{class88, abstract, list_category, inheritance_number, Illegal}
use Rattle.rules_class.specs.declared.category.Inheritance.{Inheritance}
use Rattle.rules_class.specs.declared.category.Inheritance.TheVariants.{RootNotAbstract, AbstractUnderOther, AuxiliaryUnderStructural}
use Rattle.rules_class.specs.declared.category.Inheritance.TheVariants.{StructuralUnderAuxiliary}
use Rattle.rules.specs.declared.row.Added.{Added}
use Rattle.rules.specs.declared.row.Added.TheVariants.{Nothing, Class, Entry}
use Rattle.schema.specs.Refusals as refusal
use Rattle.std.specs.declared.option.Option.TheVariants as option

-- no two rows agree in something
abbrev pub Apart : Schema → (List ℕ → List ℕ → Type 0) → Type 0
Apart m Agree =
    (t : TableId) (k : ℕ) → k < (table t m).count → (u : TableId) (j : ℕ) → j < (table u m).count → Agree ((table t m).row k) ((table u m).row j)
    → SameRow t k u j

-- no two attributes have the same number, where it is present
abbrev pub NumbersApart : Schema → (List ℕ → ℕ) → Type 0
NumbersApart m number =
    (k : ℕ) → k < m.attributes.count → (j : ℕ) → j < m.attributes.count → ¬ (number (m.attributes.row k) ≡ 0)
    → number (m.attributes.row k) ≡ number (m.attributes.row j) → k ≡ j

-- the rules by name
pub data RuleName : Type 0 where
  name_invalid name_taken identifier_invalid identifier_taken guid_taken attribute_not_live class_not_live not_an_auxiliary not_a_superior : RuleName
  root_not_abstract abstract_under_other auxiliary_under_structural structural_under_auxiliary : RuleName
  naming_unfit mapi_taken range_crossed syntax_misfit object_class_wrong link_taken link_alone link_syntax_unfit : RuleName

abbrev pub rule_number : RuleName → ℕ
rule_number name_invalid = refusal.name_invalid
rule_number name_taken = refusal.name_taken
rule_number identifier_invalid = refusal.identifier_invalid
rule_number identifier_taken = refusal.identifier_taken
rule_number guid_taken = refusal.guid_taken
rule_number attribute_not_live = refusal.attribute_not_live
rule_number class_not_live = refusal.class_not_live
rule_number not_an_auxiliary = refusal.not_an_auxiliary
rule_number not_a_superior = refusal.not_a_superior
rule_number root_not_abstract = inheritance_number RootNotAbstract
rule_number abstract_under_other = inheritance_number AbstractUnderOther
rule_number auxiliary_under_structural = inheritance_number AuxiliaryUnderStructural
rule_number structural_under_auxiliary = inheritance_number StructuralUnderAuxiliary
rule_number naming_unfit = refusal.naming_unfit
rule_number mapi_taken = refusal.mapi_taken
rule_number range_crossed = refusal.range_crossed
rule_number syntax_misfit = refusal.syntax_misfit
rule_number object_class_wrong = refusal.object_class_wrong
rule_number link_taken = refusal.link_taken
rule_number link_alone = refusal.link_alone
rule_number link_syntax_unfit = refusal.link_syntax_unfit

-- what a class names in a table is there, and active if the class is
abbrev pub NamedLive : TableId → Schema → Type 0
NamedLive t m =
    (k : ℕ) → k < m.classes.count → (n : ℕ) → n < limit t → Names t (m.classes.row k) n → Live (table t m) (m.classes.row k) n

-- so is the entry that was added to a list of a class, whether or not the list's set can hold it
abbrev pub EntryLive : Added → TableId → Schema → Type 0
EntryLive Nothing t m = Unit {0}
EntryLive (Class a) t m = Unit {0}
EntryLive (Entry a of n) t m = a.0 < m.classes.count → of ≡ t → Live (table t m) (m.classes.row a.0) n

-- "No list of an added class may hold its own number"
abbrev pub NotItself : Added → Schema → Type 0
NotItself Nothing m = Unit {0}
NotItself (Class a) m = a.0 < m.classes.count → (kind : ClassList) → ¬ (Lists kind (m.classes.row a.0) a.0)
NotItself (Entry a of n) m = Unit {0}

-- what a list of classes holds is of category 0, or of the list's own: 3 for auxiliaries, 1 for possible superiors
abbrev pub Fitting : ClassList → Schema → Type 0
Fitting kind m =
    (k : ℕ) → k < m.classes.count → (n : ℕ) → n < class_limit → Lists kind (m.classes.row k) n → n < m.classes.count
    → (category_of (m.classes.row n) ≡ class88) ⊎ (category_of (m.classes.row n) ≡ list_category kind)

-- no class is illegal under its superclass in one of the ways of 38, 39 and 40
abbrev pub Legal : Inheritance → Schema → Type 0
Legal x m =
    (k : ℕ) → k < m.classes.count → ¬ (k ≡ 0) → superclass_of (m.classes.row k) < m.classes.count
    → ¬ (Illegal x (category_of (m.classes.row k)) (category_of (m.classes.row (superclass_of (m.classes.row k)))))

-- each rule
abbrev pub Met : Added → RuleName → Schema → Type 0
-- 12 every name is valid; 13 no two rows have one name but for case
Met added name_invalid m = (t : TableId) (k : ℕ) → k < (table t m).count → ValidName (name_of ((table t m).row k))
Met added name_taken m = Apart m (λ a b. SameName (name_of a) (name_of b))
-- 14 every identifier is valid; 15 no two rows have one, 16 nor one GUID
Met added identifier_invalid m = (t : TableId) (k : ℕ) → k < (table t m).count → ¬ (IdentifierInvalid ((table t m).row k))
Met added identifier_taken m = Apart m (λ a b. identifier_of a ≡ identifier_of b)
Met added guid_taken m = Apart m (λ a b. guid_of a ≡ guid_of b)
-- 17, 18 what a class names is live; 18 its superclass is earlier, row 0's is row 0
Met added attribute_not_live m = NamedLive Attributes m × EntryLive added Attributes m
Met added class_not_live m =
    NamedLive Classes m × ((k : ℕ) → k < m.classes.count → SuperclassEarly k (m.classes.row k)) × NotItself added m × EntryLive added Classes m
-- 19, 20
Met added not_an_auxiliary m = Fitting Auxiliaries m
Met added not_a_superior m = Fitting Superiors m
-- 21 row 0 is abstract; 38 no class is abstract under another kind, 39 auxiliary under structural, 40 structural under auxiliary
Met added root_not_abstract m = 0 < m.classes.count → category_of (m.classes.row 0) ≡ abstract
Met added abstract_under_other m = Legal AbstractUnderOther m
Met added auxiliary_under_structural m = Legal AuxiliaryUnderStructural m
Met added structural_under_auxiliary m = Legal StructuralUnderAuxiliary m
-- 23 a naming attribute that is there can name
Met added naming_unfit m = (k : ℕ) → k < m.classes.count → (n : ℕ) → naming_of (m.classes.row k) ≡ option.Some (record { 0 = n }) → n < m.attributes.count
    → CanName (m.attributes.row n)
-- 24 no two attributes have one mAPIID
Met added mapi_taken m = NumbersApart m mapi_of
-- 25 no range has its ends crossed
Met added range_crossed m = (k : ℕ) → k < m.attributes.count → ¬ (EndsCrossed (range_lower (m.attributes.row k)) (range_upper (m.attributes.row k)))
-- 26 syntax and oMSyntax match; 27 with oMSyntax 127 oMObjectClass is one of its syntax's
Met added syntax_misfit m = (k : ℕ) → k < m.attributes.count → SyntaxFits (syntax_of (m.attributes.row k)) (om_syntax_of (m.attributes.row k))
Met added object_class_wrong m = (k : ℕ) → k < m.attributes.count → om_syntax_of (m.attributes.row k) ≡ 127
    → ObjectClassFits (syntax_of (m.attributes.row k)) (object_class_of (m.attributes.row k))
-- 28 no two attributes have one linkID
Met added link_taken m = NumbersApart m link_of
-- 29 an odd linkID has the holder of the number one less, live for it
Met added link_alone m = (k : ℕ) → k < m.attributes.count → link_of (m.attributes.row k) % 2 ≡ 1
    → Some m.attributes.count (λ j. ForwardOf (m.attributes.row k) (m.attributes.row j) × Live m.attributes (m.attributes.row k) j)
-- 45 an even linkID has syntax 1, 7 or 14, an odd one 1
Met added link_syntax_unfit m = (k : ℕ) → k < m.attributes.count → LinkSyntaxFits (m.attributes.row k)

-- all of them, given what a change has added
abbrev pub Meets : Added → Schema → Type 0
Meets added m = (rule : RuleName) → Met added rule m
