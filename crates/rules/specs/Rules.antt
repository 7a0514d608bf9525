-- The schema rules, each once: its number, and which rows break it. The order of the list is the order of judging. Document 02: "rules 12 to 29, wherever
-- these papers name them, include" 38, 39 and 40, and of 45: "Wherever these papers name rules 12 to 29, it is meant too." So it is wherever this project
-- names them. 22 is none of them: where 18 is met every chain of superclasses ends (rules_class/ChainLaws), and "The number is not used again."
use Rattle.std.specs.Prelude.{Bool, false, cond, not, ◌&&◌, ◌||◌, List, [], ◌∷◌, ℕ, eqb}
use Rattle.prelude.specs.First.{Case, ◌when◌}
use Rattle.schema.specs.declared.number.TableId.{TableId}
use Rattle.schema.specs.declared.number.TableId.TheVariants.{Attributes, Classes}
use Rattle.schema.specs.Numbers.{same_table}
use Rattle.schema.specs.ClassRow.{naming_of}
use Rattle.schema.specs.Store.{Table, Schema, table}
use Rattle.tables.specs.Live.{live}
use Rattle.tables.specs.declared.named.ClassList.TheVariants.{Auxiliaries, Superiors}
use Rattle.rules_names.specs.Name.{name_invalid, identifier_invalid}
use Rattle.rules_unique.specs.declared.Key.TheVariants.{Name, Identifier, Guid, Mapi, Link}
use Rattle.rules_unique.specs.Unique.{every_row, taken}
use Rattle.rules_attribute.specs.Range.{range_wrong}
use Rattle.rules_attribute.specs.Syntax.{syntax_wrong, object_class_wrong}
use Rattle.rules_attribute.specs.Links.{forward_missing, link_syntax_wrong}
use Rattle.rules_class.specs.Live.{not_live, class_wrong, lists_itself, naming_wrong}
use Rattle.rules_class.specs.Category.{category_wrong, inheritance_wrong}
use Rattle.rules.specs.declared.row.Added.{Added}
use Rattle.rules.specs.declared.row.Added.TheVariants.{Nothing, Class, Entry}
use Rattle.schema.specs.Refusals as refusal

-- a rule: its number, and whether row k of a table of a schema breaks it
pub record Rule : Type 0 where
  pub number : ℕ
  pub breaks : Schema → TableId → ℕ → Bool

abbrev pub rule : ℕ → (Schema → TableId → ℕ → Bool) → Rule
rule n breaks = record { number = n; breaks = breaks }

-- a rule of any row by itself; of attributes only; of classes only
abbrev pub of_rows : (List ℕ → Bool) → Schema → TableId → ℕ → Bool
of_rows test m t k = test ((table t m).row k)

abbrev pub of_attributes : (Table → ℕ → Bool) → Schema → TableId → ℕ → Bool
of_attributes test m Attributes k = test m.attributes k
of_attributes test m Classes k = false

abbrev pub of_classes : (Schema → ℕ → Bool) → Schema → TableId → ℕ → Bool
of_classes test m Attributes k = false
of_classes test m Classes k = test m k

-- "No list of an added class may hold its own number": it binds the class that was added alone
unfoldable pub barred : Added → Table → ℕ → Bool
barred Nothing c k = false
barred (Class a) c k = eqb a.0 k && lists_itself c k
barred (Entry a t n) c k = false

-- "22, the entry, any u16, absent rows counting as not live": the entry that was added to a list of class k names row n of a table, also where no set can
-- hold n
unfoldable pub entry_dead : Added → TableId → Table → List ℕ → ℕ → Bool
entry_dead Nothing u t row k = false
entry_dead (Class a) u t row k = false
entry_dead (Entry a of n) u t row k = eqb a.0 k && (same_table of u && not (live t row n))

-- "17 A named attribute not live."
unfoldable pub attribute_not_live : Added → Schema → ℕ → Bool
attribute_not_live added m k =
    not_live Attributes m.attributes (m.classes.row k) || entry_dead added Attributes m.attributes (m.classes.row k) k

-- "18 A named class not live, or a superclass that isn't earlier .. No list of an added class may hold its own number"
unfoldable pub class_not_live : Added → Table → ℕ → Bool
class_not_live added c k = class_wrong c k || (barred added c k || entry_dead added Classes c (c.row k) k)

-- 21, 38, 39 and 40 on a class and its superclass: "The small check answers which, and all who call it pass that on."
abbrev pub inheritance_rule : ℕ → Rule
inheritance_rule n = rule n (of_classes (λ m k. inheritance_wrong n m.classes k))

-- "12 to 29 schema rules below". "All rules bind defunct rows too." 38 to 40 "stand at 21's place in the order"; "45, a schema rule after 29"
abbrev pub schema_rules : Added → List Rule
schema_rules added =
    rule refusal.name_invalid (of_rows name_invalid)
    ∷ rule refusal.name_taken (taken every_row Name)
    ∷ rule refusal.identifier_invalid (of_rows identifier_invalid)
    ∷ rule refusal.identifier_taken (taken every_row Identifier)
    ∷ rule refusal.guid_taken (taken every_row Guid)
    ∷ rule refusal.attribute_not_live (of_classes (attribute_not_live added))
    ∷ rule refusal.class_not_live (of_classes (λ m k. class_not_live added m.classes k))
    ∷ rule refusal.not_an_auxiliary (of_classes (λ m k. category_wrong Auxiliaries m.classes (m.classes.row k)))
    ∷ rule refusal.not_a_superior (of_classes (λ m k. category_wrong Superiors m.classes (m.classes.row k)))
    ∷ inheritance_rule refusal.root_not_abstract
    ∷ inheritance_rule refusal.abstract_under_other
    ∷ inheritance_rule refusal.auxiliary_under_structural
    ∷ inheritance_rule refusal.structural_under_auxiliary
    ∷ rule refusal.naming_unfit (of_classes (λ m k. naming_wrong m.attributes (naming_of (m.classes.row k))))
    ∷ rule refusal.mapi_taken (taken every_row Mapi)
    ∷ rule refusal.range_crossed (of_attributes (λ a k. range_wrong (a.row k)))
    ∷ rule refusal.syntax_misfit (of_attributes (λ a k. syntax_wrong (a.row k)))
    ∷ rule refusal.object_class_wrong (of_attributes (λ a k. object_class_wrong (a.row k)))
    ∷ rule refusal.link_taken (taken every_row Link)
    ∷ rule refusal.link_alone (of_attributes (λ a k. forward_missing a (a.row k)))
    ∷ rule refusal.link_syntax_unfit (of_attributes (λ a k. link_syntax_wrong (a.row k)))
    ∷ []

-- ---- by number

-- a rule that no row breaks
abbrev pub no_rule : ℕ → Rule
no_rule n = rule n (λ m t k. false)

-- the rule of a number, and one that no row breaks where the list has none
unfoldable pub numbered : List Rule → ℕ → Rule
numbered [] n = no_rule n
numbered (r ∷ rs) n = cond (eqb r.number n) r (numbered rs n)

-- the rules of some numbers, in that order
abbrev pub rules_of : List Rule → List ℕ → List Rule
rules_of rs [] = []
rules_of rs (n ∷ ns) = numbered rs n ∷ rules_of rs ns

-- row k of table t breaks the schema rule of a number
abbrev pub breaks : Added → Schema → ℕ → TableId → ℕ → Bool
breaks added m n t k = (numbered (schema_rules added) n).breaks m t k

-- the rules that bind rows of both tables, or compare rows by a key: from the last to the first
abbrev pub common_numbers : List ℕ
common_numbers =
    refusal.link_taken ∷ refusal.mapi_taken ∷ refusal.guid_taken ∷ refusal.identifier_taken ∷ refusal.identifier_invalid ∷ refusal.name_taken ∷
    refusal.name_invalid ∷ []

-- ---- as cases

-- rules as cases: the first that a test picks
abbrev pub cases_of : (Rule → Bool) → List Rule → List Case
cases_of test [] = []
cases_of test (r ∷ rs) = (r.number when test r) ∷ cases_of test rs

-- the rules that one row breaks
abbrev pub row_cases : List Rule → Schema → TableId → ℕ → List Case
row_cases rs m t k = cases_of (λ r. r.breaks m t k) rs

-- ---- what holds of each rule of a list

abbrev pub Each : (Rule → Type 0) → List Rule → Type 0
Each P [] = Unit {0}
Each P (r ∷ rs) = P r × Each P rs

-- one after the other
infixr 30 ◌&◌
abbrev pub ◌&◌ : {A B : Type 0} → A → B → A × B
a & b = (a, b)
