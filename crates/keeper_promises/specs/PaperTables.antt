-- The small tables of documents 01 and 02, each value typed from the paper, as statements about the definitions that the calls are proved against;
-- `paper_tables` (PaperTablesLaws) is a member of the record. A definition that says something else contradicts a line here, whatever its own laws say.
use Rattle.std.specs.Prelude.{true, false, cond, List, [], ◌∷◌, ◌++◌, map, ◌⊎◌, ◌↔◌, ◌≡◌, ℕ, ◌+◌, ◌-◌, ◌*◌, ◌%◌, ◌≤◌, ◌<◌, ltb, length, Err}
use Prim.Native.Char.{code}
use Prim.Native.String.{String}
use Rattle.prelude.specs.Part.{zeros}
use Rattle.sets.specs.Sets.{list_below, members_from}
use Rattle.schema.specs.AttributeRow.{is_single_valued, link_of, mapi_of, object_class_of, om_syntax_of, range_lower, range_upper, syntax_of}
use Rattle.schema.specs.ClassRow.{category_of, fixed_auxiliary_of, fixed_optional_of, fixed_superior_of, mandatory_of, naming_of, open_auxiliary_of}
use Rattle.schema.specs.ClassRow.{open_optional_of, open_superior_of, superclass_of}
use Rattle.schema.specs.Layout.{row_width}
use Rattle.schema.specs.ObjectClasses.{object_class_fits}
use Rattle.schema.specs.Order.{order, rank}
use Rattle.schema.specs.Row.{arc_count, arc_of, guid_of, is_base, is_defunct, name_of, system_flags}
use Rattle.schema.specs.Store.{Schema}
use Rattle.schema.specs.declared.number.TableId.{TableId}
use Rattle.schema.specs.declared.number.TableId.TheVariants.{Attributes, Classes}
use Rattle.rows_format.specs.declared.format.Format.TheVariants.{Row}
use Rattle.rows_read.specs.ObjectClass.{read_row}
use Rattle.rows_read.specs.Reading.{Out}
use Rattle.rows_read.specs.RowRead.{Read}
use Rattle.change_read.specs.Reading.{read_change}
use Rattle.change_read.specs.ChangeRead.{ChangeRead}
use Rattle.change_rows.specs.Rows.{schema_after}
use Rattle.rules_names.specs.Name.{same_name, valid_name}
use Rattle.rules_attribute.specs.Syntax.{syntax_fits}
use Rattle.rules.specs.Rules.{breaks}
use Rattle.rules.specs.declared.row.Added.{Added}
use Rattle.keeper_promises.specs.Pieces.{class_row, classes, judged_rows, sample}
use Rattle.change_read.specs.ChangeRead as changes
use Prim.Native.String as string
use Rattle.std.specs.Prelude.{Some, None}

-- ---- texts

-- the codes of a text's characters (ASCII)
unfoldable pub text : String → List ℕ
text string.[] = []
text (string.◌∷◌ c s) = code c ∷ text s

-- the bytes that a text of hexadecimal digits stands for; 48 is the character 0, 65 is A
unfoldable pub hex_digit : ℕ → ℕ
hex_digit c = cond (ltb c 65) (c - 48) (c - 55)

unfoldable pub hex_bytes : List ℕ → List ℕ
hex_bytes [] = []
hex_bytes (a ∷ []) = []
hex_bytes (a ∷ b ∷ s) = (16 * hex_digit a + hex_digit b) ∷ hex_bytes s

abbrev pub hex : String → List ℕ
hex s = hex_bytes (text s)

-- ---- names

-- c is the small letter of the capital b: "A to Z equal to a to z". In ASCII each stands 32 behind its capital
abbrev pub SmallOf : ℕ → ℕ → Type 0
SmallOf b c = ((65 ≤ b) × (b ≤ 90)) × (c ≡ b + 32)

-- ---- categories

-- what the judge says of classes of the four categories, 88 class, structural, abstract and auxiliary, under one of a category, which itself is under the
-- abstract row 0
unfoldable pub under : ℕ → List ℕ
under above = (classes above 0).number ∷ (classes above 1).number ∷ (classes above 2).number ∷ (classes above 3).number ∷ []

-- and of row 0 by itself
unfoldable pub alone : ℕ → ℕ
alone category = (judged_rows [] (class_row (97 ∷ []) (2 ∷ 1 ∷ []) 1 category 0 ∷ [])).number

-- ---- syntaxes

-- "1:127, 2:6, 3:27, 4:20, 5:19 or 22, 6:18, 7:127, 8:1, 9:2 or 10, 10:4, 11:23 or 24, 12:64, 13:127, 14:127, 15:66, 16:65, 17:4"
pub data SyntaxPair : ℕ → ℕ → Type 0 where
  name : SyntaxPair 1 127
  identifier : SyntaxPair 2 6
  exact_string : SyntaxPair 3 27
  teletex : SyntaxPair 4 20
  printable : SyntaxPair 5 19
  ia5 : SyntaxPair 5 22
  numeric : SyntaxPair 6 18
  name_with_binary : SyntaxPair 7 127
  boolean : SyntaxPair 8 1
  integer : SyntaxPair 9 2
  enumeration : SyntaxPair 9 10
  octets : SyntaxPair 10 4
  universal_time : SyntaxPair 11 23
  general_time : SyntaxPair 11 24
  unicode : SyntaxPair 12 64
  presentation : SyntaxPair 13 127
  name_with_string : SyntaxPair 14 127
  descriptor : SyntaxPair 15 66
  large_integer : SyntaxPair 16 65
  sid : SyntaxPair 17 4

-- "1: 2B0C0287731C00854A. 7: 56060102050B1D or 2A864886F7140101010B. 13: 2B0C0287731C00855C. 14: 2B0C0287731C00853E or 2A864886F7140101010C."
pub data RightObjectClass : ℕ → List ℕ → Type 0 where
  one : RightObjectClass 1 (hex "2B0C0287731C00854A")
  seven : RightObjectClass 7 (hex "56060102050B1D")
  seven_too : RightObjectClass 7 (hex "2A864886F7140101010B")
  thirteen : RightObjectClass 13 (hex "2B0C0287731C00855C")
  fourteen : RightObjectClass 14 (hex "2B0C0287731C00853E")
  fourteen_too : RightObjectClass 14 (hex "2A864886F7140101010C")

-- document 02: "a present even linkID needs 2.5.5.1, 2.5.5.7 or 2.5.5.14, an odd one 2.5.5.1": what a present linkID leaves, divided by 2, and the syntax
pub data LinkSyntax : ℕ → ℕ → Type 0 where
  even_name : LinkSyntax 0 1
  even_name_with_binary : LinkSyntax 0 7
  even_name_with_string : LinkSyntax 0 14
  odd_name : LinkSyntax 1 1

-- l is at most u as signed numbers of 32 bits in two's complement: from 0x80000000 on they are negative
abbrev pub SignedAtMost : ℕ → ℕ → Type 0
SignedAtMost l u = ((0x80000000 ≤ l) × (u < 0x80000000)) ⊎ ((l ≤ u) × ((u < 0x80000000) ⊎ (0x80000000 ≤ l)))

-- ---- fields

-- "one byte tag, two bytes length, value", of fewer than 256 bytes
abbrev pub field : ℕ → List ℕ → List ℕ
field tag value = tag ∷ 0 ∷ length value ∷ value

-- the name `ab`, the identifier 2.5, a GUID, systemFlags 0x01020304, defunct
unfoldable pub common_fields : List ℕ
common_fields =
    field 0x01 (text "ab")
    ++ (field 0x02 (hex "0000000200000005") ++ (field 0x03 (hex "000102030405060708090A0B0C0D0E0F") ++ (field 0x04 (hex "01020304") ++ field 0x05 [])))

-- a value read as a row of a table, into zeros
unfoldable pub row_read : TableId → List ℕ → Out
row_read t v = read_row (Row t) v 0 (length v) (zeros (row_width t))

-- a class row whose sets each hold the number of their tag; an attribute row with all fields
unfoldable pub class_fields : List ℕ
class_fields =
    common_fields
    ++ (field 0x10 (3 ∷ []) ++ (field 0x11 (0 ∷ 0x11 ∷ []) ++ (field 0x12 (0 ∷ 0x12 ∷ []) ++ (field 0x13 (0 ∷ 0x13 ∷ []) ++ (field 0x14 (0 ∷ 0x14 ∷ [])
    ++ (field 0x15 (0 ∷ 0x15 ∷ []) ++ (field 0x16 (0 ∷ 0x16 ∷ []) ++ (field 0x17 (0 ∷ 0x17 ∷ []) ++ (field 0x18 (0 ∷ 0x18 ∷ [])
    ++ field 0x19 (0 ∷ 0x19 ∷ []))))))))))

unfoldable pub attribute_fields : List ℕ
attribute_fields =
    common_fields
    ++ (field 0x06 (7 ∷ []) ++ (field 0x07 (127 ∷ []) ++ (field 0x08 (hex "2A864886F7140101010B") ++ (field 0x09 []
    ++ (field 0x0A (hex "0000000A") ++ (field 0x0B (hex "0000000B") ++ (field 0x0C (hex "0000000C") ++ field 0x0D (hex "0000000D"))))))))

-- what is stored as oMObjectClass of a row with a syntax and oMSyntax, and what stands behind these
unfoldable pub stored_class : ℕ → ℕ → List ℕ → List ℕ
stored_class syntax omSyntax behind =
    object_class_of (row_read Attributes (common_fields ++ (field 0x06 (syntax ∷ []) ++ (field 0x07 (omSyntax ∷ []) ++ behind)))).row

-- the seven sets of a class row, in the paper's order: "mandatory; fixed and open optional; fixed and open auxiliary; fixed and open possible superiors"
unfoldable pub seven_sets : List ℕ → List (List ℕ)
seven_sets row =
    members_from 0 (mandatory_of row)
    ∷ members_from 0 (fixed_optional_of row)
    ∷ members_from 0 (open_optional_of row)
    ∷ members_from 0 (fixed_auxiliary_of row)
    ∷ members_from 0 (open_auxiliary_of row)
    ∷ members_from 0 (fixed_superior_of row)
    ∷ members_from 0 (open_superior_of row)
    ∷ []

-- ---- changes

-- a schema after the change that these bytes are read as, were it accepted
unfoldable pub made_by : ChangeRead → List ℕ → Schema → Schema
made_by (changes.Read change) r m = schema_after change r m
made_by (Err bad) r m = m

unfoldable pub changed_by : List ℕ → Schema → Schema
changed_by x m = made_by (read_change x).answer (read_change x).row m

-- 49 or 4A, of class 1: the list by its tag, and the entry
abbrev pub entry_change : ℕ → ℕ → ℕ → List ℕ
entry_change tag list entry = field tag (field 0x20 (0 ∷ 1 ∷ []) ++ (field 0x21 (list ∷ []) ++ field 0x22 (0 ∷ entry ∷ [])))

-- class 1 of the sample schema, which demands attribute 0, after an entry was added, and after it was removed again
unfoldable pub entered : ℕ → ℕ → List (List ℕ)
entered list entry = seven_sets ((changed_by (entry_change 0x49 list entry) (sample 1)).classes.row 1)

unfoldable pub removed : ℕ → ℕ → List (List ℕ)
removed list entry = seven_sets ((changed_by (entry_change 0x4A list entry) (changed_by (entry_change 0x49 list entry) (sample 1))).classes.row 1)

-- ---- the tables

-- 12, 13: "a letter, then letters, digits or hyphens (ASCII)"; "A to Z equal to a to z"
pub record NameTables : Type 0 where
  -- of all bytes, those that a name may begin with, and those that may follow
  pub begins : list_below 256 (λ b. valid_name (b ∷ [])) ≡ text "ABCDEFGHIJKLMNOPQRSTUVWXYZabcdefghijklmnopqrstuvwxyz"
  pub goes_on : list_below 256 (λ b. valid_name (97 ∷ b ∷ [])) ≡ text "-0123456789ABCDEFGHIJKLMNOPQRSTUVWXYZabcdefghijklmnopqrstuvwxyz"
  -- each letter is equal to the other of its two cases, and of any two bytes nothing else but the same
  pub alphabets : same_name (text "ABCDEFGHIJKLMNOPQRSTUVWXYZ") (text "abcdefghijklmnopqrstuvwxyz") ≡ true
  pub letters_same : (b c : ℕ) → (same_name (b ∷ []) (c ∷ []) ≡ true) ↔ ((b ≡ c) ⊎ (SmallOf b c ⊎ SmallOf c b))

-- "21 keeps 'row 0 not abstract', 38 is abstract under another kind, 39 auxiliary under structural, 40 structural under auxiliary"; "All else is legal."
pub record CategoryTable : Type 0 where
  pub under_88 : under 0 ≡ 0 ∷ 0 ∷ 38 ∷ 0 ∷ []
  pub under_structural : under 1 ≡ 0 ∷ 0 ∷ 38 ∷ 39 ∷ []
  pub under_abstract : under 2 ≡ 0 ∷ 0 ∷ 0 ∷ 0 ∷ []
  pub under_auxiliary : under 3 ≡ 0 ∷ 40 ∷ 38 ∷ 0 ∷ []
  pub row_zero : (alone 0 ∷ alone 1 ∷ alone 2 ∷ alone 3 ∷ []) ≡ 21 ∷ 21 ∷ 0 ∷ 21 ∷ []

-- class k is not row 0, its superclass has a row, and the categories of the two are so
abbrev pub UnderClass : Schema → ℕ → (ℕ → ℕ → Type 0) → Type 0
UnderClass m k Are =
    ¬ (k ≡ 0)
    × ((superclass_of (m.classes.row k) < m.classes.count)
    × Are (category_of (m.classes.row k)) (category_of (m.classes.row (superclass_of (m.classes.row k)))))

-- the same four of any class k, active or defunct, whatever a change has added: `breaks` is the rule of that number in the list. No attribute breaks them
pub record InheritanceRules (added : Added) (m : Schema) (k : ℕ) : Type 0 where
  pub root : (breaks added m 21 Classes k ≡ true) ↔ ((k ≡ 0) × ¬ (category_of (m.classes.row k) ≡ 2))
  pub abstract : (breaks added m 38 Classes k ≡ true) ↔ UnderClass m k (λ own above. (own ≡ 2) × ¬ (above ≡ 2))
  pub auxiliary : (breaks added m 39 Classes k ≡ true) ↔ UnderClass m k (λ own above. (own ≡ 3) × (above ≡ 1))
  pub structural : (breaks added m 40 Classes k ≡ true) ↔ UnderClass m k (λ own above. (own ≡ 1) × (above ≡ 3))
  pub no_attribute : map (λ n. breaks added m n Attributes k) (21 ∷ 38 ∷ 39 ∷ 40 ∷ []) ≡ false ∷ false ∷ false ∷ false ∷ []

-- "Rule 25 shall hold only where rangeLower is greater than rangeUpper": of any attribute k, active or defunct, and ends of 32 bits. No class breaks it
pub record RangeRule (added : Added) (m : Schema) (k : ℕ) : Type 0 where
  pub ends : (l u : ℕ) → l < 0x100000000 → u < 0x100000000 → range_lower (m.attributes.row k) ≡ Some l → range_upper (m.attributes.row k) ≡ Some u
      → (breaks added m 25 Attributes k ≡ false) ↔ SignedAtMost l u
  pub no_lower : range_lower (m.attributes.row k) ≡ None → breaks added m 25 Attributes k ≡ false
  pub no_upper : range_upper (m.attributes.row k) ≡ None → breaks added m 25 Attributes k ≡ false
  pub no_class : breaks added m 25 Classes k ≡ false

-- 45: exactly these syntaxes, of any present linkID; where it is absent, any. "It binds all rows": any attribute k, active or defunct. No class breaks it
pub record LinkRule (added : Added) (m : Schema) (k : ℕ) : Type 0 where
  pub present : ¬ (link_of (m.attributes.row k) ≡ 0)
      → (breaks added m 45 Attributes k ≡ false) ↔ LinkSyntax (link_of (m.attributes.row k) % 2) (syntax_of (m.attributes.row k))
  pub absent : link_of (m.attributes.row k) ≡ 0 → breaks added m 45 Attributes k ≡ false
  pub no_class : breaks added m 45 Classes k ≡ false

-- "Absent, the first is stored. With any other oMSyntax it is read and dropped."
pub record DefaultTable : Type 0 where
  pub absent : (stored_class 1 127 [] ∷ stored_class 7 127 [] ∷ stored_class 13 127 [] ∷ stored_class 14 127 [] ∷ [])
      ≡ hex "2B0C0287731C00854A" ∷ hex "56060102050B1D" ∷ hex "2B0C0287731C00855C" ∷ hex "2B0C0287731C00853E" ∷ []
  pub kept : stored_class 7 127 (field 0x08 (hex "2A864886F7140101010B")) ≡ hex "2A864886F7140101010B"
  pub dropped : (stored_class 7 126 (field 0x08 (hex "56060102050B1D")) ∷ stored_class 7 128 (field 0x08 (hex "56060102050B1D")) ∷ []) ≡ [] ∷ [] ∷ []

-- which field fills which cell: "01 name, 02 arcs (4 bytes each), 03 GUID, 04 systemFlags; 05 defunct"
pub record CommonCells (row : List ℕ) : Type 0 where
  pub name : name_of row ≡ text "ab"
  pub arcs : (arc_count row ∷ arc_of row 0 ∷ arc_of row 1 ∷ []) ≡ 2 ∷ 2 ∷ 5 ∷ []
  pub guid : guid_of row ≡ hex "000102030405060708090A0B0C0D0E0F"
  pub flags : system_flags row ≡ 0x01020304
  pub defunct : is_defunct row ≡ true

-- "06 syntax, 07 oMSyntax .. 08 oMObjectClass .., 09 single-valued .., 0A and 0B ranges, 0C linkID, 0D mAPIID"
pub record AttributeCells (row : List ℕ) : Type 0 where
  pub common : CommonCells row
  pub syntaxes : (syntax_of row ∷ om_syntax_of row ∷ []) ≡ 7 ∷ 127 ∷ []
  pub object_class : object_class_of row ≡ hex "2A864886F7140101010B"
  pub single : is_single_valued row ≡ true
  pub lower : range_lower row ≡ Some 0x0A
  pub upper : range_upper row ≡ Some 0x0B
  pub links : (link_of row ∷ mapi_of row ∷ []) ≡ 0x0C ∷ 0x0D ∷ []

-- "10 category, 11 superclass; optional 12 rDNAttID, 13 to 19 the seven sets in the order above"
pub record ClassCells (row : List ℕ) : Type 0 where
  pub common : CommonCells row
  pub category : category_of row ≡ 3
  pub superclass : superclass_of row ≡ 0x11
  pub naming : naming_of row ≡ Some (record { 0 = 0x12 })
  pub sets : seven_sets row ≡ (0x13 ∷ []) ∷ (0x14 ∷ []) ∷ (0x15 ∷ []) ∷ (0x16 ∷ []) ∷ (0x17 ∷ []) ∷ (0x18 ∷ []) ∷ (0x19 ∷ []) ∷ []

-- "21 (one byte: 15, 17, 19)": attribute 1 becomes optional, class 2 auxiliary, class 1 a possible superior, each in the open list alone; 4A takes it out
-- of the same
pub record ChangeLists : Type 0 where
  pub optional : entered 0x15 1 ≡ (0 ∷ []) ∷ [] ∷ (1 ∷ []) ∷ [] ∷ [] ∷ [] ∷ [] ∷ []
  pub auxiliary : entered 0x17 2 ≡ (0 ∷ []) ∷ [] ∷ [] ∷ [] ∷ (2 ∷ []) ∷ [] ∷ [] ∷ []
  pub superior : entered 0x19 1 ≡ (0 ∷ []) ∷ [] ∷ [] ∷ [] ∷ [] ∷ [] ∷ (1 ∷ []) ∷ []
  pub optional_back : removed 0x15 1 ≡ (0 ∷ []) ∷ [] ∷ [] ∷ [] ∷ [] ∷ [] ∷ [] ∷ []
  pub auxiliary_back : removed 0x17 2 ≡ (0 ∷ []) ∷ [] ∷ [] ∷ [] ∷ [] ∷ [] ∷ [] ∷ []
  pub superior_back : removed 0x19 1 ≡ (0 ∷ []) ∷ [] ∷ [] ∷ [] ∷ [] ∷ [] ∷ [] ∷ []

pub record PaperTables : Type 0 where
  -- "The smallest number whose condition holds."; 38, 39, 40 "stand at 21's place in the order, in the order given here, though their numbers are higher.
  -- Demand 2's smallest is the first in this order"; "45, a schema rule after 29"
  pub judging : order
      ≡ 0 ∷ 1 ∷ 2 ∷ 3 ∷ 4 ∷ 5 ∷ 6 ∷ 7 ∷ 8 ∷ 9 ∷ 10 ∷ 11 ∷ 12 ∷ 13 ∷ 14 ∷ 15 ∷ 16 ∷ 17 ∷ 18 ∷ 19 ∷ 20 ∷ 21 ∷ 38 ∷ 39 ∷ 40 ∷ 23 ∷ 24 ∷ 25 ∷ 26 ∷ 27 ∷ 28 ∷ 29 ∷ 45
      ∷ 30 ∷ 31 ∷ []
  -- and this is the rank by which every promise compares two numbers; 22 has none, since "The number is not used again."
  pub ranks : map rank order
      ≡ 0 ∷ 1 ∷ 2 ∷ 3 ∷ 4 ∷ 5 ∷ 6 ∷ 7 ∷ 8 ∷ 9 ∷ 10 ∷ 11 ∷ 12 ∷ 13 ∷ 14 ∷ 15 ∷ 16 ∷ 17 ∷ 18 ∷ 19 ∷ 20 ∷ 21 ∷ 22 ∷ 23 ∷ 24 ∷ 25 ∷ 26 ∷ 27 ∷ 28 ∷ 29 ∷ 30 ∷ 31 ∷ 32
      ∷ 33 ∷ 34 ∷ []
  pub unused : rank 22 ≡ length order
  pub names : NameTables
  pub categories : CategoryTable
  pub inheritance_rules : (added : Added) (m : Schema) (k : ℕ) → InheritanceRules added m k
  -- 26: exactly these pairs, of any two numbers; 27: exactly these values, of any bytes
  pub syntax_pairs_lem : (syntax omSyntax : ℕ) → (syntax_fits syntax omSyntax ≡ true) ↔ SyntaxPair syntax omSyntax
  pub object_classes_lem : (syntax : ℕ) (value : List ℕ) → (object_class_fits syntax value ≡ true) ↔ RightObjectClass syntax value
  pub defaults : DefaultTable
  pub range_rule : (added : Added) (m : Schema) (k : ℕ) → RangeRule added m k
  pub link_rule : (added : Added) (m : Schema) (k : ℕ) → LinkRule added m k
  -- "A row is a *base row* if systemFlags has 0x10"
  pub base_bit : (row : List ℕ) (high bit low : ℕ) → low < 0x10 → bit < 2 → system_flags row ≡ high * 0x20 + bit * 0x10 + low
      → (is_base row ≡ true) ↔ (bit ≡ 1)
  pub attribute_read_lem : (row_read Attributes attribute_fields).answer ≡ Read
  pub attribute_cells : AttributeCells (row_read Attributes attribute_fields).row
  pub class_read_lem : (row_read Classes class_fields).answer ≡ Read
  pub class_cells : ClassCells (row_read Classes class_fields).row
  pub change_lists : ChangeLists
