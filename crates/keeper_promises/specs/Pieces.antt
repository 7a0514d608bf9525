-- The test pieces of document 01, P1 to P12, P4, P6 and P8 as document 02 has them, and pieces of its own, as one list of statements about the
-- definitions; `pieces` (PiecesLaws) is a member of it. P1 to P8 are whole schemas that the judge looks at, P10 to P12 changes of a schema by the model;
-- "pass" is 0.
use Rattle.std.specs.Prelude.{true, List, [], ◌∷◌, ◌++◌, ◌≡◌, ℕ, ◌+◌, ◌<◌, length}
use Rattle.prelude.specs.Part.{zeros, padded, splice}
use Rattle.prelude.specs.BigEndian.{big_endian_bytes}
use Rattle.schema.specs.Layout.{mandatory_at, object_class_at, attribute_set, name_limit, object_class_limit}
use Rattle.schema.specs.declared.answer.Answer.{Answer}
use Rattle.schema.specs.declared.number.TableId.TheVariants.{Attributes, Classes}
use Rattle.schema.specs.Answers.{broken_by}
use Rattle.schema.specs.Store.{Schema, Table, schema}
use Rattle.tables.specs.Named.{lists}
use Rattle.tables.specs.declared.named.ClassList.TheVariants.{Auxiliaries}
use Rattle.tables.specs.Filled.{table_from}
use Rattle.graph.specs.Graph.{reaches}
use Rattle.rules_class.specs.Category.{class88, structural, abstract, auxiliary}
use Rattle.rules.specs.declared.row.Added.TheVariants.{Nothing}
use Rattle.rules.specs.Judge.{judged}
use Rattle.change_read.specs.declared.read.Change.TheVariants.{Rename, AddEntry}
use Rattle.change_read.specs.declared.carried.OpenList.TheVariants.{Auxiliary}
use Rattle.change_read.specs.Carried.{list_tag}
use Rattle.change_model.specs.Model.{change_number}
use Rattle.schema.specs.Refusals as refusal
use Rattle.std.specs.Prelude.{Option, Some, None}

-- ---- sample rows

unfoldable pub arc_bytes : List ℕ → List ℕ
arc_bytes [] = []
arc_bytes (x ∷ xs) = big_endian_bytes 4 x ++ arc_bytes xs

-- what every row begins with; the GUID is a number
unfoldable pub common : List ℕ → List ℕ → ℕ → List ℕ
common name arcs guid = (length name ∷ padded 64 name) ++ ((length arcs ∷ padded 64 (arc_bytes arcs)) ++ (padded 16 (guid ∷ []) ++ zeros 5))

unfoldable pub end_bytes : Option ℕ → List ℕ
end_bytes (Some x) = 1 ∷ big_endian_bytes 4 x
end_bytes None = zeros 5

unfoldable pub attribute_row : List ℕ → List ℕ → ℕ → ℕ → ℕ → Option ℕ → Option ℕ → ℕ → List ℕ
attribute_row name arcs guid syntax omSyntax lower upper link =
    common name arcs guid ++ ((syntax ∷ omSyntax ∷ zeros 18) ++ (end_bytes lower ++ (end_bytes upper ++ (big_endian_bytes 4 link ++ zeros 4))))

unfoldable pub class_row : List ℕ → List ℕ → ℕ → ℕ → ℕ → List ℕ
class_row name arcs guid category superclass = common name arcs guid ++ (category ∷ superclass ∷ zeros 162)

-- the answer of the judge, of attributes and classes
unfoldable pub judged_rows : List (List ℕ) → List (List ℕ) → Answer
judged_rows a c = judged Nothing (schema (table_from a) (table_from c) 0)

-- `area-Ha`
unfoldable pub area_ha : List ℕ
area_ha = 97 ∷ 114 ∷ 101 ∷ 97 ∷ 45 ∷ 72 ∷ 97 ∷ []

-- one attribute, and no classes
unfoldable pub one : List ℕ → Answer
one row = judged_rows (row ∷ []) []

unfoldable pub by_name : List ℕ → Answer
by_name name = one (attribute_row name (2 ∷ 999 ∷ []) 1 9 10 None None 0)

unfoldable pub by_arcs : List ℕ → Answer
by_arcs arcs = one (attribute_row area_ha arcs 1 9 10 None None 0)

unfoldable pub by_syntax : ℕ → ℕ → Answer
by_syntax syntax omSyntax = one (attribute_row area_ha (2 ∷ 999 ∷ []) 1 syntax omSyntax None None 0)

unfoldable pub by_range : Option ℕ → Option ℕ → Answer
by_range lower upper = one (attribute_row area_ha (2 ∷ 999 ∷ []) 1 9 10 lower upper 0)

-- an attribute row with an oMObjectClass
unfoldable pub with_object_class : List ℕ → List ℕ → List ℕ
with_object_class value row = splice object_class_at (length value ∷ padded object_class_limit value) row

-- attributes `a`, `b` .. with linkIDs: of integers, 2.5.5.9; of names, 2.5.5.1; of names with binary, 2.5.5.7
unfoldable pub linked_by : ℕ → ℕ → ℕ → ℕ → List ℕ
linked_by syntax omSyntax k link = attribute_row ((97 + k) ∷ []) (2 ∷ k ∷ []) k syntax omSyntax None None link

unfoldable pub linked_integers : ℕ → ℕ → List ℕ
linked_integers = linked_by 9 2

unfoldable pub linked : ℕ → ℕ → List ℕ
linked k link = with_object_class (0x2B ∷ 0x0C ∷ 0x02 ∷ 0x87 ∷ 0x73 ∷ 0x1C ∷ 0x00 ∷ 0x85 ∷ 0x4A ∷ []) (linked_by 1 127 k link)

unfoldable pub linked_with_binary : ℕ → ℕ → List ℕ
linked_with_binary k link = with_object_class (0x56 ∷ 0x06 ∷ 0x01 ∷ 0x02 ∷ 0x05 ∷ 0x0B ∷ 0x1D ∷ []) (linked_by 7 127 k link)

-- class 0 is abstract; class 1 of a category is under it, and class 2 of a category under class 1
unfoldable pub classes : ℕ → ℕ → Answer
classes above own =
    judged_rows [] (class_row (97 ∷ []) (2 ∷ 1 ∷ []) 1 abstract 0 ∷ class_row (98 ∷ []) (2 ∷ 2 ∷ []) 2 above 0 ∷ class_row (99 ∷ []) (2 ∷ 3 ∷ []) 3 own 1 ∷ [])

-- class 0 is abstract, and each of the others under the one before: 1 auxiliary, 2 structural, 3 abstract
unfoldable pub under_each_other : Answer
under_each_other =
    judged_rows []
    (class_row (97 ∷ []) (2 ∷ 1 ∷ []) 1 abstract 0
    ∷ class_row (98 ∷ []) (2 ∷ 2 ∷ []) 2 auxiliary 0
    ∷ class_row (99 ∷ []) (2 ∷ 3 ∷ []) 3 structural 1
    ∷ class_row (100 ∷ []) (2 ∷ 4 ∷ []) 4 abstract 2
    ∷ [])

-- ---- changes of a schema

-- a class row whose mandatory set has a first byte, as attributes 0 and 1 by 3, and nothing more
unfoldable pub demanding : ℕ → List ℕ → List ℕ
demanding bits row = splice mandatory_at (padded attribute_set (bits ∷ [])) row

-- attributes 0, `area-Ha`, and 1
unfoldable pub two_attributes : List (List ℕ)
two_attributes = attribute_row area_ha (2 ∷ 1 ∷ []) 1 9 10 None None 0 ∷ attribute_row (98 ∷ []) (2 ∷ 2 ∷ []) 2 9 10 None None 0 ∷ []

-- class 0 is abstract, 1 structural and demands attribute 0, 2 an auxiliary that demands what is given
unfoldable pub three_classes : ℕ → List (List ℕ)
three_classes bits =
    class_row (99 ∷ []) (2 ∷ 3 ∷ []) 3 abstract 0
    ∷ demanding 1 (class_row (100 ∷ []) (2 ∷ 4 ∷ []) 4 structural 0)
    ∷ demanding bits (class_row (101 ∷ []) (2 ∷ 5 ∷ []) 5 auxiliary 0)
    ∷ []

unfoldable pub sample : ℕ → Schema
sample bits = schema (table_from two_attributes) (table_from (three_classes bits)) 0

-- the number for an entry added to the open auxiliaries of class 1, where class 2 demands what is given
unfoldable pub joining : ℕ → ℕ → ℕ
joining bits entry = change_number AddEntry (big_endian_bytes 2 1 ++ (list_tag Auxiliary ∷ big_endian_bytes 2 entry)) (sample bits)

-- the number for a new name of attribute 0
unfoldable pub renaming : List ℕ → ℕ
renaming name = change_number (Rename Attributes) (big_endian_bytes 2 0 ++ (length name ∷ padded name_limit name)) (sample 1)

-- ---- the pieces

pub record Pieces : Type 0 where
  -- `area-Ha`; empty; `1area`: pass; 12; 12
  pub p1 : ((by_name area_ha).number ≡ 0) × (((by_name []).number ≡ refusal.name_invalid)
      × ((by_name (49 ∷ 97 ∷ 114 ∷ 101 ∷ 97 ∷ [])).number ≡ refusal.name_invalid))
  -- 2.999; 1.40; one arc: pass; 14; 14
  pub p2 : ((by_arcs (2 ∷ 999 ∷ [])).number ≡ 0) × (((by_arcs (1 ∷ 40 ∷ [])).number ≡ refusal.identifier_invalid)
      × ((by_arcs (2 ∷ [])).number ≡ refusal.identifier_invalid))
  -- syntax 9 with 10; with 65: pass; 26
  pub p3 : ((by_syntax 9 10).number ≡ 0) × ((by_syntax 9 65).number ≡ refusal.syntax_misfit)
  -- range -1 to 0; 5 to 5: pass; pass (document 02, wish 1)
  pub p4 : ((by_range (Some 0xFFFFFFFF) (Some 0)).number ≡ 0) × ((by_range (Some 5) (Some 5)).number ≡ 0)
  -- both ends of i32; only one end: pass; pass
  pub p5 : ((by_range (Some 0x80000000) (Some 0x7FFFFFFF)).number ≡ 0) × (((by_range (Some 5) None).number ≡ 0)
      × ((by_range None (Some 5)).number ≡ 0))
  -- linkID 1; 2 alone; 2 and 3: 29; pass; pass. Document 02: "P6's rows have 2.5.5.1."
  pub p6 : ((one (linked 0 1)).number ≡ refusal.link_alone) × (((one (linked 0 2)).number ≡ 0)
      × ((judged_rows (linked 0 2 ∷ linked 1 3 ∷ []) []).number ≡ 0))
  -- 88 class under auxiliary: pass
  pub p7 : (classes auxiliary class88).number ≡ 0
  -- abstract under structural: 38
  pub p8 : classes structural abstract ≡ broken_by 38 Classes 2
  -- two auxiliaries listing each other: both reach the same classes, in any table
  pub p9 : (t : Table) (x y : ℕ) → x < t.count → y < t.count → lists Auxiliaries (t.row x) y ≡ true → lists Auxiliaries (t.row y) x ≡ true
      → (z : ℕ) → reaches t x z ≡ reaches t y z
  -- auxiliary demanding what the target already demands: 0
  pub p10 : joining 1 2 ≡ 0
  -- the same with one more: 30
  pub p11 : joining 3 2 ≡ refusal.mandatory_differs
  -- name changed only in case: 0
  pub p12 : renaming (65 ∷ 82 ∷ 69 ∷ 65 ∷ 45 ∷ 104 ∷ 65 ∷ []) ≡ 0
  -- besides: an entry that no set can hold is not live, 18; one that is no auxiliary, 19
  pub beyond : joining 1 200 ≡ refusal.class_not_live
  pub misfit : joining 1 1 ≡ refusal.not_an_auxiliary
  -- document 02: "Somebody linked two integer attributes": 45; linkID 1 of an integer is 29 before it
  pub integers : judged_rows (linked_integers 0 2 ∷ linked_integers 1 3 ∷ []) [] ≡ broken_by 45 Attributes 0
  pub lone : (one (linked_integers 0 1)).number ≡ refusal.link_alone
  -- "a present even linkID needs 2.5.5.1, 2.5.5.7 or 2.5.5.14, an odd one 2.5.5.1"
  pub binary : ((judged_rows (linked_with_binary 0 2 ∷ linked 1 3 ∷ []) []).number ≡ 0)
      × (judged_rows (linked 0 2 ∷ linked_with_binary 1 3 ∷ []) [] ≡ broken_by 45 Attributes 1)
  -- "Rule 25 shall hold only where rangeLower is greater than rangeUpper; both negative and equal passes too."
  pub equal : ((by_range (Some 0xFFFFFFFD) (Some 0xFFFFFFFD)).number ≡ 0) × ((by_range (Some 0x80000000) (Some 0x80000000)).number ≡ 0)
  pub crossed : ((by_range (Some 6) (Some 5)).number ≡ 25) × ((by_range (Some 0) (Some 0xFFFFFFFF)).number ≡ 25)
  -- the rule before the row: class 2 is structural under auxiliary, class 3 abstract under structural: 38, class 3; a later row's 29 before an earlier one's 45
  pub rule_first : under_each_other ≡ broken_by 38 Classes 3
  pub link_last : judged_rows (linked_integers 0 2 ∷ linked 1 5 ∷ []) [] ≡ broken_by 29 Attributes 1
