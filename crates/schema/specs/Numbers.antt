-- Class numbers and attribute numbers with their limits. Document 01: "at most 128 classes and 256 attributes (house)".
use Rattle.std.specs.Prelude.{Bool, cond, true, false, ◌&&◌, ◌≡◌, ℕ, ◌-◌, eqb, ltb}
use Rattle.schema.specs.declared.number.TableId.{TableId}
use Rattle.schema.specs.declared.number.TableId.TheVariants.{Attributes, Classes}
use Rattle.schema.specs.declared.number.RowId.{RowId}
use Rattle.schema.specs.declared.number.RowId.TheVariants.{Attribute, Class}
use Rattle.schema.specs.declared.number.AttributeNumber.{AttributeNumber}
use Rattle.schema.specs.declared.number.ClassNumber.{ClassNumber}
use Rattle.std.specs.Prelude.{Option, Some, None}

abbrev pub class_limit : ℕ
class_limit = 128

abbrev pub attribute_limit : ℕ
attribute_limit = 256

-- a number where a class is meant: below the limit a class number
abbrev pub class_read : ℕ → Option ClassNumber
class_read n = cond (ltb n class_limit) (Some (record { 0 = n })) None

-- a number where an attribute is meant
abbrev pub attribute_read : ℕ → Option AttributeNumber
attribute_read n = cond (ltb n attribute_limit) (Some (record { 0 = n })) None

-- ---- either table

-- how many rows it can hold
abbrev pub limit : TableId → ℕ
limit Attributes = attribute_limit
limit Classes = class_limit

-- row k of a table; the table of a row, and its number there
abbrev pub row_id : TableId → ℕ → RowId
row_id Attributes k = Attribute (record { 0 = k })
row_id Classes k = Class (record { 0 = k })

abbrev pub table_of : RowId → TableId
table_of (Attribute a) = Attributes
table_of (Class c) = Classes

abbrev pub number_of : RowId → ℕ
number_of (Attribute a) = a.0
number_of (Class c) = c.0

-- a number where a row of a table is meant
abbrev pub number_read : TableId → ℕ → Option RowId
number_read t n = cond (ltb n (limit t)) (Some (row_id t n)) None

-- place p of the rows of both tables, the n attributes first
unfoldable pub place_id : ℕ → ℕ → RowId
place_id n p = cond (ltb p n) (row_id Attributes p) (row_id Classes (p - n))

-- two tables are one
unfoldable pub same_table : TableId → TableId → Bool
same_table Attributes Attributes = true
same_table Attributes Classes = false
same_table Classes Attributes = false
same_table Classes Classes = true

-- row k of table t and row j of table u are one
unfoldable pub same_row : TableId → ℕ → TableId → ℕ → Bool
same_row t k u j = same_table t u && eqb k j

abbrev pub SameRow : TableId → ℕ → TableId → ℕ → Type 0
SameRow t k u j = (t ≡ u) × (k ≡ j)
