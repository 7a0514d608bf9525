-- The tables. Document 01, "Sheet and change". Tags are written in decimal here, with the paper's hex beside them.
use Rattle.std.specs.Prelude.{List, [], ◌∷◌, ◌++◌, ℕ, ◌+◌}
use Rattle.schema.specs.Layout.{name_limit, arc_limit, guid_width, object_class_limit, name_at, identifier_at, guid_at, flags_at}
use Rattle.schema.specs.Layout.{defunct_at, syntax_at, om_syntax_at, object_class_at, single_valued_at, range_lower_at, range_upper_at, link_at, mapi_at}
use Rattle.schema.specs.Layout.{category_at, superclass_at, naming_at, mandatory_at, fixed_optional_at, open_optional_at, fixed_auxiliary_at, open_auxiliary_at}
use Rattle.schema.specs.Layout.{fixed_superior_at, open_superior_at, row_width}
use Rattle.schema.specs.declared.number.TableId.{TableId}
use Rattle.schema.specs.declared.number.TableId.TheVariants.{Attributes, Classes}
use Rattle.rows_format.specs.declared.column.Test.TheVariants.{Any, Below, NotZero, OpenList}
use Rattle.rows_format.specs.declared.column.Encoding.{Encoding}
use Rattle.rows_format.specs.declared.column.Encoding.TheVariants.{Plain, Number, Counted, Arcs, Entries}
use Rattle.rows_format.specs.declared.column.Presence.{Presence}
use Rattle.rows_format.specs.declared.column.Presence.TheVariants.{Required, Optional, Marked, Never}
use Rattle.rows_format.specs.declared.column.Column.{Column}
use Rattle.rows_format.specs.declared.format.Format.{Format}
use Rattle.rows_format.specs.declared.format.Format.TheVariants.{Row, NewRow, Range, Name, Target, Entry}

abbrev pub column : Presence → ℕ → Encoding → ℕ → Column
column presence tag encoding at = record { tag = tag; presence = presence; encoding = encoding; at = at }

-- bytes as they are; no bytes at all; four bytes that are not zero
abbrev pub bytes : ℕ → Encoding
bytes n = Plain n Any

abbrev pub nothing : Encoding
nothing = bytes 0

abbrev pub nonzero : Encoding
nonzero = Plain 4 NotZero

-- ---- rows

-- "Row fields: 01 name, 02 arcs (4 bytes each), 03 GUID, 04 systemFlags; 05 defunct (length 0, else absent)"
unfoldable pub common_columns : Column → List Column
common_columns defunct =
    column Required 1 (Counted 0 name_limit) name_at ∷
    column Required 2 (Arcs arc_limit) identifier_at ∷
    column Required 3 (bytes guid_width) guid_at ∷
    column Required 4 (bytes 4) flags_at ∷
    defunct ∷ []

-- 05 in a row of a sheet; and in an addition: "value as a row, no 05"
abbrev pub may_be_defunct : Column
may_be_defunct = column Marked 5 nothing defunct_at

abbrev pub never_defunct : Column
never_defunct = column Never 5 (bytes 1) defunct_at

-- "Attribute: 06 syntax, 07 oMSyntax (a byte each); optional 08 oMObjectClass (not empty), 09 single-valued (length 0), 0A and 0B ranges, 0C
-- linkID, 0D mAPIID (4 bytes, the last two not zero)"
unfoldable pub attribute_columns : List Column
attribute_columns =
    column Required 6 (bytes 1) syntax_at ∷
    column Required 7 (bytes 1) om_syntax_at ∷
    column Optional 8 (Counted 1 object_class_limit) object_class_at ∷
    column Marked 9 nothing single_valued_at ∷
    column Marked 10 (bytes 4) range_lower_at ∷
    column Marked 11 (bytes 4) range_upper_at ∷
    column Optional 12 nonzero link_at ∷
    column Optional 13 nonzero mapi_at ∷ []

-- "Class: 10 category, 11 superclass; optional 12 rDNAttID, 13 to 19 the seven sets in the order above": mandatory; fixed and open optional;
-- fixed and open auxiliary; fixed and open possible superiors
unfoldable pub class_columns : List Column
class_columns =
    column Required 16 (Plain 1 (Below 4)) category_at ∷
    column Required 17 (Number Classes) superclass_at ∷
    column Marked 18 (Number Attributes) naming_at ∷
    column Optional 19 (Entries Attributes) mandatory_at ∷
    column Optional 20 (Entries Attributes) fixed_optional_at ∷
    column Optional 21 (Entries Attributes) open_optional_at ∷
    column Optional 22 (Entries Classes) fixed_auxiliary_at ∷
    column Optional 23 (Entries Classes) open_auxiliary_at ∷
    column Optional 24 (Entries Classes) fixed_superior_at ∷
    column Optional 25 (Entries Classes) open_superior_at ∷ []

-- ---- changes: the cells of what 42 to 4A carry, in a scratch row of their own

abbrev pub target_at : ℕ
target_at = 0

abbrev pub target_width : ℕ
target_width = target_at + 2

abbrev pub new_lower_at : ℕ
new_lower_at = target_width

abbrev pub new_upper_at : ℕ
new_upper_at = new_lower_at + 5

abbrev pub range_width : ℕ
range_width = new_upper_at + 5

abbrev pub new_name_at : ℕ
new_name_at = target_width

abbrev pub name_width : ℕ
name_width = new_name_at + 1 + name_limit

abbrev pub list_at : ℕ
list_at = target_width

abbrev pub entry_at : ℕ
entry_at = list_at + 1

abbrev pub entry_width : ℕ
entry_width = entry_at + 2

-- "42 to 4A begin with field 20, the target, any u16"
abbrev pub target : Column
target = column Required 32 (bytes 2) target_at

-- "then 0A and 0B (an end not given becomes absent), or 01, or 21 (one byte: 15, 17, 19) and 22, the entry, any u16"
unfoldable pub range_columns : List Column
range_columns =
    target ∷
    column Marked 10 (bytes 4) new_lower_at ∷
    column Marked 11 (bytes 4) new_upper_at ∷ []

unfoldable pub name_columns : List Column
name_columns =
    target ∷
    column Required 1 (Counted 0 name_limit) new_name_at ∷ []

unfoldable pub target_columns : List Column
target_columns = target ∷ []

unfoldable pub entry_columns : List Column
entry_columns =
    target ∷
    column Required 33 (Plain 1 OpenList) list_at ∷
    column Required 34 (bytes 2) entry_at ∷ []

-- ---- by format

-- the rest of a row
unfoldable pub own_columns : TableId → List Column
own_columns Attributes = attribute_columns
own_columns Classes = class_columns

unfoldable pub columns_of : Format → List Column
columns_of (Row t) = common_columns may_be_defunct ++ own_columns t
columns_of (NewRow t) = common_columns never_defunct ++ own_columns t
columns_of Range = range_columns
columns_of Name = name_columns
columns_of Target = target_columns
columns_of Entry = entry_columns

-- how many bytes the row has that a value is read into
unfoldable pub format_width : Format → ℕ
format_width (Row t) = row_width t
format_width (NewRow t) = row_width t
format_width Range = range_width
format_width Name = name_width
format_width Target = target_width
format_width Entry = entry_width

-- no column: what stands past a table
unfoldable pub no_column : Column
no_column = column Never 0 nothing 0
