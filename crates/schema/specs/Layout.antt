-- The layout of the stores, byte by byte, as docs/LAYOUT.md shows it. Each field begins where the one before it ends; the cells of a row stand in
-- the order of their tags. src/layout.rt has the same names.
use Rattle.std.specs.Prelude.{ℕ, ◌+◌, ◌*◌, ◌/◌}
use Rattle.schema.specs.Numbers.{class_limit, attribute_limit, limit}
use Rattle.schema.specs.declared.number.TableId.{TableId}
use Rattle.schema.specs.declared.number.TableId.TheVariants.{Attributes, Classes}

-- ---- limits of fields

-- "display name (up to 64 bytes)"
abbrev pub name_limit : ℕ
name_limit = 64

-- "object identifier (up to 16 arcs, each a u32)"
abbrev pub arc_limit : ℕ
arc_limit = 16

abbrev pub arc_width : ℕ
arc_width = 4

-- "schemaIDGUID (16 bytes)"
abbrev pub guid_width : ℕ
guid_width = 16

-- "oMObjectClass (up to 16 bytes)"
abbrev pub object_class_limit : ℕ
object_class_limit = 16

-- sets: one bit for each number below the limit
abbrev pub class_set : ℕ
class_set = class_limit / 8

abbrev pub attribute_set : ℕ
attribute_set = attribute_limit / 8

-- a set of a table's numbers
abbrev pub set_width : TableId → ℕ
set_width Attributes = attribute_set
set_width Classes = class_set

-- ---- what every row begins with

abbrev pub name_at : ℕ
name_at = 0

abbrev pub identifier_at : ℕ
identifier_at = name_at + 1 + name_limit

abbrev pub guid_at : ℕ
guid_at = identifier_at + 1 + arc_width * arc_limit

abbrev pub flags_at : ℕ
flags_at = guid_at + guid_width

abbrev pub defunct_at : ℕ
defunct_at = flags_at + 4

abbrev pub common_width : ℕ
common_width = defunct_at + 1

-- ---- the rest of an attribute row

abbrev pub syntax_at : ℕ
syntax_at = common_width

abbrev pub om_syntax_at : ℕ
om_syntax_at = syntax_at + 1

abbrev pub object_class_at : ℕ
object_class_at = om_syntax_at + 1

abbrev pub single_valued_at : ℕ
single_valued_at = object_class_at + 1 + object_class_limit

abbrev pub range_lower_at : ℕ
range_lower_at = single_valued_at + 1

abbrev pub range_upper_at : ℕ
range_upper_at = range_lower_at + 5

abbrev pub link_at : ℕ
link_at = range_upper_at + 5

abbrev pub mapi_at : ℕ
mapi_at = link_at + 4

abbrev pub attribute_width : ℕ
attribute_width = mapi_at + 4

-- ---- the rest of a class row

abbrev pub category_at : ℕ
category_at = common_width

abbrev pub superclass_at : ℕ
superclass_at = category_at + 1

abbrev pub naming_at : ℕ
naming_at = superclass_at + 1

abbrev pub mandatory_at : ℕ
mandatory_at = naming_at + 2

abbrev pub fixed_optional_at : ℕ
fixed_optional_at = mandatory_at + attribute_set

abbrev pub open_optional_at : ℕ
open_optional_at = fixed_optional_at + attribute_set

abbrev pub fixed_auxiliary_at : ℕ
fixed_auxiliary_at = open_optional_at + attribute_set

abbrev pub open_auxiliary_at : ℕ
open_auxiliary_at = fixed_auxiliary_at + class_set

abbrev pub fixed_superior_at : ℕ
fixed_superior_at = open_auxiliary_at + class_set

abbrev pub open_superior_at : ℕ
open_superior_at = fixed_superior_at + class_set

abbrev pub class_width : ℕ
class_width = open_superior_at + class_set

-- ---- a row of the closure store: "The three kept sets of one class stand side by side in the lent store and are written as one part."

abbrev pub reached_at : ℕ
reached_at = 0

abbrev pub demanded_at : ℕ
demanded_at = reached_at + class_set

abbrev pub allowed_at : ℕ
allowed_at = demanded_at + attribute_set

abbrev pub closure_width : ℕ
closure_width = allowed_at + attribute_set

-- ---- the stores: the count stands before the rows. "Store lengths are fixed and written down in docs/"

abbrev pub rows_at : ℕ
rows_at = 2

-- how wide a row of a table is, and how long its store
abbrev pub row_width : TableId → ℕ
row_width Attributes = attribute_width
row_width Classes = class_width

abbrev pub store_length : TableId → ℕ
store_length t = rows_at + row_width t * limit t

abbrev pub closure_length : ℕ
closure_length = closure_width * class_limit
