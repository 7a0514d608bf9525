-- The open lists of a class. Document 01: "add to or remove from an open list"; "21 (one byte: 15, 17, 19)".
use Rattle.std.specs.Prelude.{List, ℕ}
use Rattle.prelude.specs.Part.{part}
use Rattle.schema.specs.Layout.{attribute_set, class_set, fixed_optional_at, open_optional_at, fixed_auxiliary_at, open_auxiliary_at, fixed_superior_at, open_superior_at}
use Rattle.schema.specs.Numbers.{number_read}
use Rattle.schema.specs.declared.number.TableId.{TableId}
use Rattle.schema.specs.declared.number.TableId.TheVariants.{Attributes, Classes}
use Rattle.change_read.specs.Carried.{list_of, entry_of}
use Rattle.change_read.specs.declared.carried.OpenList.{OpenList}
use Rattle.change_read.specs.declared.carried.OpenList.TheVariants.{Optional, Auxiliary, Superior}
use Rattle.schema.specs.declared.number.RowId.{RowId}
use Rattle.std.specs.Prelude.{Option}

-- the table whose rows it names
abbrev pub list_table : OpenList → TableId
list_table Optional = Attributes
list_table Auxiliary = Classes
list_table Superior = Classes

-- where it stands in a class row, where the fixed list of the same kind does, and how wide both are
abbrev pub open_at : OpenList → ℕ
open_at Optional = open_optional_at
open_at Auxiliary = open_auxiliary_at
open_at Superior = open_superior_at

abbrev pub fixed_at : OpenList → ℕ
fixed_at Optional = fixed_optional_at
fixed_at Auxiliary = fixed_auxiliary_at
fixed_at Superior = fixed_superior_at

abbrev pub list_width : OpenList → ℕ
list_width Optional = attribute_set
list_width Auxiliary = class_set
list_width Superior = class_set

-- the two lists of a class row
abbrev pub open_of : OpenList → List ℕ → List ℕ
open_of list row = part (open_at list) (list_width list) row

abbrev pub fixed_of : OpenList → List ℕ → List ℕ
fixed_of list row = part (fixed_at list) (list_width list) row

-- the entry that a list change carries, "any u16", where a row of the list's table is meant
abbrev pub entry_read : List ℕ → Option RowId
entry_read r = number_read (list_table (list_of r)) (entry_of r)
