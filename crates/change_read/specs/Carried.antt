-- What a change carries, in the scratch row that it was read into. Document 01: "42 to 4A begin with field 20, the target, any u16; then 0A and 0B
-- (an end not given becomes absent), or 01, or 21 (one byte: 15, 17, 19) and 22, the entry, any u16"
use Rattle.std.specs.Prelude.{cond, List, ℕ, ◌+◌, eqb, get_or}
use Rattle.prelude.specs.Part.{part}
use Rattle.prelude.specs.BigEndian.{big_endian}
use Rattle.schema.specs.Layout.{name_limit, row_width}
use Rattle.schema.specs.declared.number.TableId.{TableId}
use Rattle.rows_format.specs.Formats.{target_at, new_lower_at, new_name_at, list_at, entry_at}
use Rattle.change_read.specs.declared.carried.OpenList.{OpenList}
use Rattle.change_read.specs.declared.carried.OpenList.TheVariants.{Optional, Auxiliary, Superior}

-- the number of the row that is changed
abbrev pub target_of : List ℕ → ℕ
target_of row = big_endian 2 target_at row

-- the list that an entry is added to or removed from, by the tag that it has in a class row; and that tag: 15, 17, 19 in hex
unfoldable pub open_list : ℕ → OpenList
open_list tag = cond (eqb tag 21) Optional (cond (eqb tag 23) Auxiliary Superior)

unfoldable pub list_tag : OpenList → ℕ
list_tag Optional = 21
list_tag Auxiliary = 23
list_tag Superior = 25

abbrev pub list_of : List ℕ → OpenList
list_of row = open_list (get_or row list_at 0)

-- that entry
abbrev pub entry_of : List ℕ → ℕ
entry_of row = big_endian 2 entry_at row

-- the cells of the new name, and of the new ends of a range side by side, each as it stands in a row of a table
abbrev pub new_name : List ℕ → List ℕ
new_name row = part new_name_at (1 + name_limit) row

abbrev pub new_range : List ℕ → List ℕ
new_range row = part new_lower_at 10 row

-- the added row: the front of the scratch row
abbrev pub added_row : TableId → List ℕ → List ℕ
added_row t row = part 0 (row_width t) row
