-- The schema after a change, from rows alone. Document 01: "Add attribute; add class; set a range; set a display name; deactivate; reactivate; add to
-- or remove from an open list. Nothing else changes a row." Here r is what the change carries, the scratch row that it was read into.
use Rattle.std.specs.Prelude.{Bool, true, false, cond, List, [], ◌∷◌, ℕ}
use Rattle.prelude.specs.Part.{splice}
use Rattle.sets.specs.Sets.{with_member, without_member}
use Rattle.schema.specs.Layout.{name_at, defunct_at, range_lower_at}
use Rattle.schema.specs.Store.{Table, Schema, table, with_row, plus_row, with_table}
use Rattle.schema.specs.declared.number.TableId.{TableId}
use Rattle.schema.specs.declared.number.TableId.TheVariants.{Attributes, Classes}
use Rattle.change_read.specs.declared.read.Change.{Change}
use Rattle.change_read.specs.declared.read.Change.TheVariants.{Add, SetRange, Rename, Deactivate, Reactivate, AddEntry, RemoveEntry}
use Rattle.change_read.specs.Carried.{target_of, list_of, entry_of, new_name, new_range, added_row}
use Rattle.change_rows.specs.Lists.{open_at, open_of}

-- the table of the row that a change is about
abbrev pub table_for : Change → TableId
table_for (Add t) = t
table_for SetRange = Attributes
table_for (Rename t) = t
table_for (Deactivate t) = t
table_for (Reactivate t) = t
table_for AddEntry = Classes
table_for RemoveEntry = Classes

-- it adds a row; any other change has a target
abbrev pub is_addition : Change → Bool
is_addition (Add t) = true
is_addition SetRange = false
is_addition (Rename t) = false
is_addition (Deactivate t) = false
is_addition (Reactivate t) = false
is_addition AddEntry = false
is_addition RemoveEntry = false

-- the number of the row: "an added row last in its table"
unfoldable pub number_for : Change → List ℕ → Schema → ℕ
number_for change r m = cond (is_addition change) (table (table_for change) m).count (target_of r)

-- the row as the change leaves it
unfoldable pub edited_row : Change → List ℕ → List ℕ → List ℕ
edited_row (Add t) r old = added_row t r
edited_row SetRange r old = splice range_lower_at (new_range r) old
edited_row (Rename t) r old = splice name_at (new_name r) old
edited_row (Deactivate t) r old = splice defunct_at (1 ∷ []) old
edited_row (Reactivate t) r old = splice defunct_at (0 ∷ []) old
edited_row AddEntry r old = splice (open_at (list_of r)) (with_member (entry_of r) (open_of (list_of r) old)) old
edited_row RemoveEntry r old = splice (open_at (list_of r)) (without_member (entry_of r) (open_of (list_of r) old)) old

-- its table
unfoldable pub table_after : Change → List ℕ → Table → Table
table_after change r t =
    cond (is_addition change) (plus_row t (edited_row change r [])) (with_row t (target_of r) (edited_row change r (t.row (target_of r))))

-- the schema
unfoldable pub schema_after : Change → List ℕ → Schema → Schema
schema_after change r m = with_table (table_for change) (table_after change r (table (table_for change) m)) m
