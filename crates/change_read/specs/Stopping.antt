-- Where reading a change stops, and why, said of the fields that stand in it and not by how it is read. Document 01: "A change is one field"; "Number 4
-- tells the first field that cannot be accepted (the innermost; out of order counts) by its tag's offset; a missing field, where the rest of its value is
-- sound, by the end of that value; leftover bytes by their start." `change_stops` (StoppingLaws) joins it to the definition that the code is proved
-- against, and so also says that it is one thing only.
use Rattle.std.specs.Prelude.{List, ◌≡◌, ℕ, ◌<◌, length}
use Rattle.schema.specs.declared.number.TableId.TheVariants.{Attributes, Classes}
use Rattle.rows_format.specs.Formats.{columns_of}
use Rattle.rows_read.specs.RowRead.{RowRead}
use Rattle.rows_read.specs.Stopping.{FieldCut, FieldStands, ValueStops}
use Rattle.change_read.specs.declared.read.Change.{Change}
use Rattle.change_read.specs.declared.read.Change.TheVariants.{Add, SetRange, Rename, Deactivate, Reactivate, AddEntry, RemoveEntry}
use Rattle.change_read.specs.ChangeRead.{ChangeRead}
use Rattle.change_read.specs.ChangeRead.{Read, Bad}
use Rattle.change_read.specs.Reading.{format_of}
use Rattle.rows_read.specs.RowRead as rows

-- "40, 41 add attribute, class ..; 42 range; 43, 44 name of attribute, class; 45, 46 deactivate; 47, 48 reactivate; 49, 4A list addition, removal"
unfoldable pub change_tag : Change → ℕ
change_tag (Add Attributes) = 0x40
change_tag (Add Classes) = 0x41
change_tag SetRange = 0x42
change_tag (Rename Attributes) = 0x43
change_tag (Rename Classes) = 0x44
change_tag (Deactivate Attributes) = 0x45
change_tag (Deactivate Classes) = 0x46
change_tag (Reactivate Attributes) = 0x47
change_tag (Reactivate Classes) = 0x48
change_tag AddEntry = 0x49
change_tag RemoveEntry = 0x4A

-- the change's field stands in front, and its value goes up to stop
abbrev pub ChangeStands : List ℕ → Change → ℕ → Type 0
ChangeStands s change stop = FieldStands s (length s) 0 (change_tag change) stop

-- what reading its value comes to
abbrev pub CarriedStops : List ℕ → Change → ℕ → RowRead → Type 0
CarriedStops s change stop = ValueStops (columns_of (format_of change)) s stop 3

-- its field is the whole string, and its value is read; it is missing, or cut, or has no tag of a change: its own place, 0 (R24); its value tells the
-- place; or its value is read, and bytes are left over behind it: their start
pub data ChangeStops (s : List ℕ) : ChangeRead → Type 0 where
  read : {change : Change} → ChangeStands s change (length s) → CarriedStops s change (length s) rows.Read → ChangeStops s (Read change)
  empty : length s ≡ 0 → ChangeStops s (Bad 0)
  cut : FieldCut s (length s) 0 → ChangeStops s (Bad 0)
  unknown : {tag stop : ℕ} → FieldStands s (length s) 0 tag stop → ((change : Change) → ¬ (tag ≡ change_tag change)) → ChangeStops s (Bad 0)
  inside : (change : Change) {stop at : ℕ} → ChangeStands s change stop → CarriedStops s change stop (rows.Bad at) → ChangeStops s (Bad at)
  leftover : (change : Change) {stop : ℕ} → ChangeStands s change stop → CarriedStops s change stop rows.Read → stop < length s → ChangeStops s (Bad stop)
