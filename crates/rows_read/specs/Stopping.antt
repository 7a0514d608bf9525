-- Where reading a value stops, and why, said of the fields that stand in it and not by how it is read. Document 01: "Number 4 tells the first field that
-- cannot be accepted (the innermost; out of order counts) by its tag's offset; a missing field, where the rest of its value is sound, by the end of that
-- value". `value_stops` (StoppingLaws) joins it to the definition that the code is proved against.
use mathlib.Core.List.{List, [], ◌∷◌, Memᴰ}
use Rattle.std.specs.Prelude.{◌≡◌, ℕ, ◌+◌, ◌-◌, ◌≤◌, ◌<◌, get_or, length}
use Rattle.prelude.specs.Part.{part}
use Rattle.prelude.specs.BigEndian.{big_endian}
use Rattle.rows_format.specs.declared.column.Column.{Column}
use Rattle.rows_format.specs.declared.column.Presence.TheVariants.{Required}
use Rattle.rows_format.specs.Formats.{no_column}
use Rattle.rows_read.specs.Unfit.{UnfitField}
use Rattle.rows_read.specs.RowRead.{RowRead}
use Rattle.rows_read.specs.RowRead.{Read, Bad}

-- ---- fields

-- "one byte tag, two bytes length, value": a whole field stands at a place of the fields that end at `end`, and its value goes up to `stop`
pub record FieldStands (s : List ℕ) (end at tag stop : ℕ) : Type 0 where
  pub tagged : get_or s at 0 ≡ tag
  pub header : at + 3 ≤ end
  pub ends : stop ≡ at + 3 + big_endian 2 (at + 1) s
  pub within : stop ≤ end

-- (R5) a field that is cut: a header of one or two bytes, or a value past the end
pub data FieldCut (s : List ℕ) (end at : ℕ) : Type 0 where
  header : at < end → end < at + 3 → FieldCut s end at
  value : at + 3 ≤ end → end < at + 3 + big_endian 2 (at + 1) s → FieldCut s end at

-- ---- columns

abbrev pub column_at : List Column → ℕ → Column
column_at cs j = get_or cs j no_column

-- the bytes of a field's value
abbrev pub value_at : List ℕ → ℕ → ℕ → List ℕ
value_at s at stop = part (at + 3) (stop - (at + 3)) s

-- a column's field stands at a place
pub record ColumnStands (cs : List Column) (s : List ℕ) (end at j stop : ℕ) : Type 0 where
  pub known : j < length cs
  pub stands : FieldStands s end at (column_at cs j).tag stop

-- a column that comes after all these
abbrev pub After : List ℕ → ℕ → Type 0
After taken j = (i : ℕ) → Memᴰ i taken → i < j

-- "fields in rising tag order, each once": from start up to a place fields stand one behind the other, each of a column that comes after those of all
-- fields before it, and with a value that is fit for it. The list has these columns, the last field's first. (In a row the order of the columns is that
-- of the tags, `row_order`; in a change 20 comes first)
pub data AcceptedTo (cs : List Column) (s : List ℕ) (end start : ℕ) : ℕ → List ℕ → Type 0 where
  none : AcceptedTo cs s end start start []
  more : {at stop j : ℕ} {taken : List ℕ} → AcceptedTo cs s end start at taken → After taken j → ColumnStands cs s end at j stop
      → ¬ (UnfitField (column_at cs j) (value_at s at stop)) → AcceptedTo cs s end start stop (j ∷ taken)

-- what stands at a place cannot be accepted behind these columns: it is cut; no column has its tag (R2); it is out of order or stands there twice (R3);
-- its value is unfit for its column
pub data Unacceptable (cs : List Column) (s : List ℕ) (end at : ℕ) (taken : List ℕ) : Type 0 where
  cut : FieldCut s end at → Unacceptable cs s end at taken
  unknown : {tag stop : ℕ} → FieldStands s end at tag stop → ((j : ℕ) → j < length cs → ¬ ((column_at cs j).tag ≡ tag)) → Unacceptable cs s end at taken
  late : {i j stop : ℕ} → ColumnStands cs s end at j stop → Memᴰ i taken → j ≤ i → Unacceptable cs s end at taken
  wrong : {j stop : ℕ} → ColumnStands cs s end at j stop → UnfitField (column_at cs j) (value_at s at stop) → Unacceptable cs s end at taken

-- ---- what reading comes to

-- a field that must be there
abbrev pub Needed : List Column → ℕ → Type 0
Needed cs j = (j < length cs) × ((column_at cs j).presence ≡ Required)

-- all is accepted and nothing missing; all is accepted and a field that must be there is not; or one cannot be accepted
pub data ValueStops (cs : List Column) (s : List ℕ) (end start : ℕ) : RowRead → Type 0 where
  read : {taken : List ℕ} → AcceptedTo cs s end start end taken → ((j : ℕ) → Needed cs j → Memᴰ j taken) → ValueStops cs s end start Read
  missing : {taken : List ℕ} {j : ℕ} → AcceptedTo cs s end start end taken → Needed cs j → ¬ (Memᴰ j taken) → ValueStops cs s end start (Bad end)
  refused : {at : ℕ} {taken : List ℕ} → AcceptedTo cs s end start at taken → Unacceptable cs s end at taken → ValueStops cs s end start (Bad at)
