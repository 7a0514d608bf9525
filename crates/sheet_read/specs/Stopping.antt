-- Where reading a sheet stops, and why, said of the fields that stand in it and not by how it is read. Document 01: "Sheet: field 01 holding 01, attribute
-- rows 20, class rows 30"; "Number 4 tells the first field that cannot be accepted (the innermost; out of order counts) by its tag's offset; a missing
-- field, where the rest of its value is sound, by the end of that value"; "6 no free row; at load, told at the row's tag, before any 4 there, with table
-- and limit". `sheet_stops` (StoppingLaws) joins it to the definition that the code is proved against, and so also says that it is one thing only.
use Rattle.std.specs.Prelude.{List, ◌≡◌, ℕ, suc, ◌+◌, ◌<◌, get_or, length}
use Rattle.schema.specs.Numbers.{limit}
use Rattle.schema.specs.declared.number.TableId.{TableId}
use Rattle.schema.specs.declared.number.TableId.TheVariants.{Attributes, Classes}
use Rattle.rows_format.specs.Formats.{columns_of}
use Rattle.rows_format.specs.declared.format.Format.TheVariants.{Row}
use Rattle.rows_read.specs.RowRead.{RowRead}
use Rattle.rows_read.specs.Stopping.{FieldCut, FieldStands, ValueStops}
use Rattle.sheet_read.specs.SheetRead.{SheetRead}
use Rattle.sheet_read.specs.SheetRead.{Read, Bad, Full}
use Rattle.sheet_read.specs.Reading.{Rows, no_rows, plus, row_out}
use Rattle.rows_read.specs.RowRead as row

-- "attribute rows 20, class rows 30"
unfoldable pub row_tag : TableId → ℕ
row_tag Attributes = 0x20
row_tag Classes = 0x30

-- a field stands at a place of the sheet; "field 01 holding 01"
abbrev pub Stands : List ℕ → ℕ → ℕ → ℕ → Type 0
Stands s at tag stop = FieldStands s (length s) at tag stop

abbrev pub HeadingValue : List ℕ → ℕ → ℕ → Type 0
HeadingValue s at stop = (stop ≡ at + 4) × (get_or s (at + 3) 0 ≡ 0x01)

-- what reading the value of a row comes to
abbrev pub RowStops : TableId → List ℕ → ℕ → ℕ → RowRead → Type 0
RowStops t s at stop = ValueStops (columns_of (Row t)) s stop (at + 3)

-- how many rows of a table there are, of so many attribute rows and class rows
unfoldable pub rows_of : TableId → ℕ → ℕ → ℕ
rows_of Attributes attributes classes = attributes
rows_of Classes attributes classes = classes

-- a whole row that reads
pub record RowStands (t : TableId) (s : List ℕ) (at stop : ℕ) : Type 0 where
  pub stands : Stands s at (row_tag t) stop
  pub reads : RowStops t s at stop row.Read

-- everything before a place is accepted: no heading or one, then some attribute rows, then some class rows, one behind the other
pub data AcceptedTo (s : List ℕ) : (headings attributes classes at : ℕ) → Type 0 where
  none : AcceptedTo s 0 0 0 0
  heading : {stop : ℕ} → Stands s 0 0x01 stop → HeadingValue s 0 stop → AcceptedTo s 1 0 0 stop
  attribute : {h a at stop : ℕ} → AcceptedTo s h a 0 at → a < limit Attributes → RowStands Attributes s at stop → AcceptedTo s h (suc a) 0 stop
  class : {h a c at stop : ℕ} → AcceptedTo s h a c at → c < limit Classes → RowStands Classes s at stop → AcceptedTo s h a (suc c) stop

-- the rows that these fields give, in the order in which they stand
unfoldable pub rows_given : {s : List ℕ} {h a c at : ℕ} → AcceptedTo s h a c at → Rows
rows_given none = no_rows
rows_given (heading f v) = no_rows
rows_given {s} (attribute {at = at} {stop = stop} p few r) = plus Attributes (row_out Attributes s (at + 3) stop).row (rows_given p)
rows_given {s} (class {at = at} {stop = stop} p few r) = plus Classes (row_out Classes s (at + 3) stop).row (rows_given p)

-- the rows before fill their table, and the tag of one more stands there: its byte, whatever comes behind it (R8)
pub record NoRoom (t : TableId) (s : List ℕ) (attributes classes at : ℕ) : Type 0 where
  pub before : at < length s
  pub tagged : get_or s at 0 ≡ row_tag t
  pub filled : rows_of t attributes classes ≡ limit t

-- what stands behind h headings, a attribute rows and c class rows cannot be accepted, with the place that is told: a field that is cut (R5, R6); a tag
-- that no field of a sheet has; a heading that is not the first field (R12), or holds something else; an attribute row behind a class row (R4); or a row
-- of which its own fields tell the place
pub data Unacceptable (s : List ℕ) (h a c at : ℕ) : ℕ → Type 0 where
  cut : FieldCut s (length s) at → Unacceptable s h a c at at
  unknown : {tag stop : ℕ} → Stands s at tag stop → ¬ (tag ≡ 0x01) → ((t : TableId) → ¬ (tag ≡ row_tag t)) → Unacceptable s h a c at at
  late_heading : {stop : ℕ} → Stands s at 0x01 stop → 0 < h + a + c → Unacceptable s h a c at at
  wrong_heading : {stop : ℕ} → Stands s at 0x01 stop → ¬ (HeadingValue s at stop) → Unacceptable s h a c at at
  late_attribute : {stop : ℕ} → Stands s at (row_tag Attributes) stop → 0 < c → Unacceptable s h a c at at
  in_attribute : {stop place : ℕ} → Stands s at (row_tag Attributes) stop → c ≡ 0 → RowStops Attributes s at stop (row.Bad place)
      → Unacceptable s h a c at place
  in_class : {stop place : ℕ} → Stands s at (row_tag Classes) stop → RowStops Classes s at stop (row.Bad place) → Unacceptable s h a c at place

-- what reading a sheet comes to. It is read: all is accepted, the heading too. All is accepted and the heading is missing: the end of the sheet (R1). There
-- is no room for one more row. Or there is room, and what stands behind all that is accepted cannot be
pub data SheetStops (s : List ℕ) : SheetRead → Type 0 where
  read : {a c : ℕ} → AcceptedTo s 1 a c (length s) → SheetStops s Read
  headless : {a c : ℕ} → AcceptedTo s 0 a c (length s) → SheetStops s (Bad (length s))
  full : {h a c at : ℕ} {t : TableId} → AcceptedTo s h a c at → NoRoom t s a c at → SheetStops s (Full t)
  refused : {h a c at place : ℕ} → AcceptedTo s h a c at → ((t : TableId) → ¬ (NoRoom t s a c at)) → Unacceptable s h a c at place
      → SheetStops s (Bad place)
