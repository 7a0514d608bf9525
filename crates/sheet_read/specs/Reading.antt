-- Reading a whole sheet, from left to right. Document 01: "Sheet: field 01 holding 01, attribute rows 20, class rows 30, whose values are fields in
-- rising tag order, each once." A sheet gives rows, and where it cannot be read a place; no store is in it.
use Rattle.std.specs.Prelude.{◌&&◌, Bool, cond, false, true, ◌++◌, List, [], ◌∷◌, ◌-◌, suc, zero, ℕ, eqb, leb, get_or, length, Some, Ok, Err}
use Rattle.prelude.specs.Part.{zeros}
use Rattle.wire.specs.FieldRead.{FieldRead}
use Rattle.wire.specs.Wire.{field_at}
use Rattle.schema.specs.declared.answer.Answer.{Answer}
use Rattle.schema.specs.declared.number.TableId.TheVariants.{Attributes, Classes}
use Rattle.schema.specs.Store.{Schema, schema}
use Rattle.schema.specs.declared.number.TableId.{TableId}
use Rattle.schema.specs.Answers.{unreadable, full, passed, table_number}
use Rattle.schema.specs.Numbers.{limit}
use Rattle.schema.specs.Layout.{row_width}
use Rattle.tables.specs.Filled.{table_from}
use Rattle.rows_format.specs.declared.format.Format.{Format}
use Rattle.rows_read.specs.RowRead.{RowRead}
use Rattle.rows_read.specs.Reading.{Out}
use Rattle.rows_read.specs.ObjectClass.{read_row}
use Rattle.sheet_read.specs.SheetRead.{Read, Bad, Full}
use Rattle.sheet_read.specs.SheetTag.{Heading, Row, Unknown}
use Rattle.sheet_read.specs.declared.read.Phase.TheVariants.{Start, InRows}
use Rattle.sheet_read.specs.Turn.{On, Stop}
use Rattle.sheet_read.specs.Turn.{Turn}
use Rattle.sheet_read.specs.Room.{Room}
use Rattle.sheet_read.specs.declared.read.Phase.{Phase}
use Rattle.sheet_read.specs.SheetRead.{SheetRead}
use Rattle.sheet_read.specs.SheetTag.{SheetTag}
use Rattle.wire.specs.FieldRead as fields
use Rattle.rows_read.specs.RowRead as row
use Rattle.sheet_read.specs.Room as room
use Rattle.sheet_read.specs.declared.read.SheetError.TheVariants as error

-- the number, table and place that a reading gives. "6 no free row; at load, told at the row's tag, before any 4 there, with table and limit"
abbrev pub sheet_answer : SheetRead → Answer
sheet_answer Read = passed
sheet_answer (Bad at) = unreadable at
sheet_answer (Full t) = full t

-- ---- the rows read so far

pub record Rows : Type 0 where
  pub attributes : List (List ℕ)
  pub classes : List (List ℕ)

abbrev pub rows : List (List ℕ) → List (List ℕ) → Rows
rows a c = record { attributes = a; classes = c }

abbrev pub no_rows : Rows
no_rows = rows [] []

abbrev pub rows_in : TableId → Rows → List (List ℕ)
rows_in Attributes x = x.attributes
rows_in Classes x = x.classes

-- one row more, last in its table
abbrev pub plus : TableId → List ℕ → Rows → Rows
plus Attributes row x = rows (x.attributes ++ (row ∷ [])) x.classes
plus Classes row x = rows x.attributes (x.classes ++ (row ∷ []))

-- the schema that they are
abbrev pub schema_from : Rows → Schema
schema_from x = schema (table_from x.attributes) (table_from x.classes) 0

-- ---- what may come

-- "field 01 holding 01, attribute rows 20, class rows 30", the tags in decimal here
unfoldable pub sheet_tag : ℕ → SheetTag
sheet_tag tag = cond (eqb tag 1) Heading (cond (eqb tag 32) (Row Attributes) (cond (eqb tag 48) (Row Classes) Unknown))

-- how far reading has come: nothing yet, attribute rows, class rows
unfoldable pub position : Phase → ℕ
position Start = 0
position (InRows t) = table_number t

-- the heading may come, before all rows; a row of a table may come: attribute rows all before class rows
unfoldable pub heading_open : Phase → Bool
heading_open phase = eqb (position phase) 0

unfoldable pub rows_open : Phase → TableId → Bool
rows_open phase t = leb (position phase) (position (InRows t))

-- "6 no free row": only the tag's byte is looked at, "before any 4 there"
unfoldable pub room_at : SheetTag → Rows → Room
room_at Heading x = room.Free
room_at (Row t) x = cond (eqb (length (rows_in t x)) (limit t)) (room.Full t) room.Free
room_at Unknown x = room.Free

-- ---- one field

-- where reading goes on, or what it has come to, and the rows read by then
pub record Step : Type 0 where
  pub turn : Turn
  pub rows : Rows

abbrev pub step : Turn → Rows → Step
step turn x = record { turn = turn; rows = x }

-- "field 01 holding 01"
unfoldable pub is_heading : List ℕ → ℕ → ℕ → Bool
is_heading s start stop = eqb (stop - start) 1 && eqb (get_or s start 0) 1

unfoldable pub take_heading : List ℕ → ℕ → ℕ → ℕ → Phase → Turn
take_heading s at start stop phase = cond (heading_open phase && is_heading s start stop) (On stop (InRows Attributes) false) (Stop (error.Bad at))

-- the value s[start..stop) as a row, and whether it was read
abbrev pub row_out : TableId → List ℕ → ℕ → ℕ → Out
row_out t s start stop = read_row (Format.Row t) s start stop (zeros (row_width t))

abbrev pub is_read : RowRead → Bool
is_read row.Read = true
is_read (Err bad) = false

-- a row whose value was read or not: reading goes on behind it, with one row more, or stops at its innermost field
unfoldable pub row_turn : TableId → ℕ → Bool → RowRead → Turn
row_turn t stop missing row.Read = On stop (InRows t) missing
row_turn t stop missing (Err bad) = Stop (error.Bad bad.at)

unfoldable pub rows_with : TableId → Out → Rows → Rows
rows_with t o x = cond (is_read o.answer) (plus t o.row x) x

unfoldable pub take_table_row : TableId → List ℕ → ℕ → ℕ → Bool → Rows → Step
take_table_row t s start stop missing x = step (row_turn t stop missing (row_out t s start stop).answer) (rows_with t (row_out t s start stop) x)

-- a whole field, by what its tag stands for. What may not come is told at its tag, and is not looked into
unfoldable pub take_tagged : SheetTag → List ℕ → ℕ → Phase → Bool → ℕ → ℕ → Rows → Step
take_tagged Heading s at phase missing start stop x = step (take_heading s at start stop phase) x
take_tagged (Row t) s at phase missing start stop x =
    cond (rows_open phase t) (take_table_row t s start stop missing x) (step (Stop (error.Bad at)) x)
take_tagged Unknown s at phase missing start stop x = step (Stop (error.Bad at)) x

-- the field in front; one that is cut is told at its tag
unfoldable pub field_step : FieldRead → List ℕ → ℕ → Phase → Bool → Rows → Step
field_step (Ok (Some field)) s at phase missing x = take_tagged (sheet_tag field.tag) s at phase missing field.start field.end x
field_step fields.End s at phase missing x = step (Stop (error.Bad at)) x
field_step (Err bad) s at phase missing x = step (Stop (error.Bad at)) x

unfoldable pub room_step : Room → Rows → Step → Step
room_step (Err error) x else = step (Stop error) x
room_step room.Free x else = else

unfoldable pub take_field : List ℕ → ℕ → Phase → Bool → Rows → Step
take_field s at phase missing x = room_step (room_at (sheet_tag (get_or s at 0)) x) x (field_step (field_at s at (length s)) s at phase missing x)

-- ---- all fields

-- what reading comes to, and the rows read by then
pub record SheetOut : Type 0 where
  pub answer : SheetRead
  pub rows : Rows

abbrev pub sheet_out : SheetRead → Rows → SheetOut
sheet_out answer x = record { answer = answer; rows = x }

unfoldable pub onward : (ℕ → Phase → Bool → Rows → SheetOut) → Turn → Rows → SheetOut
onward rest (Ok progress) x = rest progress.at progress.phase progress.missing x
onward rest (Err error) x = sheet_out (Err error) x

-- the end of the sheet: "a missing field .. by the end of that value"
unfoldable pub ended : List ℕ → ℕ → Bool → Rows → SheetOut
ended s at missing x = sheet_out (cond missing (Bad at) Read) x

-- the fields from a place on, at most n of them. A field takes three bytes at the least, so as many as there are bytes are enough
unfoldable pub read_from : ℕ → List ℕ → ℕ → Phase → Bool → Rows → SheetOut
read_from zero s at phase missing x = cond (eqb at (length s)) (ended s at missing x) (sheet_out (Bad at) x)
read_from (suc n) s at phase missing x =
    cond (eqb at (length s)) (ended s at missing x) (onward (read_from n s) (take_field s at phase missing x).turn (take_field s at phase missing x).rows)

-- a whole sheet
unfoldable pub read_sheet : List ℕ → SheetOut
read_sheet s = read_from (length s) s 0 Start true no_rows
