-- Reading a row by its table of columns, one field after the other. Document 01: "whose values are fields in rising tag order, each once"; "Number 4
-- tells the first field that cannot be accepted (the innermost; out of order counts) by its tag's offset; a missing field, where the rest of its
-- value is sound, by the end of that value; leftover bytes by their start."
-- It goes through the table and not through the bytes: a column takes the field in front, refuses it, or leaves it to the next column. A field that no
-- column takes, unknown, repeated or out of order, then stands before the end, and that is the place told. What is missing is looked at last.
use Rattle.std.specs.Prelude.{Bool, cond, ◌||◌, List, [], ◌∷◌, Some, None, Result, Ok, Err, ℕ, ◌-◌, eqb}
use Rattle.prelude.specs.Part.{part, splice, zeros}
use Rattle.wire.specs.Wire.{field_at}
use Rattle.wire.specs.FieldRead.{FieldRead}
use Rattle.wire.specs.declared.BadField.{BadField}
use Rattle.schema.specs.declared.answer.Answer.{Answer}
use Rattle.schema.specs.Answers.{unreadable, passed}
use Rattle.rows_format.specs.declared.column.Column.{Column}
use Rattle.rows_format.specs.Columns.{required, column_width, takes, cell_of}
use Rattle.rows_read.specs.declared.field.Progress.{Progress}
use Rattle.rows_read.specs.RowRead.{RowRead}
use Rattle.rows_read.specs.RowRead.{Read, Bad}
use Rattle.rows_read.specs.Turn.{Turn, Passed, Refused}

-- what a column makes of the field in front, at a place: it takes its own, leaves that of another column, and refuses one that cannot be accepted
unfoldable pub turn_of : List ℕ → ℕ → Column → FieldRead → Turn
turn_of s at r (Ok None) = Passed
turn_of s at r (Err bad) = Refused at
turn_of s at r (Ok (Some field)) =
    cond (eqb field.tag r.tag) (cond (takes r (part field.start (field.end - field.start) s)) (Ok (Some field)) (Refused at)) Passed

-- where reading goes on, and whether a required field is missing so far; or the field that is refused
abbrev pub Took : Type 0
Took = Result Progress BadField

abbrev pub next : ℕ → Bool → Took
next at missing = Ok (record { at = at; missing = missing })

unfoldable pub took_of : Column → ℕ → Bool → Turn → Took
took_of r at missing (Ok (Some field)) = next field.end missing
took_of r at missing Passed = next at (required r.presence || missing)
took_of r at missing (Err bad) = Err bad

-- what becomes of the row: the column's cell holds the value, or is zero
unfoldable pub row_of : List ℕ → Column → List ℕ → Turn → List ℕ
row_of s r row (Ok (Some field)) = splice r.at (cell_of r (part field.start (field.end - field.start) s)) row
row_of s r row Passed = splice r.at (zeros (column_width r)) row
row_of s r row (Err bad) = row

-- the answer, and the row as it is then
pub record Out : Type 0 where
  pub answer : RowRead
  pub row : List ℕ

abbrev pub out : RowRead → List ℕ → Out
out answer row = record { answer = answer; row = row }

unfoldable pub onward : (ℕ → Bool → List ℕ → Out) → Took → List ℕ → Out
onward rest (Ok progress) row = rest progress.at progress.missing row
onward rest (Err bad) row = out (Err bad) row

-- the fields of s from at up to end
unfoldable pub read_by : List ℕ → ℕ → List Column → ℕ → Bool → List ℕ → Out
read_by s end [] at missing row = out (cond (eqb at end) (cond missing (Bad end) Read) (Bad at)) row
read_by s end (r ∷ rs) at missing row =
    onward (read_by s end rs) (took_of r at missing (turn_of s at r (field_at s at end))) (row_of s r row (turn_of s at r (field_at s at end)))

-- the number and place that a reading gives
abbrev pub row_answer : RowRead → Answer
row_answer Read = passed
row_answer (Err bad) = unreadable bad.at
