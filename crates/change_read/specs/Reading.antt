-- Reading a change. Document 01: "A change is one field"; "Number 4 tells the first field that cannot be accepted (the innermost; out of order counts) by its
-- tag's offset; a missing field, where the rest of its value is sound, by the end of that value; leftover bytes by their start."
-- docs/DECISIONS.md, R24: without bytes that one field is missing, at 0; its tag stands at 0; what stands behind it is looked at last.
use Rattle.std.specs.Prelude.{cond, List, ◌≡◌, ℕ, eqb, length, Some, None, Option, Ok, Err}
use Rattle.prelude.specs.Part.{zeros}
use Rattle.wire.specs.FieldRead.{FieldRead}
use Rattle.wire.specs.Wire.{field_at}
use Rattle.schema.specs.Layout.{class_width}
use Rattle.schema.specs.declared.number.TableId.TheVariants.{Attributes, Classes}
use Rattle.schema.specs.Answers.{passed, unreadable}
use Rattle.schema.specs.declared.answer.Answer.{Answer}
use Rattle.rows_format.specs.declared.format.Format.{Format}
use Rattle.rows_format.specs.declared.format.Format.TheVariants.{NewRow, Range, Name, Target, Entry}
use Rattle.rows_read.specs.RowRead.{RowRead}
use Rattle.rows_read.specs.ObjectClass.{read_row}
use Rattle.change_read.specs.declared.read.Change.{Change}
use Rattle.change_read.specs.declared.read.Change.TheVariants.{Add, SetRange, Rename, Deactivate, Reactivate, AddEntry, RemoveEntry}
use Rattle.change_read.specs.ChangeRead.{ChangeRead}
use Rattle.change_read.specs.ChangeRead.{Read, Bad}
use Rattle.wire.specs.FieldRead as fields
use Rattle.rows_read.specs.RowRead as rows

-- the number and place that a reading gives
abbrev pub change_answer : ChangeRead → Answer
change_answer (Read change) = passed
change_answer (Err bad) = unreadable bad.at

-- "40, 41 add attribute, class (value as a row, no 05); 42 range; 43, 44 name of attribute, class; 45, 46 deactivate; 47, 48 reactivate; 49, 4A list
-- addition, removal", with the paper's hex beside each tag
unfoldable pub change_of : ℕ → Option Change
change_of tag =
    cond (eqb tag 64) (Some (Add Attributes))  -- 40
    (cond (eqb tag 65) (Some (Add Classes))  -- 41
    (cond (eqb tag 66) (Some SetRange)  -- 42
    (cond (eqb tag 67) (Some (Rename Attributes))  -- 43
    (cond (eqb tag 68) (Some (Rename Classes))  -- 44
    (cond (eqb tag 69) (Some (Deactivate Attributes))  -- 45
    (cond (eqb tag 70) (Some (Deactivate Classes))  -- 46
    (cond (eqb tag 71) (Some (Reactivate Attributes))  -- 47
    (cond (eqb tag 72) (Some (Reactivate Classes))  -- 48
    (cond (eqb tag 73) (Some AddEntry)  -- 49
    (cond (eqb tag 74) (Some RemoveEntry) None))))))))))  -- 4A

-- "42 to 4A begin with field 20, the target, any u16; then 0A and 0B .., or 01, or 21 .. and 22, the entry": the format that its value is read by
unfoldable pub format_of : Change → Format
format_of (Add t) = NewRow t
format_of SetRange = Range
format_of (Rename t) = Name
format_of (Deactivate t) = Target
format_of (Reactivate t) = Target
format_of AddEntry = Entry
format_of RemoveEntry = Entry

-- what reading comes to, and the scratch row, of zeros at first, as it leaves it
pub record ChangeOut : Type 0 where
  pub answer : ChangeRead
  pub row : List ℕ

abbrev pub change_out : ChangeRead → List ℕ → ChangeOut
change_out answer row = record { answer = answer; row = row }

abbrev pub scratch : List ℕ
scratch = zeros class_width

-- the value that ends at stop was read: "leftover bytes by their start"
unfoldable pub whole_read : Change → List ℕ → ℕ → RowRead → ChangeRead
whole_read change s stop rows.Read = cond (eqb stop (length s)) (Read change) (Bad stop)
whole_read change s stop (Err bad) = Err bad

-- the value s[start..stop) of a change
unfoldable pub read_value : Change → List ℕ → ℕ → ℕ → ChangeOut
read_value change s start stop =
    change_out (whole_read change s stop (read_row (format_of change) s start stop scratch).answer) (read_row (format_of change) s start stop scratch).row

-- by its tag, which stands at 0
unfoldable pub tagged_out : Option Change → List ℕ → ℕ → ℕ → ChangeOut
tagged_out (Some change) s start stop = read_value change s start stop
tagged_out None s start stop = change_out (Bad 0) scratch

-- the field in front, which may be missing or cut
unfoldable pub field_out : FieldRead → List ℕ → ChangeOut
field_out fields.End s = change_out (Bad 0) scratch
field_out (Err bad) s = change_out (Err bad) scratch
field_out (Ok (Some field)) s = tagged_out (change_of field.tag) s field.start field.end

-- a change
unfoldable pub read_change : List ℕ → ChangeOut
read_change s = field_out (field_at s 0 (length s)) s

-- what the code gives back and leaves in the scratch row
pub record Came (r : ChangeRead) (left : List ℕ) (o : ChangeOut) : Type 0 where
  pub answer : r ≡ o.answer
  pub row : left ≡ o.row
