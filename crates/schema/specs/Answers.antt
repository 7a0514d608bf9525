-- The answer of a call, and what each enum answer of the lower crates is in the paper's numbers.
-- Document 01: "Every answer has a number, a table (0 none, 1 attribute, 2 class) and a place; what is not named below is 0."
use Rattle.std.specs.Prelude.{◌≡◌, ℕ, Some, None, Ok, Err}
use Rattle.wire.specs.FieldRead.{FieldRead}
use Rattle.schema.specs.declared.answer.Answer.{Answer}
use Rattle.schema.specs.declared.number.TableId.{TableId}
use Rattle.schema.specs.declared.number.TableId.TheVariants.{Attributes, Classes}
use Rattle.schema.specs.Numbers.{limit}
use Rattle.schema.specs.Refusals as refusal
use Rattle.schema.specs.declared.number.ClassNumber.{ClassNumber}
use Rattle.schema.specs.declared.number.RowId.{RowId}
use Rattle.std.specs.Prelude.{Option, Some, None}

abbrev pub answer : ℕ → ℕ → ℕ → Answer
answer n t p = record { number = n; table = t; place = p; visits = 0 }

-- "a table (0 none, 1 attribute, 2 class)"
abbrev pub table_number : TableId → ℕ
table_number Attributes = 1
table_number Classes = 2

-- "0 done": with a place, or without
abbrev pub done : ℕ → Answer
done p = answer refusal.done 0 p

abbrev pub passed : Answer
passed = done 0

-- "0 done; table and row changed or added"
abbrev pub changed : TableId → ℕ → Answer
changed t k = answer refusal.done (table_number t) k

-- an answer that tells row k of a table as changed or added, by its number, table and place
pub record RowChanged (a : Answer) (t : TableId) (k : ℕ) : Type 0 where
  pub number : a.number ≡ refusal.done
  pub table : a.table ≡ table_number t
  pub place : a.place ≡ k

-- two answers with the same number, table and place
pub record SameTold (a b : Answer) : Type 0 where
  pub number : a.number ≡ b.number
  pub table : a.table ≡ b.table
  pub place : a.place ≡ b.place

abbrev pub refused : ℕ → Answer
refused n = answer n 0 0

-- "4 sheet or change unreadable; place is the byte offset"
abbrev pub unreadable : ℕ → Answer
unreadable at = answer refusal.unreadable 0 at

-- "6 no free row; at load .. with table and limit"
abbrev pub full : TableId → Answer
full t = answer refusal.no_free_row (table_number t) (limit t)

-- "31 write: output too short; place is the length needed"
abbrev pub short_output : ℕ → Answer
short_output needed = answer refusal.short_output 0 needed

-- "the table and lowest row that break the rule found"
abbrev pub broken_by : ℕ → TableId → ℕ → Answer
broken_by n t k = answer n (table_number t) k

-- ---- enum answers

-- a field that must stand there: "a missing field .. by the end of that value", one that cannot be accepted "by its tag's offset"
abbrev pub field_answer : ℕ → FieldRead → Answer
field_answer end (Ok (Some field)) = passed
field_answer end (Ok None) = unreadable end
field_answer end (Err bad) = unreadable bad.at

-- a class asked for by a number beyond the limit: "5 target row not there". A superclass beyond it is one that isn't earlier, and the depth says so.
abbrev pub class_answer : Option ClassNumber → Answer
class_answer (Some c) = passed
class_answer None = refused refusal.no_such_row

-- a target beyond the limit: "5 target row not there"
abbrev pub number_answer : Option RowId → Answer
number_answer (Some id) = passed
number_answer None = refused refusal.no_such_row
