-- What the code of the judge finds: the lowest row of a table that breaks a rule, the lowest of both tables, and the first rule with such a row.
use Rattle.std.specs.Prelude.{cond, ℕ, Option, None, Some, Result, Ok, Err}
use Rattle.schema.specs.declared.answer.Answer.{Answer}
use Rattle.schema.specs.declared.number.RowId.{RowId}
use Rattle.schema.specs.declared.number.TableId.{TableId}
use Rattle.schema.specs.Answers.{broken_by, passed}
use Rattle.schema.specs.Numbers.{number_of, table_of}
use Rattle.schema.specs.Refused.{refusal_number}
use Rattle.schema.specs.Store.{Schema}
use Rattle.rules.specs.declared.judge.Broken.{Broken}
use Rattle.rules.specs.Judge.{breaks_in, first_row}
use Rattle.rules.specs.Rules.{Rule}

-- the lowest row of a table, where there is one
abbrev pub row_found : Rule → Schema → TableId → Option ℕ
row_found r m t = cond (breaks_in r m t) (Some (first_row r m t)) None

-- what the judge finds, as an answer: a row that breaks the rule of a number; a rule with such a row
abbrev pub row_answer : ℕ → Option RowId → Answer
row_answer n None = passed
row_answer n (Some id) = broken_by n (table_of id) (number_of id)

abbrev pub judge_answer : {A : Type 0} → Result A Broken → Answer
judge_answer (Ok x) = passed
judge_answer (Err found) = broken_by (refusal_number found.rule) (table_of found.row) (number_of found.row)
