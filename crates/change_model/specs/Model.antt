-- What a change comes to, from rows alone: no store, no kept set and no call is in it. Document 01: "The smallest number whose condition holds."
use Rattle.std.specs.Prelude.{eqb, ℕ, List, [], ◌++◌, ◌∷◌, cond, Err}
use Rattle.schema.specs.declared.number.TableId.TheVariants.{Attributes, Classes}
use Rattle.schema.specs.declared.answer.Answer.{Answer}
use Rattle.schema.specs.Store.{Schema}
use Rattle.schema.specs.Answers.{refused, changed}
use Rattle.change_read.specs.declared.read.Change.TheVariants.{Add, SetRange, Rename, Deactivate, Reactivate, AddEntry, RemoveEntry}
use Rattle.change_read.specs.ChangeRead.{Bad, Read}
use Rattle.change_read.specs.ChangeRead.{ChangeRead}
use Rattle.change_read.specs.Reading.{change_answer}
use Rattle.change_read.specs.Carried.{entry_of, list_of, target_of}
use Rattle.change_read.specs.declared.read.Change.{Change}
use Rattle.rules.specs.declared.row.Added.TheVariants.{Nothing, Class, Entry}
use Rattle.rules.specs.declared.row.Added.{Added}
use Rattle.graph.specs.Graph.{mandatory_differs}
use Rattle.rules.specs.Rules.{row_cases, schema_rules}
use Rattle.rules.specs.Judge.{broken_cases}
use Rattle.prelude.specs.First.{Case, ◌when◌, first_of}
use Rattle.change_asked.specs.Asked.{asked_cases}
use Rattle.change_rows.specs.Lists.{list_table}
use Rattle.change_rows.specs.Rows.{number_for, schema_after, table_for}
use Rattle.schema.specs.Refusals as refusal

-- what the change adds, to a schema of n classes, that a rule binds by itself: a class, or an entry of a list
abbrev pub added_by : Change → List ℕ → ℕ → Added
added_by (Add Attributes) r n = Nothing
added_by (Add Classes) r n = Class (record { 0 = n })
added_by SetRange r n = Nothing
added_by (Rename t) r n = Nothing
added_by (Deactivate t) r n = Nothing
added_by (Reactivate t) r n = Nothing
added_by AddEntry r n = Entry (record { 0 = target_of r }) (list_table (list_of r)) (entry_of r)
added_by RemoveEntry r n = Nothing

-- "12 to 29 schema rules below", of the whole result; "30 some present class's mandatory set would differ"
abbrev pub result_cases : Change → List ℕ → Schema → List Case
result_cases change r m =
    broken_cases (schema_rules (added_by change r m.classes.count)) (schema_after change r m)
    ++ ((refusal.mandatory_differs when mandatory_differs m.classes (schema_after change r m).classes) ∷ [])

-- of the quick change: 12 to 29 "for the changed row alone, against all rows", these after the change
abbrev pub changed_cases : Change → List ℕ → Schema → List Case
changed_cases change r m =
    row_cases (schema_rules (added_by change r m.classes.count)) (schema_after change r m) (table_for change) (number_for change r m)

-- the numbers from 5 on, in the order of judging, row for row
abbrev pub change_cases : Change → List ℕ → Schema → List Case
change_cases change r m = asked_cases change r m ++ result_cases change r m

unfoldable pub change_number : Change → List ℕ → Schema → ℕ
change_number change r m = first_of (change_cases change r m)

-- the answer of a number: "0 done; table and row changed or added"; "with changes, table and place are 0 on refusal, but for 4"
unfoldable pub answer_by : Change → List ℕ → Schema → ℕ → Answer
answer_by change r m n = cond (eqb n refusal.done) (changed (table_for change) (number_for change r m)) (refused n)

-- the answer to what reading a change came to: "4 .. change unreadable; place is the byte offset", or a number from 5 on
unfoldable pub answer_to : ChangeRead → List ℕ → Schema → Answer
answer_to (Err bad) r m = change_answer (Err bad)
answer_to (Read change) r m = answer_by change r m (change_number change r m)

-- the rows after it: changed where it is done, else as they were
unfoldable pub rows_after : ChangeRead → List ℕ → Schema → Schema
rows_after (Err bad) r m = m
rows_after (Read change) r m = cond (eqb (change_number change r m) refusal.done) (schema_after change r m) m
