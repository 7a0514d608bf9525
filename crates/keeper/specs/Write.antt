-- Write: the stores as a sheet. Document 01: "0 done; .. for a write 0 and the length"; "31 write: output too short; place is the length needed".
-- Stores in shape but not in order are written too (docs/DECISIONS.md, R40).
use Rattle.std.specs.Prelude.{cond, List, [], ◌∷◌, ◌++◌, ℕ, eqb, ltb, length}
use Rattle.prelude.specs.Part.{splice}
use Rattle.schema.specs.Store.{Stores, schema_of}
use Rattle.schema.specs.declared.answer.Answer.{Answer}
use Rattle.schema.specs.Answers.{short_output, done}
use Rattle.sheet_write.specs.Writing.{sheet_bytes}
use Rattle.schema.specs.Answering.{answer_if, first_answer}
use Rattle.keeper.specs.InShape.{shape_answers}
use Rattle.schema.specs.Refusals as refusal

-- the sheet of the stores
abbrev pub sheet_of : Stores → List ℕ
sheet_of s = sheet_bytes (schema_of s)

-- what a write comes to: its answer, and the output as it leaves it
pub record Written : Type 0 where
  pub answer : Answer
  pub output : List ℕ

abbrev pub written : Answer → List ℕ → Written
written a out = record { answer = a; output = out }

unfoldable pub write_answer : Stores → List ℕ → Answer
write_answer s out =
    first_answer
    (shape_answers s ++ (answer_if (ltb (length out) (length (sheet_of s))) (short_output (length (sheet_of s))) ∷ []))
    (done (length (sheet_of s)))

-- the sheet stands at the front of the output, and what stood behind it stays; "Refused .. writes .. alter nothing"
unfoldable pub write : Stores → List ℕ → Written
write s out = written (write_answer s out) (cond (eqb (write_answer s out).number refusal.done) (splice 0 (sheet_of s) out) out)
