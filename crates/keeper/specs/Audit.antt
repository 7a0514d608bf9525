-- Audit: "are the stores in order?" Document 01: "*Shape*: counts within limits, every field one that the reader could have stored, unused rows zero";
-- "*In order*: shape, rules 12 to 29, and kept sets equal to those worked out afresh, zero for unused rows."
use Rattle.std.specs.Prelude.{not, [], ◌∷◌, ◌++◌}
use Rattle.schema.specs.Store.{Stores, schema_of}
use Rattle.schema.specs.declared.answer.Answer.{Answer}
use Rattle.schema.specs.Answers.{passed}
use Rattle.graph.specs.Graph.{is_fresh}
use Rattle.rules.specs.declared.row.Added.TheVariants.{Nothing}
use Rattle.rules.specs.Judge.{judged}
use Rattle.schema.specs.Answering.{refused_if, first_answer}
use Rattle.keeper.specs.InShape.{shape_answers}
use Rattle.schema.specs.Refusals as refusal

-- "3 .. Audit: only kept sets are wrong", so it stands behind rules 12 to 29, which come in the order of judging ("by number" in document 01) with "the
-- table and lowest row that break the rule found"
unfoldable pub audit : Stores → Answer
audit s =
    first_answer
    (shape_answers s ++ (judged Nothing (schema_of s) ∷ refused_if refusal.not_in_order (not (is_fresh (schema_of s).classes s.closure)) ∷ []))
    passed
