-- Depth. Document 01: "The chain of superclasses from a class up to row 0 is counted by a *depth* call: the place is the number of steps, 0 for row 0.
-- Refusals: 1, 2, 5, and 18 where a superclass met is not earlier."
use Rattle.std.specs.Prelude.{not, [], ◌∷◌, ◌++◌, ℕ, ltb}
use Rattle.schema.specs.Store.{Stores, schema_of}
use Rattle.schema.specs.declared.answer.Answer.{Answer}
use Rattle.graph.specs.Depth.{depth_of, depth_answer}
use Rattle.schema.specs.Answering.{refused_if, first_answer}
use Rattle.keeper.specs.InShape.{shape_answers}
use Rattle.schema.specs.Refusals as refusal

unfoldable pub depth : Stores → ℕ → Answer
depth s c =
    first_answer
    (shape_answers s ++ (refused_if refusal.no_such_row (not (ltb c (schema_of s).classes.count)) ∷ []))
    (depth_answer (depth_of (schema_of s).classes c))
