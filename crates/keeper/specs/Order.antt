-- Stores in order. Document 01: "*In order*: shape, rules 12 to 29, and kept sets equal to those worked out afresh, zero for unused rows."
use Rattle.std.specs.Prelude.{eqb, Bool, ◌&&◌, not, List, [], ◌++◌, ◌∷◌}
use Rattle.rules.specs.declared.row.Added.TheVariants.{Nothing}
use Rattle.rules.specs.Judge.{judged}
use Rattle.schema.specs.declared.answer.Answer.{Answer}
use Rattle.schema.specs.Store.{Stores, schema_of}
use Rattle.graph.specs.Graph.{is_fresh}
use Rattle.schema.specs.Answering.{refused_if}
use Rattle.keeper.specs.InShape.{shape_answers}
use Rattle.schema.specs.Refusals as refusal

-- of stores in shape: no row breaks a rule, and the closure is afresh
unfoldable pub in_order : Stores → Bool
in_order s = eqb (judged Nothing (schema_of s)).number refusal.done && is_fresh (schema_of s).classes s.closure

-- "3 plain change: not in order", after 1 and 2. (Audit's 3 is another condition: "only kept sets are wrong".)
abbrev pub order_answers : Stores → List Answer
order_answers s = shape_answers s ++ (refused_if refusal.not_in_order (not (in_order s)) ∷ [])
