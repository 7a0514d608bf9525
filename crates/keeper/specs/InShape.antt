-- What every call but load asks of its stores before all else: lengths and shape.
use Rattle.std.specs.Prelude.{true, not, List, [], ◌∷◌, ◌≡◌}
use Rattle.schema.specs.Answering.{refused_if}
use Rattle.schema.specs.Store.{LongEnough, Stores, any_short}
use Rattle.schema.specs.declared.answer.Answer.{Answer}
use Rattle.tables_shape.specs.Shape.{stores_formed}
use Rattle.schema.specs.Refusals as refusal

-- "1 a lent store is shorter than its length", "2 shape broken (not at load)"
abbrev pub shape_answers : Stores → List Answer
shape_answers s = refused_if refusal.short_store (any_short s) ∷ refused_if refusal.broken_shape (not (stores_formed s.attributes s.classes)) ∷ []

-- every store has its length, and the shape is not broken
pub record InShape (s : Stores) : Type 0 where
  pub long : LongEnough s
  pub formed : stores_formed s.attributes s.classes ≡ true
