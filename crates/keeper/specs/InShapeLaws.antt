-- What it means that the stores pass as in shape.
use Rattle.std.specs.Prelude.{true, false, not, [], ◌≡◌}
use Rattle.std.proofs.Common.{⊎_elim, sym, ap, ◌∙◌, arith}
use Rattle.std.proofs.lemmas.Bool.{not-false}
use Rattle.prelude.specs.SaysLaws.{says_false}
use Rattle.schema.specs.Answering.{NoneRefuses, first_answer}
use Rattle.schema.specs.AnsweringLaws.{first_last, if_fails, if_passed, tested_fails, tested_holds}
use Rattle.schema.specs.Answers.{passed, refused}
use Rattle.schema.specs.Store.{LongEnough, Stores, any_short}
use Rattle.schema.specs.StoreLaws.{long_enough, says_short}
use Rattle.schema.specs.declared.answer.Answer.{Answer}
use Rattle.tables_shape.specs.Shape.{stores_formed}
use Rattle.keeper.specs.InShape.{InShape, shape_answers}
use Rattle.schema.specs.Refusals as refusal

pub shape_passed : (s : Stores) → NoneRefuses (shape_answers s) → InShape s
shape_passed s h =
    record {
      long = long_enough s (if_passed (any_short s) (refused refusal.short_store) (omega arith) h.0);
      formed = not-false (stores_formed s.attributes s.classes)
          (if_passed (not (stores_formed s.attributes s.classes)) (refused refusal.broken_shape) (omega arith) h.1.0);
    }

-- and the converse: stores in shape pass
pub not_short : (s : Stores) → LongEnough s → any_short s ≡ false
not_short s h =
    says_false (says_short s) (⊎_elim (λ l. omega (arith, h.attributes)) (⊎_elim (λ l. omega (arith, h.classes)) (λ l. omega (arith, h.closure))))

pub passed_shape : (s : Stores) → InShape s → NoneRefuses (shape_answers s)
passed_shape s h = (
  ap (λ (x : Answer). x.number) (if_fails (any_short s) (refused refusal.short_store) (not_short s h.long)),
  (ap (λ (x : Answer). x.number) (if_fails (not (stores_formed s.attributes s.classes)) (refused refusal.broken_shape) (ap not h.formed)), tt),
)

module _ (s : Stores) where
  pub short_stores : any_short s ≡ true → refused refusal.short_store ≡ first_answer (shape_answers s) passed
  short_stores e = sym (tested_holds (refused refusal.short_store) _ passed (λ z. omega arith) e)

  pub broken_stores : any_short s ≡ false → stores_formed s.attributes s.classes ≡ false → refused refusal.broken_shape
      ≡ first_answer (shape_answers s) passed
  broken_stores e f = sym (tested_fails (refused refusal.short_store) _ passed e
      ∙ tested_holds (refused refusal.broken_shape) [] passed (λ z. omega arith) (ap not f))

  pub formed_stores : any_short s ≡ false → stores_formed s.attributes s.classes ≡ true → passed ≡ first_answer (shape_answers s) passed
  formed_stores e f = sym (tested_fails (refused refusal.short_store) _ passed e ∙ tested_fails (refused refusal.broken_shape) [] passed (ap not f)
      ∙ first_last passed)
