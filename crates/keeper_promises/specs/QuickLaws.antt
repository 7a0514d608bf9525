-- What a quick change gives on any stores, in order or not: refused, it alters nothing; 1, 2 and 4.
use Rattle.std.specs.Prelude.{List, ◌≡◌, ◌<◌, ℕ}
use Rattle.std.proofs.Common.{◌∙◌, ap₂, arith}
use Rattle.std.proofs.Math.Path.{ap, refl, sym}
use Rattle.prelude.specs.SaysLaws.{says_eq, says_false, says_true}
use Rattle.schema.specs.Answers.{passed, refused, unreadable}
use Rattle.schema.specs.Store.{LongEnough, Stores, result_of}
use Rattle.schema.specs.StoreLaws.{says_short}
use Rattle.schema.specs.declared.answer.Answer.{Answer}
use Rattle.tables_shape.proofs.ShapeLaws.{says_formed}
use Rattle.change_read.specs.Reading.{read_change}
use Rattle.change_read.specs.ChangeRead.{ChangeRead}
use Rattle.change_read.specs.ChangeRead.{Bad}
use Rattle.schema.specs.Answering.{first_answer}
use Rattle.keeper.specs.InShape.{InShape, shape_answers}
use Rattle.schema.specs.AnsweringLaws.{passed_last, refused_any}
use Rattle.keeper.specs.InShapeLaws.{broken_stores, not_short, passed_shape, short_stores}
use Rattle.keeper_change.specs.Quick.{quick_answer, quick_change, quick_read, quick_to}
use Rattle.keeper_promises.specs.OrderLaws.{has_shape}
use Rattle.keeper_promises.specs.Promises.{Shape, SomeShort}
use Rattle.schema.specs.Refusals as refusal

module _ (x : List ℕ) (s : Stores) where
  abbrev read : ChangeRead
  read = (read_change x).answer

  abbrev carried : List ℕ
  carried = (read_change x).row

  -- "Refused changes .. alter nothing"
  pub quick_kept : ¬ ((quick_change x s).answer.number ≡ 0) → (quick_change x s).left ≡ s
  unfolding quick_change quick_read
  quick_kept d = rw (says_false (says_eq (quick_answer read carried s).number 0) d)

  -- so an answer that refuses is all that the call comes to
  told : (a : Answer) → ¬ (a.number ≡ 0) → (quick_change x s).answer ≡ a → quick_change x s ≡ result_of a s
  told a d e = ap₂ result_of e (quick_kept (λ z. d (sym (ap (λ (y : Answer). y.number) e) ∙ z)))

  shape_answer : (n : ℕ) → 0 < n → refused n ≡ first_answer (shape_answers s) passed → (quick_change x s).answer ≡ refused n
  unfolding quick_change quick_read quick_answer
  shape_answer n l e =
      sym (refused_any (shape_answers s) passed (quick_to read carried s) refl (λ z. (let q : n ≡ 0 = ap (λ (y : Answer). y.number) e ∙ z in omega arith)))
      ∙ sym e

  refused_shape : (n : ℕ) → 0 < n → refused n ≡ first_answer (shape_answers s) passed → quick_change x s ≡ result_of (refused n) s
  refused_shape n l e = told (refused n) (λ z. omega arith) (shape_answer n l e)

  pub quick_one : SomeShort s → quick_change x s ≡ result_of (refused refusal.short_store) s
  quick_one e = refused_shape refusal.short_store (omega arith) (short_stores s (says_true (says_short s) e))

  pub quick_two : LongEnough s → ¬ Shape s → quick_change x s ≡ result_of (refused refusal.broken_shape) s
  quick_two h d = refused_shape refusal.broken_shape (omega arith)
      (broken_stores s (not_short s h) (says_false (says_formed s.attributes s.classes h.attributes h.classes) d))

  -- stores in shape: what comes after 1 and 2
  pub quick_shaped : InShape s → (quick_change x s).answer ≡ quick_to read carried s
  unfolding quick_change quick_read quick_answer
  quick_shaped i = passed_last (shape_answers s) (quick_to read carried s) (passed_shape s i)

  pub quick_bad : LongEnough s → Shape s → (at : ℕ) → read ≡ Bad at → quick_change x s ≡ result_of (unreadable at) s
  quick_bad long shape at e =
      told (unreadable at) (λ z. omega arith) (quick_shaped (has_shape s long shape) ∙ ap (λ (y : ChangeRead). quick_to y carried s) e)
