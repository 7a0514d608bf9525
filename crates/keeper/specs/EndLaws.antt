-- How the calls end: the answer that was found is the first of their lists.
use Rattle.std.proofs.Math.Bool.{not}
use mathlib.Core.List.{List, []}
use Rattle.std.specs.Prelude.{◌≡◌, ℕ, ◌≤◌, ◌<◌, length}
use Rattle.std.proofs.Math.Path.{sym}
use Rattle.std.proofs.Common.{ap, ap₂, ◌∙◌, arith}
use Rattle.prelude.specs.Part.{splice}
use Rattle.prelude.specs.SaysLaws.{says_eq, says_lt, says_true, says_false}
use Rattle.schema.specs.Store.{Stores, schema_of}
use Rattle.schema.specs.declared.answer.Answer.{Answer}
use Rattle.schema.specs.Answers.{passed, short_output, done, refused}
use Rattle.graph.specs.Depth.{depth_of, depth_answer}
use Rattle.schema.specs.Answering.{first_answer}
use Rattle.keeper.specs.InShape.{shape_answers}
use Rattle.schema.specs.AnsweringLaws.{first_last, tested_holds, tested_fails}
use Rattle.keeper.specs.Write.{sheet_of, written, write_answer, write}
use Rattle.keeper.specs.Depth.{depth}
use Rattle.keeper.specs.CheckedLaws.{shape_refused, shape_onward}
use Rattle.schema.specs.Refusals as refusal

-- ---- depth

module _ (s : Stores) (c : ℕ) {r : Answer} (is : r ≡ first_answer (shape_answers s) passed) where
  pub depth_refused : ¬ (r.number ≡ 0) → r ≡ depth s c
  unfolding depth
  depth_refused d = shape_refused s is _ _ d

  pub depth_absent : r.number ≡ 0 → (schema_of s).classes.count ≤ c → refused refusal.no_such_row ≡ depth s c
  unfolding depth
  depth_absent z l = sym (shape_onward s is z _ _ ∙ tested_holds (refused refusal.no_such_row) [] _ (λ e. omega arith)
      (ap not (says_false (says_lt c (schema_of s).classes.count) (λ m. omega arith))))

  pub depth_present : r.number ≡ 0 → c < (schema_of s).classes.count → depth_answer (depth_of (schema_of s).classes c) ≡ depth s c
  unfolding depth
  depth_present z l = sym
      (shape_onward s is z _ _ ∙ tested_fails (refused refusal.no_such_row) [] _ (ap not (says_true (says_lt c (schema_of s).classes.count) l))
      ∙ first_last _)

-- ---- write

module _ (s : Stores) (out : List ℕ) where
  -- the output, by the answer
  output_kept : ¬ ((write_answer s out).number ≡ 0) → written (write_answer s out) out ≡ write s out
  unfolding write
  output_kept d = rw (says_false (says_eq (write_answer s out).number 0) d)

  output_written : (write_answer s out).number ≡ 0 → written (write_answer s out) (splice 0 (sheet_of s) out) ≡ write s out
  unfolding write
  output_written z = rw (says_true (says_eq (write_answer s out).number 0) z)

  module _ {r : Answer} (is : r ≡ first_answer (shape_answers s) passed) where
    pub write_refused : ¬ (r.number ≡ 0) → written r out ≡ write s out
    write_refused d = ap (λ (a : Answer). written a out) e ∙ output_kept (λ z. d (ap (λ (a : Answer). a.number) e ∙ z))
      where
        e : r ≡ write_answer s out
        e = unfold write_answer in (shape_refused s is _ _ d)

    pub write_short : (n : ℕ) → r.number ≡ 0 → n ≡ length (sheet_of s) → length out < n → written (short_output n) out ≡ write s out
    write_short n z q l = ap (λ (a : Answer). written a out) e
        ∙ output_kept (λ w. (let t : 31 ≡ 0 = ap (λ (a : Answer). a.number) e ∙ w in absurd (omega arith)))
      where
        e : short_output n ≡ write_answer s out
        e = unfold write_answer in
            (ap short_output q ∙ sym (shape_onward s is z _ _ ∙ tested_holds (short_output (length (sheet_of s))) [] _ (λ w. omega arith)
            (says_true (says_lt (length out) (length (sheet_of s))) (omega arith))))

    pub write_done : (n : ℕ) (a : Answer) (new : List ℕ) → a ≡ done n → r.number ≡ 0 → n ≡ length (sheet_of s) → n ≤ length out → new
        ≡ splice 0 (sheet_of s) out → written a new ≡ write s out
    write_done n a new d z q l w = ap₂ (λ (a : Answer) (x : List ℕ). written a x) (d ∙ e) w ∙ output_written (sym (ap (λ (a : Answer). a.number) e))
      where
        e : done n ≡ write_answer s out
        e = unfold write_answer in
            (ap done q ∙ sym (shape_onward s is z _ _ ∙ tested_fails (short_output (length (sheet_of s))) [] _
            (says_false (says_lt (length out) (length (sheet_of s))) (λ m. omega arith)) ∙ first_last _))
