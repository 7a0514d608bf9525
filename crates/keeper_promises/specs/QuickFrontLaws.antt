-- A quick change touches no byte past the lengths, on any stores, in order or not, and leaves stores of bytes such.
use Rattle.std.specs.Prelude.{List, [], ◌++◌, ◌∷◌, ◌≡◌, ◌<◌, ℕ, Err}
use Rattle.std.proofs.Common.{◌∙◌, ap, subst, sym, arith}
use Rattle.std.proofs.Math.Path.{refl}
use Rattle.std.proofs.Math.Decide.{ℕ_discrete}
use Rattle.closure_change.proofs.KeptLaws.{after_past}
use Rattle.prelude.specs.First.{Case, ◌when◌, first_of}
use Rattle.prelude.specs.FirstLaws.{append_first, append_second}
use Rattle.prelude.specs.Part.{Bytes}
use Rattle.prelude.specs.SaysLaws.{says_eq, says_true}
use Rattle.schema.specs.Answers.{passed}
use Rattle.schema.specs.Numbers.{class_limit}
use Rattle.schema.specs.Store.{Schema, Stores, schema_of}
use Rattle.schema.specs.declared.answer.Answer.{Answer}
use Rattle.schema.specs.declared.number.TableId.TheVariants.{Classes}
use Rattle.change_read.specs.ChangeLaws.{Reads}
use Rattle.change_read.specs.Reading.{change_out, read_change}
use Rattle.change_read.specs.declared.read.Change.{Change}
use Rattle.change_read.specs.declared.read.Change.TheVariants.{Add}
use Rattle.change_read.specs.ChangeRead.{ChangeRead}
use Rattle.change_read.specs.ChangeRead.{Bad, Read}
use Rattle.change_rows.specs.Rows.{schema_after}
use Rattle.change_asked.specs.Asked.{asked_cases, first_asked}
use Rattle.change_asked.specs.AskedLaws.{asked_room}
use Rattle.change_model.specs.Model.{changed_cases}
use Rattle.change_model.specs.ModelLaws.{answer_number}
use Rattle.change_model.specs.Sound.{row_number}
use Rattle.schema.specs.Answering.{first_answer}
use Rattle.keeper.specs.InShape.{InShape, shape_answers}
use Rattle.schema.specs.AnsweringLaws.{refused_any, zero_iff_pass}
use Rattle.keeper.specs.InShapeLaws.{shape_passed}
use Rattle.keeper_change.specs.Quick.{quick_answer, quick_change, quick_differs, quick_made, quick_number, quick_read, quick_to}
use Rattle.keeper_promises.specs.PlainFrontLaws.{made_bytes, made_past, past_reflexive}
use Rattle.keeper_promises.specs.BytesLaws.{closure_after_bytes}
use Rattle.keeper_promises.specs.Promises.{OfBytes, SamePast}
use Rattle.keeper_promises.specs.QuickLaws.{quick_kept, quick_shaped}
use Rattle.schema.specs.Refusals as refusal

-- ---- the call

-- numbers 5 to 11 come before all others
quick_asked : (change : Change) (r : List ℕ) (m : Schema) (k : List ℕ) → quick_number change r m k ≡ 0 → first_asked change r m ≡ 0
unfolding quick_number first_asked
quick_asked change r m k z = go (ℕ_discrete (first_asked change r m) 0)
  where
    go : Dec (first_asked change r m ≡ 0) → first_asked change r m ≡ 0
    go (yes e) = e
    go (no d) = absurd (d (sym (append_first (asked_cases change r m) _ d) ∙ z))

-- where the numbers from 5 on say nothing, the rules of the changed row do not either
pub row_zero : (change : Change) (r : List ℕ) (m : Schema) (closure : List ℕ) → quick_number change r m closure ≡ 0 → row_number change r m ≡ 0
unfolding quick_number first_asked
row_zero change r m closure zero = go (ℕ_discrete (row_number change r m) 0)
  where
    thirty : List Case
    thirty = (refusal.mandatory_differs when quick_differs change r m closure) ∷ []

    result_zero : first_of (changed_cases change r m ++ thirty) ≡ 0
    result_zero = sym (append_second (asked_cases change r m) (changed_cases change r m ++ thirty) (omega arith) (quick_asked change r m closure zero)) ∙ zero

    go : Dec (row_number change r m ≡ 0) → row_number change r m ≡ 0
    go (yes e) = e
    go (no d) = absurd (d (sym (append_first (changed_cases change r m) thirty d) ∙ result_zero))

module _ (x : List ℕ) (bytes : Bytes x) (s : Stores) where
  abbrev m : Schema
  m = schema_of s

  abbrev Done : Type 0
  Done = (quick_change x s).answer.number ≡ 0

  -- a 0 comes from stores in shape
  done_shape : Done → InShape s
  unfolding quick_change quick_read quick_answer
  done_shape z = shape_passed s ((zero_iff_pass (shape_answers s) passed refl).0 (go (ℕ_discrete (first_answer (shape_answers s) passed).number 0)))
    where
      go : Dec ((first_answer (shape_answers s) passed).number ≡ 0) → (first_answer (shape_answers s) passed).number ≡ 0
      go (yes e) = e
      go (no d) = absurd (d (ap (λ (a : Answer). a.number) (refused_any (shape_answers s) passed _ refl d) ∙ z))

  abbrev r : List ℕ
  r = (read_change x).row

  -- and from a change that reads and that the numbers from 5 on let pass; then it is made
  pub record Made (change : Change) : Type 0 where
    pub reads : Reads x change r
    pub shape : InShape s
    pub number : quick_number change r m s.closure ≡ 0
    pub left : (quick_change x s).left ≡ quick_made (Read change) r s

  left_made : Done → (quick_change x s).left ≡ quick_made (read_change x).answer r s
  unfolding quick_change quick_read
  left_made z = rw (says_true (says_eq (quick_answer (read_change x).answer r s).number 0) z)

  told_number : Done → (y : ChangeRead) → (read_change x).answer ≡ y → (quick_to y r s).number ≡ 0
  told_number z y e =
      ap (λ (a : Answer). a.number) (sym (quick_shaped x s (done_shape z) ∙ ap (λ (w : ChangeRead). quick_to w r s) e)) ∙ z

  pub done_reads : Done → (change : Change) × ((read_change x).answer ≡ Read change)
  done_reads z = go (read_change x).answer refl
    where
      go : (y : ChangeRead) → (read_change x).answer ≡ y → (change : Change) × ((read_change x).answer ≡ Read change)
      go (Err bad) e = let q : ◌≡◌ {A = ℕ} 4 0 = told_number z (Err bad) e in absurd (omega arith)
      go (Read change) e = (change, e)

  pub made : Done → (change : Change) → (read_change x).answer ≡ Read change → Made change
  made z change e = record {
    reads = ap (λ (w : ChangeRead). change_out w r) e;
    shape = done_shape z;
    number = sym (answer_number change r m (quick_number change r m s.closure)) ∙ told_number z (Read change) e;
    left = left_made z ∙ ap (λ (w : ChangeRead). quick_made w r s) e;
  }

  module _ (change : Change) (h : Made change) where
    pub allowed : InShape s × (first_asked change r m ≡ 0)
    allowed = (h.shape, quick_asked change r m s.closure h.number)

    pub room : change ≡ Add Classes → m.classes.count < class_limit
    room e = asked_room (Add Classes) r m (rw e at allowed.1) refl

    left_past : SamePast (quick_made (Read change) r s) s
    left_past =
        let p = made_past change x r bytes h.reads s allowed in
        record {
          attributes = p.attributes;
          classes = p.classes;
          closure = after_past s.closure h.shape.long.closure change r (schema_after change r m).classes m.classes.count room;
        }

    left_bytes : OfBytes s → OfBytes (quick_made (Read change) r s)
    left_bytes b =
        let p = made_bytes change x r bytes h.reads s allowed b in
        record {
          attributes = p.attributes;
          classes = p.classes;
          closure = closure_after_bytes s.closure b.closure change r (schema_after change r m).classes m.classes.count;
        }

  pub quick_past : SamePast (quick_change x s).left s
  quick_past = go (ℕ_discrete (quick_change x s).answer.number 0)
    where
      go : Dec Done → SamePast (quick_change x s).left s
      go (yes z) =
          let c = done_reads z in
          let h = made z c.0 c.1 in subst (λ (w : Stores). SamePast w s) (sym h.left) (left_past c.0 h)
      go (no d) = subst (λ (w : Stores). SamePast w s) (sym (quick_kept x s d)) (past_reflexive s)

  pub quick_bytes : OfBytes s → OfBytes (quick_change x s).left
  quick_bytes b = go (ℕ_discrete (quick_change x s).answer.number 0)
    where
      go : Dec Done → OfBytes (quick_change x s).left
      go (yes z) =
          let c = done_reads z in
          let h = made z c.0 c.1 in subst OfBytes (sym h.left) (left_bytes c.0 h b)
      go (no d) = subst OfBytes (sym (quick_kept x s d)) b
