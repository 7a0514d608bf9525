-- Audit, depth and write look at the first bytes of the stores alone (docs/DECISIONS.md, R36): stores that are alike get the same answer, and are
-- written the same.
use Rattle.std.specs.Prelude.{Bool, cond, false, not, ◌≡◌, refl, eqb, ltb, length}
use mathlib.Core.List.{List, [], ◌++◌, ◌∷◌}
use Rattle.std.proofs.Math.Logic.{⊎_elim}
use Rattle.std.proofs.Common.{◌∙◌, arith}
use Rattle.std.proofs.Math.Path.{ap, ap₂, sym}
use Prim.Native.Nat.{◌<◌, ℕ}
use Rattle.prelude.specs.Part.{part, splice}
use Rattle.prelude.specs.SaysLaws.{says_false, says_lt, says_split, says_test}
use Rattle.schema.specs.Answers.{done, passed, refused, short_output}
use Rattle.schema.specs.Layout.{store_length}
use Rattle.schema.specs.Store.{Stores, any_short, schema_of}
use Rattle.schema.specs.declared.answer.Answer.{Answer}
use Rattle.schema.specs.declared.number.TableId.TheVariants.{Attributes, Classes}
use Rattle.tables.specs.Same.{SameRows}
use Rattle.tables.specs.SameLaws.{store_same}
use Rattle.graph.specs.Depth.{depth_answer, depth_of}
use Rattle.graph.specs.FrontLaws.{fresh_front}
use Rattle.graph.specs.Graph.{is_fresh}
use Rattle.graph.proofs.SameLaws.{depth_same, fresh_same}
use Rattle.rules.proofs.SameLaws.{judged_same}
use Rattle.rules.specs.declared.row.Added.TheVariants.{Nothing}
use Rattle.tables_shape.proofs.FrontLaws.{formed_front}
use Rattle.tables_shape.specs.Shape.{StoresFormed, stores_formed}
use Rattle.tables_shape.proofs.ShapeLaws.{says_formed}
use Rattle.sheet_write.specs.SameLaws.{sheet_same}
use Rattle.schema.specs.Answering.{answer_if, first_answer, refused_if}
use Rattle.keeper.specs.InShape.{InShape, shape_answers}
use Rattle.schema.specs.AnsweringLaws.{append_passed, append_refused, tested_holds}
use Rattle.keeper.specs.InShapeLaws.{broken_stores, not_short, passed_shape}
use Rattle.keeper.specs.Audit.{audit}
use Rattle.keeper.specs.Depth.{depth}
use Rattle.keeper.specs.Write.{sheet_of, write, write_answer, written}
use Rattle.keeper_promises.specs.Promises.{Alike}
use Rattle.schema.specs.Refusals as refusal

-- stores that are out of shape: 2, whatever the call asks besides
two : (s : Stores) (more : List Answer) (last : Answer) → any_short s ≡ false → stores_formed s.attributes s.classes ≡ false
    → first_answer (shape_answers s ++ more) last ≡ refused refusal.broken_shape
two s more last e f =
    let b : refused refusal.broken_shape ≡ first_answer (shape_answers s) passed = broken_stores s e f in
    append_refused (shape_answers s) more passed last refl (λ z. (let q : ◌≡◌ {A = ℕ} 2 0 = ap (λ (x : Answer). x.number) b ∙ z in omega arith)) ∙ sym b

-- ---- stores whose tables begin with the same bytes

module _ (s t : Stores) (a : part 0 (store_length Attributes) s.attributes ≡ part 0 (store_length Attributes) t.attributes)
    (c : part 0 (store_length Classes) s.classes ≡ part 0 (store_length Classes) t.classes) where
  pub same_formed : stores_formed s.attributes s.classes ≡ stores_formed t.attributes t.classes
  same_formed = formed_front s.attributes t.attributes s.classes t.classes a c

  -- where they are in shape, they hold the same rows
  module _ (i : InShape s) where
    shape : StoresFormed s.attributes s.classes
    shape = (says_formed s.attributes s.classes i.long.attributes i.long.classes).holds i.formed

    pub front_rows : SameRows (schema_of s) (schema_of t)
    front_rows Attributes = store_same Attributes s.attributes t.attributes a shape.attributes.few
    front_rows Classes = store_same Classes s.classes t.classes c shape.classes.few

-- ---- stores that are alike

module _ (s t : Stores) (h : Alike s t) where
  -- both are in shape, or neither is
  by_shape : {P : Type 0} → (InShape s → InShape t → P)
      → (stores_formed s.attributes s.classes ≡ false → stores_formed t.attributes t.classes ≡ false → P) → P
  by_shape shaped broken =
      let same = sym (same_formed s t h.attributes h.classes) in
      ⊎_elim (λ q. shaped (record { long = h.left; formed = q.0 }) (record { long = h.right; formed = same ∙ q.0 }))
      (λ q. broken q.0 (same ∙ q.0)) (says_split (says_test (stores_formed s.attributes s.classes)))

  -- and then they hold the same rows
  module _ (i : InShape s) where
    pub same_rows : SameRows (schema_of s) (schema_of t)
    same_rows = front_rows s t h.attributes h.classes i

    pub same_fresh : is_fresh (schema_of s).classes s.closure ≡ is_fresh (schema_of t).classes t.closure
    same_fresh = fresh_same (same_rows Classes) s.closure ∙ fresh_front s.closure t.closure h.closure (schema_of t).classes

    same_sheet : sheet_of s ≡ sheet_of t
    same_sheet = sheet_same same_rows

  -- a call whose further answers are the same where they are in shape
  pub answers_alike : (p q : List Answer) (x y : Answer) → (InShape s → first_answer p x ≡ first_answer q y) → first_answer (shape_answers s ++ p) x
      ≡ first_answer (shape_answers t ++ q) y
  answers_alike p q x y e =
      by_shape
      (λ i j. append_passed (shape_answers s) p x (passed_shape s i) ∙ e i ∙ sym (append_passed (shape_answers t) q y (passed_shape t j)))
      (λ f g. two s p x (not_short s h.left) f ∙ sym (two t q y (not_short t h.right) g))

  -- ---- the calls

  pub audit_alike : audit s ≡ audit t
  unfolding audit
  audit_alike =
      answers_alike _ _ passed passed
      (λ i. ap₂ (λ (x : Answer) (y : Bool). first_answer (x ∷ refused_if refusal.not_in_order (not y) ∷ []) passed) (judged_same (same_rows i) Nothing)
      (same_fresh i))

  pub depth_alike : (c : ℕ) → depth s c ≡ depth t c
  unfolding depth
  depth_alike c = answers_alike _ _ _ _ (λ i. ⊎_elim (λ q. there i q.1) (λ q. absent i q.1) (says_split (says_lt c (schema_of s).classes.count)))
    where
      call : ℕ → Answer → Answer
      call n x = first_answer (refused_if refusal.no_such_row (not (ltb c n)) ∷ []) x

      Equal : Type 0
      Equal = call (schema_of s).classes.count (depth_answer (depth_of (schema_of s).classes c))
          ≡ call (schema_of t).classes.count (depth_answer (depth_of (schema_of t).classes c))

      there : InShape s → c < (schema_of s).classes.count → Equal
      there i l = ap₂ call (same_rows i Classes).count (ap depth_answer (depth_same (same_rows i Classes) c l))

      five : (n : ℕ) (x : Answer) → ¬ (c < n) → call n x ≡ refused refusal.no_such_row
      five n x d = tested_holds (refused refusal.no_such_row) [] x (λ z. omega arith) (ap not (says_false (says_lt c n) d))

      absent : InShape s → ¬ (c < (schema_of s).classes.count) → Equal
      absent i d = five _ _ d ∙ sym (five _ _ (λ l. d (omega (arith, (same_rows i Classes).count))))

  answer_alike : (out : List ℕ) → write_answer s out ≡ write_answer t out
  unfolding write_answer
  answer_alike out =
      answers_alike _ _ _ _
      (λ i. ap (λ (x : List ℕ). first_answer (answer_if (ltb (length out) (length x)) (short_output (length x)) ∷ []) (done (length x)))
      (same_sheet i))

  pub write_alike : (out : List ℕ) → write s out ≡ write t out
  unfolding write write_answer
  write_alike out = by_shape (λ i j. shaped i) (λ f g. broken s (two s _ _ (not_short s h.left) f) ∙ sym (broken t (two t _ _ (not_short t h.right) g)))
    where
      shaped : InShape s → write s out ≡ write t out
      shaped i = unfold write in (ap₂ (λ (x : Answer) (y : List ℕ). written x (cond (eqb x.number 0) (splice 0 y out) out)) (answer_alike out)
          (same_sheet i))

      broken : (r : Stores) → write_answer r out ≡ refused refusal.broken_shape → write r out ≡ written (refused refusal.broken_shape) out
      broken r e = unfold write in (ap (λ (x : Answer). written x (cond (eqb x.number 0) (splice 0 (sheet_of r) out) out)) e)
