-- What a plain change gives, case by case.
use Rattle.std.proofs.Common.{arith, ◌∙◌, subst, subst₂}
use Rattle.std.proofs.Math.Decide.{ℕ_discrete, dec_le}
use Rattle.std.specs.Prelude.{◌<◌, ℕ, ◌≤◌, Bool, ◌&&◌, not, true, List, [], ◌↔◌, Err}
use Rattle.std.proofs.Math.Bool.{cond}
use Rattle.std.proofs.Math.Path.{◌≡◌, ap, refl, sym, ap₂}
use Rattle.change_read.specs.ChangeRead.{Read, Bad}
use Rattle.change_read.specs.ChangeRead.{ChangeRead}
use Rattle.change_read.specs.Reading.{read_change, ChangeOut, change_out}
use Rattle.change_read.specs.declared.read.Change.{Change}
use Rattle.rules.specs.declared.row.Added.TheVariants.{Nothing}
use Rattle.rules.specs.Meets.{Meets, rule_number}
use Rattle.rules.specs.Judge.{judged}
use Rattle.rules.proofs.MeetsLaws.{met_of}
use Rattle.schema.specs.declared.answer.Answer.{Answer}
use Rattle.schema.specs.Store.{LongEnough, Schema, Stores, result_of, schema_of, Result}
use Rattle.schema.specs.AnswersLaws.{told_changed}
use Rattle.schema.specs.Answers.{RowChanged, passed, refused, unreadable}
use Rattle.schema.specs.Order.{rank}
use Rattle.schema.specs.StoreLaws.{says_short}
use Rattle.keeper_promises.specs.Promises.{Fresh, InOrder, Shape, SomeShort, Accepted}
use Rattle.keeper_promises.specs.OrderLaws.{has_shape, judged_meets, meets_judged, order_shape}
use Rattle.schema.specs.AnsweringLaws.{append_passed, append_refused, first_last, if_fails, passed_last, refused_any, tested_fails, tested_holds}
use Rattle.keeper.specs.InShapeLaws.{broken_stores, not_short, passed_shape, short_stores}
use Rattle.schema.specs.Answering.{first_answer}
use Rattle.keeper.specs.InShape.{shape_answers, InShape}
use Rattle.keeper.specs.Order.{in_order, order_answers}
use Rattle.change_model.specs.Model.{answer_to, added_by, change_number, rows_after}
use Rattle.change_model.specs.Conditions.{Condition}
use Rattle.change_model.specs.ModelLaws.{answer_done, answer_number, answer_refused}
use Rattle.change_model.proofs.ConditionsLaws.{change_condition, change_least, change_zero}
use Rattle.keeper_change.specs.PlainLaws.{plain_order}
use Rattle.keeper_change.specs.Plain.{plain_answer, plain_change, plain_read, plain_made}
use Rattle.keeper_change.specs.DoneLaws.{done_fresh, done_meets, done_same, done_shape}
use Rattle.keeper_change.specs.Made.{rows_made, refreshed}
use Rattle.prelude.specs.SaysLaws.{says_eq, says_false, says_test, says_true}
use Rattle.prelude.specs.Part.{Bytes}
use Rattle.tables_shape.proofs.ShapeLaws.{says_formed}
use Rattle.tables.specs.Same.{SameRows}
use Rattle.graph.proofs.FreshLaws.{says_fresh}
use Rattle.change_rows.specs.Rows.{number_for, schema_after, table_for}
use Rattle.schema.specs.Refusals as refusal
use Rattle.keeper.specs.OrderLaws as orders

-- ---- the stores: 1, 2, 3

module _ (s : Stores) where
  -- none of them is told exactly where the stores are in order
  in_order_test : LongEnough s → Shape s → Meets Nothing (schema_of s) → Fresh s → in_order s ≡ true
  unfolding in_order
  in_order_test long shape rules fresh =
      ap₂ (λ (x y : Bool). x && y) (says_true (says_eq (judged Nothing (schema_of s)).number 0) (meets_judged s rules))
      ((says_fresh (schema_of s).classes s.closure).passes fresh)

  pub order_passes : InOrder s → first_answer (order_answers s) passed ≡ passed
  order_passes h =
      let p = passed_shape s (order_shape s h) in
      passed_last (order_answers s) passed (
        p.0,
        (
          p.1.0,
          (ap (λ (x : Answer). x.number) (if_fails _ (refused refusal.not_in_order) (ap not (in_order_test h.long h.shape h.rules h.fresh))), tt),
        ),
      )

  pub passes_order : (first_answer (order_answers s) passed).number ≡ 0 → InOrder s
  passes_order z =
      let i = orders.order_shape s refl z in
      record {
        long = i.long;
        shape = (says_formed s.attributes s.classes i.long.attributes i.long.classes).holds i.formed;
        rules = judged_meets s (orders.order_judged s refl z);
        fresh = (says_fresh (schema_of s).classes s.closure).holds (orders.order_fresh s refl z);
      }

  not_in_order_lem : LongEnough s → Shape s → ¬ InOrder s → first_answer (order_answers s) passed ≡ refused refusal.not_in_order
  not_in_order_lem long shape d =
      let p = passed_shape s (has_shape s long shape) in
      append_passed (shape_answers s) _ passed p
      ∙ tested_holds (refused refusal.not_in_order) [] passed (λ z. omega arith) (ap not (says_false (says_test (in_order s)) disorder))
    where
      disorder : ¬ (in_order s ≡ true)
      disorder e =
          d (passes_order (ap (λ (x : Answer). x.number) (append_passed (shape_answers s) _ passed (passed_shape s (has_shape s long shape))
          ∙ tested_fails (refused refusal.not_in_order) [] passed (ap not e) ∙ first_last passed)))

-- ---- the call

module _ (x : List ℕ) (s : Stores) where
  abbrev read : ChangeRead
  read = (read_change x).answer

  abbrev carried : List ℕ
  carried = (read_change x).row

  abbrev m : Schema
  m = schema_of s

  -- "Refused changes .. alter nothing"
  pub plain_kept : ¬ ((plain_change x s).answer.number ≡ 0) → (plain_change x s).left ≡ s
  unfolding plain_change plain_read
  plain_kept d = rw (says_false (says_eq (plain_answer read carried s).number 0) d)

  -- an answer of the check of the stores is the call's
  told : (a : Answer) → ¬ (a.number ≡ 0) → first_answer (order_answers s) passed ≡ a → plain_change x s ≡ result_of a s
  unfolding plain_change
  told a d e = sym (plain_order s (sym e) read carried d)

  refused_shape : (n : ℕ) → 0 < n → refused n ≡ first_answer (shape_answers s) passed → plain_change x s ≡ result_of (refused n) s
  refused_shape n l e =
      told (refused n) (λ z. omega arith)
      (append_refused (shape_answers s) _ passed passed refl (λ z. (let q : n ≡ 0 = ap (λ (y : Answer). y.number) e ∙ z in omega arith)) ∙ sym e)

  pub plain_one : SomeShort s → plain_change x s ≡ result_of (refused refusal.short_store) s
  plain_one e = refused_shape refusal.short_store (omega arith) (short_stores s (says_true (says_short s) e))

  pub plain_two : LongEnough s → ¬ Shape s → plain_change x s ≡ result_of (refused refusal.broken_shape) s
  plain_two h d = refused_shape refusal.broken_shape (omega arith)
      (broken_stores s (not_short s h) (says_false (says_formed s.attributes s.classes h.attributes h.classes) d))

  pub plain_three : LongEnough s → Shape s → ¬ InOrder s → plain_change x s ≡ result_of (refused refusal.not_in_order) s
  plain_three long shape d = told (refused refusal.not_in_order) (λ z. omega arith) (not_in_order_lem s long shape d)

  -- on stores in order the answer is the model's
  pub plain_answer_lem : InOrder s → (plain_change x s).answer ≡ answer_to read carried m
  unfolding plain_change plain_read plain_answer
  plain_answer_lem h = orders.order_onward s (sym (order_passes s h)) refl (answer_to read carried m)

  pub plain_bad : InOrder s → (at : ℕ) → read ≡ Bad at → plain_change x s ≡ result_of (unreadable at) s
  plain_bad h at e =
      let a : (plain_change x s).answer ≡ unreadable at = plain_answer_lem h ∙ ap (λ (y : ChangeRead). answer_to y carried m) e ∙ (unfold answer_to in refl) in
      ap₂ result_of a (plain_kept (λ z. (let q : ◌≡◌ {A = ℕ} 4 0 = ap (λ (y : Answer). y.number) (sym a) ∙ z in omega arith)))

  -- ---- a change that was read

  module _ (h : InOrder s) (change : Change) (r : List ℕ) (reads : read_change x ≡ change_out (Read change) r) where
    pub read_answer_lem : (plain_change x s).answer ≡ answer_to (Read change) r m
    read_answer_lem = plain_answer_lem h ∙ ap (λ (o : ChangeOut). answer_to o.answer o.row m) reads

    -- its number is the model's
    pub number_is : (plain_change x s).answer.number ≡ change_number change r m
    unfolding answer_to
    number_is = ap (λ (a : Answer). a.number) read_answer_lem ∙ answer_number change r m (change_number change r m)

    pub plain_refused : ¬ ((plain_change x s).answer.number ≡ 0)
        → Condition change r m (plain_change x s).answer.number × ((plain_change x s).answer ≡ refused (plain_change x s).answer.number)
    plain_refused d =
        let e : ¬ (change_number change r m ≡ 0) = λ z. d (number_is ∙ z) in (
          subst (Condition change r m) (sym number_is) (change_condition change r m e),
          read_answer_lem ∙ answer_refused change r m e ∙ ap refused (sym number_is),
        )

    pub plain_least : (n : ℕ) → Condition change r m n → rank (plain_change x s).answer.number ≤ rank n
    plain_least n c = omega (arith, ap rank number_is, change_least change r m n c)

  -- ---- 0

  accepted_zero : (h : Accepted x m) → change_number h.change h.carried m ≡ 0
  accepted_zero h = (change_zero h.change h.carried m).1 none
    where
      none : (n : ℕ) → ¬ (Condition h.change h.carried m n)
      none n c = go n c (dec_le n refusal.still_needed)
        where
          go : (n : ℕ) → Condition h.change h.carried m n → Dec (n ≤ refusal.still_needed) → ⊥
          go n c (yes l) = h.asked n l c
          go n (Condition.rule name unmet) (no g) = unmet (h.rules name)
          go n (Condition.mandatory_differs d) (no g) = h.demands d
          go n (Condition.no_such_row a b) (no g) = g (omega arith)
          go n (Condition.no_free_row a b) (no g) = g (omega arith)
          go n (Condition.wrong_state a) (no g) = g (omega arith)
          go n (Condition.base_row a b) (no g) = g (omega arith)
          go n (Condition.added_base_row a b) (no g) = g (omega arith)
          go n (Condition.entry_conflict a) (no g) = g (omega arith)
          go n (Condition.still_needed a) (no g) = g (omega arith)

  zero_accepted : (change : Change) (r : List ℕ) → read_change x ≡ change_out (Read change) r → change_number change r m ≡ 0 → Accepted x m
  zero_accepted change r reads z =
      let none = (change_zero change r m).0 z in
      record {
        change = change;
        carried = r;
        reads = reads;
        asked = λ n l. none n;
        rules = λ rule. met_of (added_by change r m.classes.count) (schema_after change r m) rule
            (λ unmet. none (rule_number rule) (Condition.rule rule unmet));
        demands = λ d. none refusal.mandatory_differs (Condition.mandatory_differs d);
      }

  pub plain_done : InOrder s → (h : Accepted x m) → RowChanged (plain_change x s).answer (table_for h.change) (number_for h.change h.carried m)
  plain_done o h =
      told_changed (table_for h.change) (number_for h.change h.carried m) (read_answer_lem o h.change h.carried h.reads
      ∙ answer_done h.change h.carried m (accepted_zero h))

  -- a 0 comes from stores in order
  pub zero_order : (plain_change x s).answer.number ≡ 0 → InOrder s
  unfolding plain_change plain_read plain_answer
  zero_order z = passes_order s (go (ℕ_discrete (first_answer (order_answers s) passed).number 0))
    where
      go : Dec ((first_answer (order_answers s) passed).number ≡ 0) → (first_answer (order_answers s) passed).number ≡ 0
      go (yes e) = e
      go (no d) = absurd (d (ap (λ (a : Answer). a.number) (refused_any (order_answers s) passed (answer_to read carried m) refl d) ∙ z))

  -- and from a change that reads
  zero_reads : (y : ChangeRead) → read ≡ y → (plain_change x s).answer.number ≡ 0 → Accepted x m
  zero_reads (Err bad) e z =
      let q : ◌≡◌ {A = ℕ} 4 0 = sym (ap (λ (w : Result). w.answer.number) (plain_bad (zero_order z) bad.at e)) ∙ z in absurd (omega arith)
  zero_reads (Read change) e z =
      let reads : read_change x ≡ change_out (Read change) carried = ap (λ (y : ChangeRead). change_out y carried) e in
      zero_accepted change carried reads (sym (number_is (zero_order z) change carried reads) ∙ z)

  pub plain_zero : ((plain_change x s).answer.number ≡ 0) ↔ (InOrder s × Accepted x m)
  plain_zero = (
    λ z. (zero_order z, zero_reads read refl z),
    λ h. (plain_done h.0 h.1).number,
  )

  -- ---- what is left

  -- the stores as made
  pub left_made : (plain_change x s).answer.number ≡ 0 → (change : Change) (r : List ℕ) → read_change x ≡ change_out (Read change) r
      → (plain_change x s).left ≡ refreshed (rows_made change r s)
  unfolding plain_change plain_read plain_made
  left_made z change r reads =
      ap (λ (b : Bool). cond b (plain_made read carried s) s) (says_true (says_eq (plain_answer read carried s).number 0) z)
      ∙ ap (λ (o : ChangeOut). plain_made o.answer o.row s) reads

  module _ (bytes : Bytes x) (z : (plain_change x s).answer.number ≡ 0) where
    h : Accepted x m
    h = (plain_zero.0 z).1

    shape : InShape s
    shape = order_shape s (zero_order z)

    none : change_number h.change h.carried m ≡ 0
    none = accepted_zero h

    pub plain_rows : SameRows (schema_of (plain_change x s).left) (rows_after read carried m)
    plain_rows =
        subst₂ (λ (w : Stores) (n : Schema). SameRows (schema_of w) n) (sym (left_made z h.change h.carried h.reads)) (sym after)
        (done_same h.change x h.carried s bytes h.reads shape none)
      where
        after : rows_after read carried m ≡ schema_after h.change h.carried m
        after = ap (λ (o : ChangeOut). rows_after o.answer o.row m) h.reads
            ∙ (unfold rows_after in (rw (says_true (says_eq (change_number h.change h.carried m) 0) none)))

    pub plain_ordered : InOrder (plain_change x s).left
    plain_ordered = subst InOrder (sym (left_made z h.change h.carried h.reads)) made
      where
        made : InOrder (refreshed (rows_made h.change h.carried s))
        made =
            let w = refreshed (rows_made h.change h.carried s) in
            let i = done_shape h.change x h.carried s bytes h.reads shape none in
            record {
              long = i.long;
              shape = (says_formed w.attributes w.classes i.long.attributes i.long.classes).holds i.formed;
              rules = done_meets h.change x h.carried s bytes h.reads shape none;
              fresh = (says_fresh (schema_of w).classes w.closure).holds (done_fresh h.change x h.carried s bytes h.reads shape none);
            }
