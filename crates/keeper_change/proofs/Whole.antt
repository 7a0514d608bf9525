-- A plain change on its way: what the stores and the change give to each function that it calls, and how it ends.
use lib.ListN.{length}
use native.Mathlib.Omega.{arith}
use Prim.Native.Nat.{ℕ}
use mathlib.Core.List.{List}
use mathlib.Core.Path.{◌∙◌, ◌≡◌, ap₂, refl, sym, ap}
use Rattle.schema.specs.declared.number.TableId.TheVariants.{Classes}
use Rattle.schema.specs.declared.answer.Answer.{Answer}
use Rattle.schema.specs.Store.{Schema, Stores, result_of, schema_of, table_store, schema_in, stores, table_in}
use Rattle.schema.specs.Numbers.{number_of, table_of}
use Rattle.schema.specs.Layout.{class_width}
use Rattle.schema.specs.Answers.{refused, changed, passed, unreadable}
use Rattle.change_read.specs.ChangeRead.{Read, Bad}
use Rattle.change_read.specs.declared.read.Change.{Change}
use Rattle.change_read.specs.ChangeLaws.{change_length}
use Rattle.change_read.specs.Reading.{Came, change_out, read_change}
use Rattle.change_read.specs.ChangeRead.{ChangeRead}
use Rattle.change_rows.specs.Stores.{row_changed}
use Rattle.change_rows.specs.Rows.{number_for, table_for}
use Rattle.prelude.specs.Part.{Bytes, splice}
use Rattle.keeper_change.specs.Plain.{InOrderFor, Judged, plain_made, plain_read, plain_change}
use Rattle.keeper_change.specs.Made.{rows_made, refreshed, Allowed}
use Rattle.keeper_change.specs.PlainLaws.{plain_done, plain_kept, whole_number}
use Rattle.keeper_change.specs.Judged.{judged_whole}
use Rattle.keeper_change.specs.MadeLaws.{row_table}
use Rattle.keeper_change.specs.PlainLaws.{plain_order}
use Rattle.schema.specs.Answering.{first_answer}
use Rattle.keeper.specs.InShape.{InShape}
use Rattle.keeper.specs.OrderLaws.{order_fresh, order_shape, order_onward}
use Rattle.keeper.specs.Order.{order_answers}
use Rattle.graph.specs.Graph.{closure_rows}
use Rattle.tables.specs.Shaped.{Shaped}
use Rattle.change_model.specs.Model.{added_by, change_number, answer_to}
use Rattle.change_model.specs.ModelLaws.{answer_done, answer_refused, number_asked, number_judged}
use Rattle.change_asked.specs.Asked.{first_asked}
use Rattle.tables_shape.proofs.ShapeLaws.{formed_shaped}
use Rattle.rules.specs.declared.row.Added.{Added}
use Rattle.keeper_change.proofs.Making.{number_is}

module _ (change : Change) (r : List ℕ) (s : Stores) (h : InOrderFor change r s) where
  pub in_shape : InShape s
  in_shape = order_shape s (sym h.order) refl

  pub plain_asked : Shaped s.attributes s.classes × (length r ≡ class_width)
  plain_asked = (
    formed_shaped s.attributes s.classes in_shape.long.attributes in_shape.long.classes in_shape.formed,
    change_length h.read.text change r h.read.bytes h.read.reads,
  )

  -- refused by 5 to 11
  pub asked_refused : (n : ℕ) (a : Answer) → n ≡ first_asked change r (schema_of s) → ¬ (n ≡ 0) → a ≡ refused n → result_of a s ≡ plain_read (Read change) r s
  asked_refused n a e d q =
      let m = schema_of s in
      let c : change_number change r m ≡ n = number_asked change r m (λ z. d (e ∙ z)) ∙ sym e in
      plain_kept s (sym h.order) refl (Read change) r a (q ∙ ap refused (sym c) ∙ sym (answer_refused change r m (λ z. d (sym c ∙ z))))
      (λ z. d (ap (λ (x : Answer). x.number) (sym q) ∙ z))

  -- or let pass
  pub to_judged : first_asked change r (schema_of s) ≡ 0 → Judged change r s
  to_judged z = record { allowed = record { read = h.read; shape = in_shape; asked = z }; order = h.order }

module _ (change : Change) (r : List ℕ) (s : Stores) (j : Judged change r s) where
  abbrev m : Schema
  m = schema_of s

  abbrev old : List ℕ
  old = table_store (table_for change) s

  abbrev h : Allowed change r s
  h = j.allowed

  -- the number found is the model's
  pub number_found : (n : ℕ) → n ≡ judged_whole (added_by change r m.classes.count) (schema_of (rows_made change r s)) s.closure m.classes.count
      → n ≡ change_number change r m
  number_found n e =
      e ∙ whole_number change h.read.text r s h.read.bytes h.read.reads h.shape h.asked (order_fresh s (sym j.order) refl)
      ∙ sym (number_judged change r m h.asked)

  -- it was judged in the stores as made
  pub judged_at : {a c : List ℕ} {n : ℕ} {added : Added} → stores a c s.closure ≡ rows_made change r s → n ≡ m.classes.count → added ≡ added_by change r n
      → judged_whole added (schema_in a c) s.closure n
      ≡ judged_whole (added_by change r m.classes.count) (schema_of (rows_made change r s)) s.closure m.classes.count
  judged_at {a} {c} {n} made e q =
      ap₂ (λ (x : Added) (y : Stores). judged_whole x (schema_of y) s.closure n) q made
      ∙ ap (λ (x : ℕ). judged_whole (added_by change r x) (schema_of (rows_made change r s)) s.closure x) e

  -- refused, and taken back
  pub judged_refused : (n : ℕ) (a : Answer) (left : Stores) → n ≡ change_number change r m → ¬ (n ≡ 0) → a ≡ refused n → left ≡ s
      → result_of a left ≡ plain_read (Read change) r s
  judged_refused n a left e d q l =
      ap (result_of a) l
      ∙ plain_kept s (sym j.order) refl (Read change) r a (q ∙ ap refused e ∙ sym (answer_refused change r m (λ z. d (e ∙ z))))
      (λ z. d (ap (λ (x : Answer). x.number) (sym q) ∙ z))

  -- done
  pub judged_done : (n : ℕ) (a : Answer) (left : Stores) → n ≡ change_number change r m → n ≡ 0
      → a ≡ changed (table_of (row_changed change r old)) (number_of (row_changed change r old)) → left ≡ refreshed (rows_made change r s)
      → result_of a left ≡ plain_read (Read change) r s
  judged_done n a left e z q l =
      let w : a ≡ changed (table_for change) (number_for change r m) = q ∙ ap₂ changed (row_table change r old) (number_is change r s h) in
      plain_done s (sym j.order) refl (Read change) r a left (w ∙ sym (answer_done change r m (sym e ∙ z))) (ap (λ (x : Answer). x.number) w)
      (l ∙ (unfold plain_made in refl))

-- the closure was worked out from the rows as made
pub refreshed_made : (s : Stores) {a c k : List ℕ} {n : Stores} → stores a c s.closure ≡ n → k ≡ splice 0 (closure_rows (table_in Classes c)) s.closure
    → stores a c k ≡ refreshed n
unfolding refreshed
refreshed_made s {a} {c} e q = ap (stores a c) q ∙ ap refreshed e

-- ---- the whole call

module _ (x : List ℕ) (s : Stores) {o : Answer} (is : o ≡ first_answer (order_answers s) passed) where
  pub change_order : ¬ (o.number ≡ 0) → result_of o s ≡ plain_change x s
  unfolding plain_change
  change_order d = plain_order s is (read_change x).answer (read_change x).row d

  module _ (z : o.number ≡ 0) {read : ChangeRead} {r : List ℕ} (came : Came read r (read_change x)) where
    -- it could not be read
    pub change_bad : (at : ℕ) (a : Answer) → read ≡ Bad at → a ≡ unreadable at → result_of a s ≡ plain_change x s
    unfolding plain_change answer_to
    change_bad at a e q =
        plain_kept s is z (read_change x).answer (read_change x).row a
        (q ∙ ap (λ (y : ChangeRead). answer_to y (read_change x).row (schema_of s)) (sym (sym came.answer ∙ e)))
        (λ w. (let no : ◌≡◌ {A = ℕ} 4 0 = ap (λ (y : Answer). y.number) (sym q) ∙ w in omega arith))

    -- it was read
    module _ (change : Change) (e : read ≡ Read change) where
      pub change_in_order : Bytes x → InOrderFor change r s
      change_in_order b = record {
        read = record { text = x; bytes = b; reads = ap₂ change_out (sym came.answer ∙ e) (sym came.row) };
        order = order_onward s is z passed;
      }

      pub change_read : plain_read (Read change) r s ≡ plain_change x s
      unfolding plain_change
      change_read = ap₂ (λ (y : ChangeRead) (w : List ℕ). plain_read y w s) (sym e ∙ came.answer) came.row
