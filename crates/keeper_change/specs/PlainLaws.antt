-- How a plain change comes to its end: refused by 5 to 11 with nothing done, judged and taken back, or judged and done.
use Rattle.std.specs.Prelude.{length, ◌≤◌, ℕ, ◌-◌, Bool, true, List, [], ◌∷◌, ◌≡◌, refl}
use Rattle.std.proofs.Math.Bool.{cond}
use Rattle.std.proofs.Common.{◌∙◌}
use Rattle.std.proofs.Math.Path.{ap, ap₂, sym}
use Rattle.change_read.specs.declared.read.Change.{Change}
use Rattle.change_read.specs.ChangeRead.{ChangeRead}
use Rattle.change_read.specs.ChangeLaws.{Reads}
use Rattle.schema.specs.declared.number.TableId.TheVariants.{Attributes, Classes}
use Rattle.schema.specs.declared.answer.Answer.{Answer}
use Rattle.schema.specs.Store.{Stores, result_of, schema_of, table_store, count_in, table_in, with_store}
use Rattle.schema.specs.Numbers.{class_limit, number_of}
use Rattle.schema.specs.Answers.{passed}
use Rattle.schema.specs.declared.number.TableId.{TableId}
use Rattle.schema.specs.Layout.{class_width, row_width}
use Rattle.schema.specs.StoreLaws.{table_row_length}
use Rattle.rules.specs.Judge.{broken, broken_cases}
use Rattle.rules.proofs.JudgeLaws.{judged_number}
use Rattle.rules.specs.RulesLaws.{nonzero}
use Rattle.rules.proofs.SameLaws.{judged_same}
use Rattle.rules.specs.Rules.{schema_rules}
use Rattle.prelude.specs.Part.{Bytes, part, zeros, padded}
use Rattle.prelude.specs.First.{◌when◌, first_of}
use Rattle.prelude.specs.FirstLaws.{append_cong}
use Rattle.prelude.specs.SaysLaws.{says_eq, says_false, says_true}
use Rattle.prelude.specs.PartLaws.{part_between}
use Rattle.schema.specs.Answering.{first_answer}
use Rattle.keeper.specs.InShape.{InShape}
use Rattle.change_model.specs.Model.{added_by, answer_to, result_cases}
use Rattle.change_asked.specs.Asked.{first_asked}
use Rattle.graph.specs.Graph.{demands_differ, is_fresh, mandatory_differs}
use Rattle.graph.proofs.SameLaws.{differs_same}
use Rattle.graph.proofs.FreshLaws.{differs_kept}
use Rattle.keeper_change.specs.Judged.{judged_whole}
use Rattle.keeper_change.specs.MadeLaws.{made_same, back_in, made_applicable, made_in, row_table, row_within}
use Rattle.keeper_change.specs.Plain.{plain_answer, plain_made, plain_read}
use Rattle.keeper_change.specs.Made.{rows_back, rows_made, before}
use Rattle.keeper.specs.OrderLaws.{order_onward, order_refused}
use Rattle.keeper.specs.Order.{order_answers}
use Rattle.change_rows.specs.Rows.{schema_after, table_for}
use Rattle.change_rows.proofs.StoresLaws.{change_restored}
use Rattle.change_rows.specs.Stores.{row_changed, store_after, restored}
use Rattle.tables.specs.SameLaws.{same_reflexive}
use Rattle.tables_shape.proofs.ShapeLaws.{says_formed}
use Rattle.schema.specs.Refusals as refusal

-- ---- what a plain change comes to once its stores are in order

module _ (s : Stores) {o : Answer} (is : o ≡ first_answer (order_answers s) passed) where
  -- they are not
  pub plain_order : (read : ChangeRead) (r : List ℕ) → ¬ (o.number ≡ 0) → result_of o s ≡ plain_read read r s
  unfolding plain_read plain_answer
  plain_order read r d =
      let e = order_refused s is (answer_to read r (schema_of s)) d in
      let n : ¬ ((plain_answer read r s).number ≡ 0) = λ z. d (ap (λ (x : Answer). x.number) e ∙ z) in
      ap₂ result_of e (sym (ap (λ (b : Bool). cond b (plain_made read r s) s) (says_false (says_eq (plain_answer read r s).number 0) n)))

  module _ (z : o.number ≡ 0) where
    -- an answer that refuses leaves the stores, and one that does not leaves them as made
    pub plain_kept : (read : ChangeRead) (r : List ℕ) (a : Answer) → a ≡ answer_to read r (schema_of s) → ¬ (a.number ≡ 0)
        → result_of a s ≡ plain_read read r s
    unfolding plain_read plain_answer
    plain_kept read r a e d =
        let q : a ≡ plain_answer read r s = e ∙ sym (order_onward s is z (answer_to read r (schema_of s))) in
        let n : ¬ ((plain_answer read r s).number ≡ 0) = λ y. d (ap (λ (x : Answer). x.number) q ∙ y) in
        ap₂ result_of q (sym (ap (λ (b : Bool). cond b (plain_made read r s) s) (says_false (says_eq (plain_answer read r s).number 0) n)))

    pub plain_done : (read : ChangeRead) (r : List ℕ) (a : Answer) (left : Stores) → a ≡ answer_to read r (schema_of s) → a.number ≡ 0
        → left ≡ plain_made read r s → result_of a left ≡ plain_read read r s
    unfolding plain_read plain_answer
    plain_done read r a left e y l =
        let q : a ≡ plain_answer read r s = e ∙ sym (order_onward s is z (answer_to read r (schema_of s))) in
        let n : (plain_answer read r s).number ≡ 0 = ap (λ (x : Answer). x.number) (sym q) ∙ y in
        ap₂ result_of q (l ∙ sym (ap (λ (b : Bool). cond b (plain_made read r s) s) (says_true (says_eq (plain_answer read r s).number 0) n)))

-- ---- a store replaced

store_replaced : (t : TableId) (new : List ℕ) (s : Stores) → table_store t (with_store t new s) ≡ new
store_replaced Attributes new s = refl
store_replaced Classes new s = refl

replaced_twice : (t : TableId) (new other : List ℕ) (s : Stores) → with_store t new (with_store t other s) ≡ with_store t new s
replaced_twice Attributes new other s = refl
replaced_twice Classes new other s = refl

replaced_none : (t : TableId) (s : Stores) → with_store t (table_store t s) s ≡ s
replaced_none Attributes s = refl
replaced_none Classes s = refl

-- a row that was padded
padded_front : (w n : ℕ) (row : List ℕ) → length row ≡ w → part 0 w (padded n row) ≡ row
unfolding padded
padded_front w n row e = part_between [] row (zeros (n - length row)) 0 w refl e

-- ---- the judgement of the result, and the way back

module _ (change : Change) (x r : List ℕ) (s : Stores) (bytes : Bytes x) (reads : Reads x change r) (shape : InShape s)
    (asked : first_asked change r (schema_of s) ≡ 0) where
  few : (schema_of s).classes.count ≤ class_limit
  few = ((says_formed s.attributes s.classes shape.long.attributes shape.long.classes).holds shape.formed).classes.few

  -- judged by the stores as made and the closure as kept, it is what the model says of the rows
  pub whole_number : is_fresh (schema_of s).classes s.closure ≡ true
      → judged_whole (added_by change r (schema_of s).classes.count) (schema_of (rows_made change r s)) s.closure (schema_of s).classes.count
      ≡ first_of (result_cases change r (schema_of s))
  unfolding judged_whole
  whole_number fresh =
      let added = added_by change r (schema_of s).classes.count in
      let made = schema_of (rows_made change r s) in
      let after = schema_after change r (schema_of s) in
      let same = made_same change x r s bytes reads shape asked in
      let rules : first_of (broken_cases (schema_rules added) made) ≡ first_of (broken_cases (schema_rules added) after) =
      sym (judged_number added made) ∙ ap (λ (a : Answer). a.number) (judged_same same added) ∙ judged_number added after in
      let demand : demands_differ made.classes s.closure (schema_of s).classes.count ≡ mandatory_differs (schema_of s).classes after.classes =
      differs_kept (schema_of s).classes made.classes s.closure fresh few ∙ differs_same (same_reflexive (schema_of s).classes) (same Classes) in
      append_cong _ _ _ _ (nonzero added (broken made)) (nonzero added (broken after)) rules
      (ap (λ (b : Bool). first_of ((refusal.mandatory_differs when b) ∷ [])) demand)

  -- taken back, every byte is as it was
  pub taken_back : Bytes (table_store (table_for change) s) → rows_back (before change r (table_store (table_for change) s)) (rows_made change r s) ≡ s
  taken_back b =
      let t = table_for change in
      let old = table_store t s in
      let new = store_after change r old in
      let ok = made_applicable change x r s bytes reads shape asked in
      let k = number_of (row_changed change r old) in
      let row = (table_in t old).row k in
      let wide : length row ≡ row_width t = table_row_length t old k ok.long (row_within change r old ok) in
      let made : rows_made change r s ≡ with_store t new s = sym (made_in t change r s refl) in
      ap (rows_back (before change r old)) made
      ∙ sym (back_in t (before change r old) (with_store t new s) (row_table change r old))
      ∙ replaced_twice t _ new s
      ∙ ap₂ (λ (y z : List ℕ). with_store t (restored t k (count_in t old) y z) s) (padded_front (row_width t) class_width row wide) (store_replaced t new s)
      ∙ ap (λ (y : List ℕ). with_store t y s) (change_restored change r old b ok)
      ∙ replaced_none t s
