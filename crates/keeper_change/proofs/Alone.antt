-- How a quick change comes to its end: refused by 5 to 11 with nothing done, its row judged and taken back, or judged and done.
use Rattle.keeper.specs.CheckedLaws.{in_shape}
use lib.ListN.{length}
use native.Mathlib.Omega.{arith}
use native.Mathlib.Decide.{ℕ_discrete}
use Prim.Native.Nat.{ℕ, ◌<◌}
use mathlib.Core.Bool.{Bool, cond, true, false}
use mathlib.Core.List.{List, [], ◌∷◌, ◌++◌}
use mathlib.Core.Logic.{◌⊎◌, inl, inr}
use mathlib.Core.Path.{◌∙◌, ◌≡◌, ap, ap₂, refl, subst, subst₂, sym}
use Rattle.prelude.specs.First.{Case, ◌when◌, first_of}
use Rattle.prelude.specs.FirstLaws.{append_first, append_second}
use Rattle.prelude.specs.Part.{Bytes}
use Rattle.prelude.specs.SaysLaws.{says_eq, says_false, says_true, true_or_false}
use Rattle.schema.specs.declared.answer.Answer.{Answer}
use Rattle.schema.specs.declared.number.TableId.{TableId}
use Rattle.schema.specs.declared.number.TableId.TheVariants.{Attributes, Classes}
use Rattle.schema.specs.Answers.{changed, passed, refused, unreadable}
use Rattle.schema.specs.Layout.{class_width}
use Rattle.schema.specs.Numbers.{class_limit, number_of, table_of}
use Rattle.schema.specs.Store.{Schema, Stores, Table, plus_row, result_of, schema_in, schema_of, stores, table, table_in, table_store, with_row, with_table}
use Rattle.tables.specs.Same.{SameRows}
use Rattle.tables.specs.Shaped.{Shaped}
use Rattle.tables_shape.proofs.ShapeLaws.{formed_shaped}
use Rattle.rules.specs.declared.row.Added.{Added}
use Rattle.rules.specs.Rules.{row_cases, schema_rules}
use Rattle.rules.proofs.SameLaws.{row_cases_same}
use Rattle.change_rows.specs.Lists.{list_table}
use Rattle.change_read.specs.declared.read.Change.{Change}
use Rattle.change_read.specs.declared.read.Change.TheVariants.{Add, AddEntry, RemoveEntry}
use Rattle.change_read.specs.ChangeRead.{ChangeRead}
use Rattle.change_read.specs.ChangeRead.{Bad, Read}
use Rattle.change_read.specs.Carried.{entry_of, list_of, target_of}
use Rattle.change_read.specs.ChangeLaws.{change_length}
use Rattle.change_read.specs.Reading.{Came, change_out, read_change}
use Rattle.change_rows.specs.Rows.{is_addition, number_for, schema_after, table_after, table_for}
use Rattle.change_rows.specs.Stores.{row_changed}
use Rattle.change_asked.specs.Asked.{asked_cases, first_asked}
use Rattle.change_asked.specs.AskedLaws.{asked_there}
use Rattle.change_model.specs.Sound.{row_number}
use Rattle.change_model.specs.Model.{added_by, answer_by, changed_cases}
use Rattle.change_model.specs.ThereLaws.{class_room, entry_there}
use Rattle.closure_change.specs.After.{Updatable, closure_after, demand_before, demand_changes}
use Rattle.closure_change.proofs.SameLaws.{after_same, demand_same}
use Rattle.schema.specs.Answering.{first_answer}
use Rattle.keeper.specs.InShape.{InShape, shape_answers}
use Rattle.schema.specs.AnsweringLaws.{passed_last, refused_any}
use Rattle.keeper.specs.InShapeLaws.{passed_shape}
use Rattle.keeper_change.specs.declared.rows.Before.{Before}
use Rattle.keeper_change.specs.Judged.{RowThere, judged_row}
use Rattle.keeper_change.specs.Made.{Allowed, before, rows_made}
use Rattle.keeper_change.specs.MadeLaws.{made_same, row_table}
use Rattle.keeper_change.specs.Quick.{InShapeFor, quick_answer, quick_change, quick_differs, quick_made, quick_number, quick_read, quick_to}
use Rattle.keeper_change.proofs.Making.{closure_long_lem, few_rows, made_readable, made_shaped, number_is}
use Rattle.schema.specs.Refusals as refusal

-- ---- what a quick change comes to once its stores are in shape

module _ (s : Stores) (shape : InShape s) (read : ChangeRead) (r : List ℕ) where
  answer_is : quick_answer read r s ≡ quick_to read r s
  unfolding quick_answer
  answer_is = passed_last (shape_answers s) (quick_to read r s) (passed_shape s shape)

  -- an answer that refuses leaves the stores, and one that does not leaves them as made
  pub quick_kept : (a : Answer) → a ≡ quick_to read r s → ¬ (a.number ≡ 0) → result_of a s ≡ quick_read read r s
  unfolding quick_read
  quick_kept a e d =
      let q : a ≡ quick_answer read r s = e ∙ sym answer_is in
      let n : ¬ ((quick_answer read r s).number ≡ 0) = λ z. d (ap (λ (x : Answer). x.number) q ∙ z) in
      ap₂ result_of q (sym (ap (λ (b : Bool). cond b (quick_made read r s) s) (says_false (says_eq (quick_answer read r s).number 0) n)))

  pub quick_done : (a : Answer) (left : Stores) → a ≡ quick_to read r s → a.number ≡ 0 → left ≡ quick_made read r s → result_of a left ≡ quick_read read r s
  unfolding quick_read
  quick_done a left e z l =
      let q : a ≡ quick_answer read r s = e ∙ sym answer_is in
      let n : (quick_answer read r s).number ≡ 0 = ap (λ (x : Answer). x.number) (sym q) ∙ z in
      ap₂ result_of q (l ∙ sym (ap (λ (b : Bool). cond b (quick_made read r s) s) (says_true (says_eq (quick_answer read r s).number 0) n)))

-- ---- the numbers

module _ (change : Change) (r : List ℕ) (m : Schema) (closure : List ℕ) where
  -- those of the result
  abbrev rest : List Case
  rest = changed_cases change r m ++ ((refusal.mandatory_differs when quick_differs change r m closure) ∷ [])

  number_asked : ¬ (first_asked change r m ≡ 0) → quick_number change r m closure ≡ first_asked change r m
  unfolding quick_number first_asked
  number_asked d = append_first (asked_cases change r m) rest d

  number_judged : first_asked change r m ≡ 0 → quick_number change r m closure ≡ first_of rest
  unfolding quick_number first_asked
  number_judged z = append_second (asked_cases change r m) rest (omega arith) z

  answer_refused : (n : ℕ) → ¬ (n ≡ 0) → answer_by change r m n ≡ refused n
  unfolding answer_by
  answer_refused n d = rw (says_false (says_eq n 0) d)

  answer_done : (n : ℕ) → n ≡ 0 → answer_by change r m n ≡ changed (table_for change) (number_for change r m)
  unfolding answer_by
  answer_done n z = rw (says_true (says_eq n 0) z)

  -- no number, so no rule of the row
  row_passed : first_asked change r m ≡ 0 → quick_number change r m closure ≡ 0 → row_number change r m ≡ 0
  row_passed a z = go (ℕ_discrete (row_number change r m) 0)
    where
      go : Dec (row_number change r m ≡ 0) → row_number change r m ≡ 0
      go (yes e) = e
      go (no d) = absurd (d (sym (append_first (changed_cases change r m) _ d) ∙ sym (number_judged a) ∙ z))

-- ---- a change that was read

module _ (change : Change) (r : List ℕ) (s : Stores) (h : InShapeFor change r s) where
  pub quick_asked : Shaped s.attributes s.classes × (length r ≡ class_width)
  quick_asked = (
    formed_shaped s.attributes s.classes h.shape.long.attributes h.shape.long.classes h.shape.formed,
    change_length h.read.text change r h.read.bytes h.read.reads,
  )

  -- refused by 5 to 11
  pub asked_refused : (n : ℕ) (a : Answer) → n ≡ first_asked change r (schema_of s) → ¬ (n ≡ 0) → a ≡ refused n → result_of a s ≡ quick_read (Read change) r s
  asked_refused n a e d q =
      let m = schema_of s in
      let c : quick_number change r m s.closure ≡ n = number_asked change r m s.closure (λ z. d (e ∙ z)) ∙ sym e in
      quick_kept s h.shape (Read change) r a (q ∙ sym (ap (answer_by change r m) c ∙ answer_refused change r m s.closure n d))
      (λ z. d (ap (λ (x : Answer). x.number) (sym q) ∙ z))

  -- or let pass
  pub to_allowed : first_asked change r (schema_of s) ≡ 0 → Allowed change r s
  to_allowed z = record { read = h.read; shape = h.shape; asked = z }

-- ---- one that 5 to 11 let pass

table_after_lem : (t : TableId) (u : Table) (m : Schema) → table t (with_table t u m) ≡ u
table_after_lem Attributes u m = refl
table_after_lem Classes u m = refl

module _ (change : Change) (r : List ℕ) (s : Stores) (j : Allowed change r s) where
  abbrev m : Schema
  m = schema_of s

  abbrev old : List ℕ
  old = table_store (table_for change) s

  abbrev after : Schema
  after = schema_after change r m

  same : SameRows (schema_of (rows_made change r s)) after
  same = made_same change j.read.text r s j.read.bytes j.read.reads j.shape j.asked

  -- the row is there afterwards
  number_there : number_for change r m < (table (table_for change) after).count
  unfolding number_for schema_after table_after plus_row with_row
  number_there = rw (table_after_lem (table_for change) _ m) (go (true_or_false (is_addition change)))
    where
      go : (is_addition change ≡ true) ⊎ (is_addition change ≡ false)
          → cond (is_addition change) (table (table_for change) m).count (target_of r) < (table_after change r (table (table_for change) m)).count
      go (inl e) = rw e (omega arith)
      go (inr e) = rw e (asked_there change r m j.asked e)

  row_there : number_of (row_changed change r old) < (table (table_of (row_changed change r old)) (schema_of (rows_made change r s))).count
  row_there =
      subst₂ (λ (t : TableId) (k : ℕ). k < (table t (schema_of (rows_made change r s))).count) (sym (row_table change r old)) (sym (number_is change r s j))
      (omega (arith, number_there, (same (table_for change)).count))

  -- its cases are those of the model
  cases_same : row_cases (schema_rules (added_by change r m.classes.count)) (schema_of (rows_made change r s)) (table_of (row_changed change r old))
      (number_of (row_changed change r old)) ≡ changed_cases change r m
  cases_same =
      let added = added_by change r m.classes.count in
      ap₂ (λ (t : TableId) (k : ℕ). row_cases (schema_rules added) (schema_of (rows_made change r s)) t k) (row_table change r old) (number_is change r s j)
      ∙ row_cases_same same added (table_for change) (number_for change r m) (omega (arith, number_there, (same (table_for change)).count))

  -- where it breaks no rule, the closure can be asked and updated
  can_update : row_number change r m ≡ 0 → Updatable change r (rows_made change r s).classes s.closure
  can_update z = record {
    carried = change_length j.read.text change r j.read.bytes j.read.reads;
    readable = made_readable change r s j;
    long = closure_long_lem change r s j;
    target = λ e. omega (arith, target_there AddEntry e refl, few_rows change r s j Classes);
    removed = λ e. omega (arith, target_there RemoveEntry e refl, few_rows change r s j Classes);
    entry = λ e. omega (arith, entry_below e, few_rows change r s j (list_table (list_of r)));
  }
    where
      target_there : (x : Change) → change ≡ x → is_addition x ≡ false → target_of r < (table (table_for x) m).count
      target_there x e f = asked_there x r m (subst (λ (y : Change). first_asked y r m ≡ 0) e j.asked) f

      entry_below : change ≡ AddEntry → entry_of r < (table (list_table (list_of r)) m).count
      entry_below e = entry_there r m (subst (λ (x : Change). row_number x r m ≡ 0) e z)

  -- what the code has found on its way
  module _ {added : Added} {a c : List ℕ} {b : Before} {n : ℕ} (is : added ≡ added_by change r n) (count : n ≡ m.classes.count)
      (made : stores a c s.closure ≡ rows_made change r s) (saved : b ≡ before change r old) where
    is_added : added ≡ added_by change r m.classes.count
    is_added = is ∙ ap (added_by change r) count

    cases_found : row_cases (schema_rules added) (schema_in a c) (table_of b.id) (number_of b.id) ≡ changed_cases change r m
    cases_found =
        (λ i. row_cases (schema_rules (is_added i)) (schema_of (made i)) (table_of (saved i).id) (number_of (saved i).id)) ∙ cases_same

    pub judged_there : RowThere added change r a c s.closure b.id
    judged_there = record {
      shaped = subst (λ (x : Stores). Shaped x.attributes x.classes) (sym made) (made_shaped change r s j);
      there = subst₂ (λ (x : Stores) (y : Before). number_of y.id < (table (table_of y.id) (schema_of x)).count) (sym made) (sym saved) row_there;
      kept = λ z. subst (λ (x : Stores). Updatable change r x.classes s.closure) (sym made) (can_update (ap first_of (sym cases_found) ∙ z));
    }

    module _ (blank : List ℕ) {demand : List ℕ} (kept : demand ≡ demand_before change r m.classes blank) (x : ℕ)
        (judged : x ≡ judged_row added change r (schema_in a c) (table_of b.id) (number_of b.id) demand s.closure) where
      pub number_found : x ≡ quick_number change r m s.closure
      unfolding judged_row
      number_found =
          judged
          ∙ (λ i. first_of (cases_found i ++ ((refusal.mandatory_differs when demands i) ∷ [])))
          ∙ sym (number_judged change r m s.closure j.asked)
        where
          demands : demand_changes change r (table_in Classes c) demand s.closure ≡ quick_differs change r m s.closure
          demands = (λ i. demand_changes change r (schema_of (made i)).classes (kept i) s.closure)
              ∙ demand_same (same Classes) change r m.classes blank s.closure

      -- refused, and taken back
      pub judged_refused : (answer : Answer) (left : Stores) → ¬ (x ≡ 0) → answer ≡ refused x → left ≡ s → result_of answer left ≡ quick_read (Read change) r s
      judged_refused answer left d q l =
          ap (result_of answer) l
          ∙ quick_kept s j.shape (Read change) r answer
          (q ∙ sym (ap (answer_by change r m) (sym number_found) ∙ answer_refused change r m s.closure x d))
          (λ z. d (ap (λ (y : Answer). y.number) (sym q) ∙ z))

      module _ (z : x ≡ 0) where
        pub to_update : Updatable change r c s.closure × (change ≡ Add Classes → n < class_limit)
        to_update = (
          subst (λ (y : Stores). Updatable change r y.classes s.closure) (sym made)
              (can_update (row_passed change r m s.closure j.asked (sym number_found ∙ z))),
          λ e. omega (arith, count, class_room change r m j.asked e),
        )

        made_left : {k : List ℕ} → k ≡ closure_after change r (table_in Classes c) n s.closure → stores a c k ≡ quick_made (Read change) r s
        made_left {k} e =
            ap (stores a c) (e ∙ (λ i. closure_after change r (schema_of (made i)).classes (count i) s.closure) ∙ after_same (same Classes) change r
            m.classes.count s.closure new_there)
            ∙ ap (λ (y : Stores). stores y.attributes y.classes (closure_after change r after.classes m.classes.count s.closure)) made
          where
            new_there : change ≡ Add Classes → m.classes.count < (schema_of (rows_made change r s)).classes.count
            new_there q = omega (arith, (same Classes).count, more q)
              where
                more : change ≡ Add Classes → m.classes.count < after.classes.count
                more q = subst (λ (y : Change). m.classes.count < (schema_after y r m).classes.count) (sym q)
                    (unfold schema_after in unfold table_after in unfold plus_row in omega arith)

        pub judged_done : {k : List ℕ} (answer : Answer) → answer ≡ changed (table_of b.id) (number_of b.id)
            → k ≡ closure_after change r (table_in Classes c) n s.closure → result_of answer (stores a c k) ≡ quick_read (Read change) r s
        judged_done {k} answer q e =
            let w : answer ≡ changed (table_for change) (number_for change r m) =
            q ∙ (λ i. changed (table_of (saved i).id) (number_of (saved i).id)) ∙ ap₂ changed (row_table change r old) (number_is change r s j) in
            quick_done s j.shape (Read change) r answer (stores a c k)
            (w ∙ sym (ap (answer_by change r m) (sym number_found) ∙ answer_done change r m s.closure x z)) (ap (λ (y : Answer). y.number) w)
            (made_left e)

-- ---- the whole call

module _ (x : List ℕ) (s : Stores) {o : Answer} (is : o ≡ first_answer (shape_answers s) passed) where
  pub change_shape : ¬ (o.number ≡ 0) → result_of o s ≡ quick_change x s
  unfolding quick_change quick_read quick_answer
  change_shape d =
      let read = (read_change x).answer in
      let r = (read_change x).row in
      let e : o ≡ quick_answer read r s = is ∙ refused_any (shape_answers s) passed (quick_to read r s) refl (λ z. d (ap (λ (y : Answer). y.number) is ∙ z)) in
      let n : ¬ ((quick_answer read r s).number ≡ 0) = λ z. d (ap (λ (y : Answer). y.number) e ∙ z) in
      ap₂ result_of e (sym (ap (λ (b : Bool). cond b (quick_made read r s) s) (says_false (says_eq (quick_answer read r s).number 0) n)))

  module _ (z : o.number ≡ 0) {read : ChangeRead} {r : List ℕ} (came : Came read r (read_change x)) where
    -- it could not be read
    pub change_bad : (at : ℕ) (a : Answer) → read ≡ Bad at → a ≡ unreadable at → result_of a s ≡ quick_change x s
    unfolding quick_change
    change_bad at a e q =
        quick_kept s (in_shape s is z) (read_change x).answer (read_change x).row a
        (q ∙ ap (λ (y : ChangeRead). quick_to y (read_change x).row s) (sym (sym came.answer ∙ e)))
        (λ w. (let no : ◌≡◌ {A = ℕ} 4 0 = ap (λ (y : Answer). y.number) (sym q) ∙ w in omega arith))

    -- it was read
    module _ (change : Change) (e : read ≡ Read change) where
      pub change_in_shape : Bytes x → InShapeFor change r s
      change_in_shape b = record {
        read = record { text = x; bytes = b; reads = ap₂ change_out (sym came.answer ∙ e) (sym came.row) };
        shape = in_shape s is z;
      }

      pub change_read : quick_read (Read change) r s ≡ quick_change x s
      unfolding quick_change
      change_read = ap₂ (λ (y : ChangeRead) (w : List ℕ). quick_read y w s) (sym e ∙ came.answer) came.row
