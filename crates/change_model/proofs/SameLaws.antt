-- What a change comes to depends on the rows that the tables hold alone.
use Rattle.std.proofs.Math.Dec.{leb}
use Rattle.std.specs.Prelude.{eqb, ◌<◌, ◌≤◌, suc, ℕ, Bool, ◌&&◌, ◌||◌, false, true, ◌≡◌, ◌⊎◌, Err}
use Rattle.std.proofs.Common.{arith, ◌∙◌, inl, inr}
use Rattle.std.proofs.Math.Decide.{dec_lt, ℕ_discrete}
use Rattle.std.proofs.Math.Bool.{cond, not}
use mathlib.Core.List.{List, [], ◌∷◌}
use Rattle.std.proofs.Math.Path.{ap, refl, sym, ap₂}
use Rattle.schema.specs.declared.number.TableId.TheVariants.{Attributes, Classes}
use Rattle.schema.specs.declared.answer.Answer.{Answer}
use Rattle.schema.specs.Store.{Schema, Table, plus_row, table, with_row, with_table}
use Rattle.schema.specs.declared.number.TableId.{TableId}
use Rattle.schema.specs.Row.{is_base, is_defunct}
use Rattle.schema.specs.Numbers.{limit, same_row}
use Rattle.schema.specs.StoreLaws.{plus_count, plus_last, plus_other, with_count, with_other, with_same}
use Rattle.schema.specs.Answers.{refused, changed}
use Rattle.change_read.specs.declared.read.Change.TheVariants.{Add, SetRange, Rename, Deactivate, Reactivate, AddEntry, RemoveEntry}
use Rattle.change_read.specs.ChangeRead.{Read, Bad}
use Rattle.change_read.specs.declared.read.Change.{Change}
use Rattle.change_read.specs.ChangeRead.{ChangeRead}
use Rattle.change_read.specs.Carried.{added_row, target_of}
use Rattle.rules.specs.declared.row.Added.{Added}
use Rattle.tables.specs.Same.{Same, SameRows}
use Rattle.tables.specs.Named.{names}
use Rattle.tables.specs.SameLaws.{any_same}
use Rattle.prelude.specs.First.{◌when◌, first_of}
use Rattle.prelude.specs.FirstLaws.{append_cong}
use Rattle.prelude.specs.SaysLaws.{says_eq, says_false, says_true, true_or_false}
use Rattle.change_model.specs.Model.{added_by, answer_to, change_number, result_cases, rows_after, answer_by}
use Rattle.change_model.specs.ModelLaws.{asked_zero, number_asked, number_judged}
use Rattle.change_asked.specs.Asked.{addition_asked, base_touched, entry_conflict, first_asked, state_wrong, still_needed, target_asked}
use Rattle.change_asked.specs.AskedLaws.{asked_absent, asked_addition, asked_target, asked_there}
use Rattle.change_asked.specs.Needed.{class_needs, link_needs, needed}
use Rattle.graph.proofs.SameLaws.{differs_same}
use Rattle.change_rows.specs.Rows.{edited_row, is_addition, number_for, schema_after, table_after, table_for}
use Rattle.rules_attribute.specs.Links.{is_back_link, is_forward_of}
use Rattle.rules.specs.Judge.{judged, broken, broken_cases}
use Rattle.rules.proofs.JudgeLaws.{judged_number}
use Rattle.rules.specs.RulesLaws.{nonzero}
use Rattle.rules.proofs.SameLaws.{judged_same}
use Rattle.rules.specs.Rules.{schema_rules}
use Rattle.schema.specs.Refusals as refusal

-- ---- a row replaced or added

with_rows_same : {t u : Table} → Same t u → (k : ℕ) (new : List ℕ) → Same (with_row t k new) (with_row u k new)
with_rows_same {t} {u} s k new =
    record {
      count = with_count t k new ∙ s.count ∙ sym (with_count u k new);
      rows = λ j l. go j (omega (arith, with_count t k new)) (ℕ_discrete j k);
    }
  where
    go : (j : ℕ) → j < t.count → Dec (j ≡ k) → (with_row t k new).row j ≡ (with_row u k new).row j
    go j l (yes e) = with_same t k new j e ∙ sym (with_same u k new j e)
    go j l (no d) = with_other t k new j d ∙ s.rows j l ∙ sym (with_other u k new j d)

plus_rows_same : {t u : Table} → Same t u → (new : List ℕ) → Same (plus_row t new) (plus_row u new)
plus_rows_same {t} {u} s new =
    record {
      count = plus_count t new ∙ ap suc s.count ∙ sym (plus_count u new);
      rows = λ j l. go j (omega (arith, plus_count t new)) (ℕ_discrete j t.count);
    }
  where
    go : (j : ℕ) → j ≤ t.count → Dec (j ≡ t.count) → (plus_row t new).row j ≡ (plus_row u new).row j
    go j l (yes e) = plus_last t new j e ∙ sym (plus_last u new j (e ∙ s.count))
    go j l (no d) = plus_other t new j (omega arith) ∙ s.rows j (omega arith) ∙ sym (plus_other u new j (omega (arith, s.count)))

replaced_same : (t : TableId) {u v : Table} {m n : Schema} → Same u v → SameRows m n → SameRows (with_table t u m) (with_table t v n)
replaced_same Attributes h s Attributes = h
replaced_same Attributes h s Classes = s Classes
replaced_same Classes h s Attributes = s Attributes
replaced_same Classes h s Classes = h

-- ---- the model

module _ (change : Change) (r : List ℕ) {m n : Schema} (s : SameRows m n) where
  abbrev of : TableId
  of = table_for change

  -- the numbers 5 to 11
  needed_same : (t : TableId) (k : ℕ) → k < (table t m).count → needed m t k ≡ needed n t k
  unfolding needed class_needs link_needs
  needed_same Attributes k l =
      ap₂ (λ (x y : Bool). x || y)
      (any_same (s Classes) _ _
      (λ j i. ap (λ (row : List ℕ). not (same_row Attributes k Classes j) && (not (is_defunct row) && names Attributes row k)) ((s Classes).rows j i)))
      (any_same (s Attributes) _ _
      (λ j i. ap₂ (λ (back row : List ℕ). not (is_defunct back) && (is_back_link back && is_forward_of back row)) ((s Attributes).rows j i)
      ((s Attributes).rows k l)))
  needed_same Classes k l =
      any_same (s Classes) _ _
      (λ j i. ap (λ (row : List ℕ). not (same_row Classes k Classes j) && (not (is_defunct row) && names Classes row k)) ((s Classes).rows j i))

  still_same : (x : Change) (k : ℕ) → k < (table (table_for x) m).count → still_needed x k m ≡ still_needed x k n
  still_same (Add t) k l = refl
  still_same SetRange k l = refl
  still_same (Rename t) k l = refl
  still_same (Deactivate t) k l = needed_same t k l
  still_same (Reactivate t) k l = refl
  still_same AddEntry k l = refl
  still_same RemoveEntry k l = refl

  target_same : target_of r < (table of m).count → target_asked change r (target_of r) m ≡ target_asked change r (target_of r) n
  unfolding target_asked
  target_same l =
      ap₂ (λ (row : List ℕ) (b : Bool). first_of ((refusal.wrong_state when state_wrong change row) ∷ (refusal.base_row when base_touched change row)
      ∷ (refusal.entry_conflict when entry_conflict change r row) ∷ (refusal.still_needed when b) ∷ []))
      ((s of).rows (target_of r) l) (still_same change (target_of r) l)

  addition_same : addition_asked of r (table of m) ≡ addition_asked of r (table of n)
  unfolding addition_asked
  addition_same = ap (λ (c : ℕ). first_of ((refusal.no_free_row when leb (limit of) c) ∷ (refusal.added_base_row when is_base (added_row of r)) ∷ [])) (s of).count

  pub asked_same : first_asked change r m ≡ first_asked change r n
  asked_same = go (true_or_false (is_addition change)) (dec_lt (target_of r) (table of m).count)
    where
      go : (is_addition change ≡ true) ⊎ (is_addition change ≡ false) → Dec (target_of r < (table of m).count) → first_asked change r m ≡ first_asked change r n
      go (inl e) d =
          asked_addition change r m e ∙ addition_same ∙ sym (asked_addition change r n e)
      go (inr e) (yes l) = asked_target change r m e l ∙ target_same l ∙ sym (asked_target change r n e (omega (arith, (s of).count)))
      go (inr e) (no g) = asked_absent change r m e (omega arith) ∙ sym (asked_absent change r n e (omega (arith, (s of).count)))

  -- the rows after it
  pub after_same : first_asked change r m ≡ 0 → SameRows (schema_after change r m) (schema_after change r n)
  unfolding schema_after table_after
  after_same z = replaced_same of (go (true_or_false (is_addition change))) s
    where
      go : (is_addition change ≡ true) ⊎ (is_addition change ≡ false) → Same (table_after change r (table of m)) (table_after change r (table of n))
      go (inl e) = rw e (plus_rows_same (s of) (edited_row change r []))
      go (inr e) =
          let q = (s of).rows (target_of r) (asked_there change r m z e) in
          rw (e, q) (with_rows_same (s of) (target_of r) (edited_row change r ((table of n).row (target_of r))))

  -- the rules and 30
  result_same : first_asked change r m ≡ 0 → first_of (result_cases change r m) ≡ first_of (result_cases change r n)
  result_same z =
      let after = after_same z in
      let a = added_by change r m.classes.count in
      let b = added_by change r n.classes.count in
      let u = schema_after change r m in
      let v = schema_after change r n in
      let count : a ≡ b = ap (added_by change r) (s Classes).count in
      append_cong (broken_cases (schema_rules a) u) _ (broken_cases (schema_rules b) v) _ (nonzero a (broken u)) (nonzero b (broken v))
      (sym (judged_number a u) ∙ ap (λ (x : Answer). x.number) (judged_same after a) ∙ ap (λ (x : Added). (judged x v).number) count ∙ judged_number b v)
      (ap (λ (x : Bool). first_of ((refusal.mandatory_differs when x) ∷ [])) (differs_same (s Classes) (after Classes)))

  pub number_same : change_number change r m ≡ change_number change r n
  unfolding change_number
  number_same = go (ℕ_discrete (first_asked change r m) 0)
    where
      go : Dec (first_asked change r m ≡ 0) → change_number change r m ≡ change_number change r n
      go (yes z) = number_judged change r m z ∙ result_same z ∙ sym (number_judged change r n (sym asked_same ∙ z))
      go (no d) = number_asked change r m d ∙ asked_same ∙ sym (number_asked change r n (λ z. d (asked_same ∙ z)))

  pub row_number_same : number_for change r m ≡ number_for change r n
  unfolding number_for
  row_number_same = ap (λ (c : ℕ). cond (is_addition change) c (target_of r)) (s of).count

  read_same : answer_to (Read change) r m ≡ answer_to (Read change) r n
  unfolding answer_to answer_by
  read_same = ap₂ (λ (x k : ℕ). cond (eqb x refusal.done) (changed of k) (refused x)) number_same row_number_same

-- the answer, and the rows after it
pub answer_same : (read : ChangeRead) (r : List ℕ) {m n : Schema} → SameRows m n → answer_to read r m ≡ answer_to read r n
answer_same (Read change) r s = read_same change r s
answer_same (Err bad) r s = unfold answer_to in refl

pub rows_same : (read : ChangeRead) (r : List ℕ) {m n : Schema} → SameRows m n → SameRows (rows_after read r m) (rows_after read r n)
unfolding rows_after
rows_same (Err bad) r s = s
rows_same (Read change) r {m} {n} s = go (ℕ_discrete (change_number change r m) 0)
  where
    go : Dec (change_number change r m ≡ 0) → SameRows (rows_after (Read change) r m) (rows_after (Read change) r n)
    go (yes z) =
        rw (says_true (says_eq (change_number change r m) 0) z, says_true (says_eq (change_number change r n) 0) (sym (number_same change r s) ∙ z))
        (after_same change r s (asked_zero change r m z))
    go (no d) = rw (
      says_false (says_eq (change_number change r m) 0) d,
      says_false (says_eq (change_number change r n) 0)
          (λ z. d (number_same change r s ∙ z)),
    ) s
