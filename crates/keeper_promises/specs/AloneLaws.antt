-- Demand 3: "On any two lots of stores, in order or not, alike in all but the kept sets of classes other than the one to be changed and the auxiliary
-- named, quick answers to the same change are equal."
use Rattle.std.specs.Prelude.{Bool, false, not, true, List, [], ◌++◌, ◌∷◌, ◌⊎◌, ◌≡◌, ◌<◌, ◌≤◌, ℕ, eqb, Err}
use Rattle.std.proofs.Math.Bool.{cond}
use Rattle.std.proofs.Common.{inl, inr, ◌∙◌, arith}
use Rattle.std.proofs.Math.Path.{ap, ap₂, refl, sym}
use Rattle.std.proofs.Math.Decide.{ℕ_discrete}
use Rattle.prelude.specs.First.{Case, NoneHolds, ◌when◌, first_of}
use Rattle.prelude.specs.FirstLaws.{append_first, append_rest, append_second, none_zero}
use Rattle.prelude.specs.Part.{part, same_bytes}
use Rattle.prelude.specs.SaysLaws.{says_fails, says_false, says_split}
use Rattle.sets.specs.Sets.{subset}
use Rattle.schema.specs.Answers.{changed, refused}
use Rattle.schema.specs.Layout.{attribute_set, demanded_at}
use Rattle.schema.specs.Numbers.{class_limit}
use Rattle.schema.specs.Store.{LongEnough, Result, Schema, Stores, any_short, closure_at, schema_of}
use Rattle.schema.specs.StoreLaws.{long_enough, says_short}
use Rattle.schema.specs.declared.number.TableId.TheVariants.{Classes}
use Rattle.tables.specs.Same.{SameRows}
use Rattle.graph.proofs.SameLaws.{demanded_same}
use Rattle.rules.specs.Rules.{row_cases, schema_rules}
use Rattle.rules.proofs.SameLaws.{row_cases_same}
use Rattle.tables_shape.specs.Shape.{stores_formed}
use Rattle.tables_shape.proofs.ShapeLaws.{says_formed}
use Rattle.change_read.specs.Carried.{entry_of, list_of, target_of}
use Rattle.change_read.specs.Reading.{change_out, read_change}
use Rattle.change_read.specs.declared.carried.OpenList.{OpenList}
use Rattle.change_read.specs.declared.carried.OpenList.TheVariants.{Auxiliary, Optional, Superior}
use Rattle.change_read.specs.declared.read.Change.{Change}
use Rattle.change_read.specs.declared.read.Change.TheVariants.{Add, AddEntry, Deactivate, Reactivate, RemoveEntry, Rename, SetRange}
use Rattle.change_read.specs.ChangeRead.{ChangeRead}
use Rattle.change_read.specs.ChangeRead.{Bad, Read}
use Rattle.change_rows.specs.Rows.{number_for, schema_after, table_for}
use Rattle.change_asked.specs.Asked.{asked_cases, first_asked}
use Rattle.change_asked.specs.AskedLaws.{asked_there}
use Rattle.change_model.specs.Model.{added_by, answer_by, changed_cases}
use Rattle.change_model.specs.ThereLaws.{entry_class}
use Rattle.change_model.proofs.SameLaws.{after_same, asked_same, row_number_same}
use Rattle.keeper.specs.InShape.{InShape}
use Rattle.keeper_change.specs.Quick.{quick_change, quick_differs, quick_number, quick_to}
use Rattle.keeper_promises.specs.AfterLaws.{after_changed}
use Rattle.keeper_promises.specs.AlikeLaws.{front_rows, same_formed}
use Rattle.keeper_promises.specs.Demand3.{AlikeFor, Concerned}
use Rattle.keeper_promises.specs.Promises.{Shape, SomeShort}
use Rattle.keeper_promises.specs.QuickLaws.{quick_one, quick_shaped, quick_two}
use Rattle.schema.specs.Refusals as refusal

-- ---- the number of a quick change, of rows that are the same and kept sets that may differ

-- the kept sets that 30 looks at, those of the target and of an auxiliary that is named, are the same
pub record SameKept (r k l : List ℕ) : Type 0 where
  pub target : target_of r < class_limit → closure_at k (target_of r) ≡ closure_at l (target_of r)
  pub entry : entry_of r < class_limit → closure_at k (entry_of r) ≡ closure_at l (entry_of r)

module _ (r : List ℕ) {m n : Schema} (s : SameRows m n) (few : m.classes.count ≤ class_limit) (k l : List ℕ) where
  -- 30: of an added auxiliary by these kept sets, of a removal by the rows alone, and never else
  differs_same : (change : Change) → first_asked change r m ≡ 0 → (change ≡ AddEntry → list_of r ≡ Auxiliary → SameKept r k l)
      → NoneHolds (changed_cases change r m) → quick_differs change r m k ≡ quick_differs change r n l
  differs_same (Add t) z kept none = refl
  differs_same SetRange z kept none = refl
  differs_same (Rename t) z kept none = refl
  differs_same (Deactivate t) z kept none = refl
  differs_same (Reactivate t) z kept none = refl
  differs_same AddEntry z kept none = entry (list_of r) refl
    where
      entry : (list : OpenList) → list_of r ≡ list → quick_differs AddEntry r m k ≡ quick_differs AddEntry r n l
      entry Optional e = rw e
      entry Superior e = rw e
      entry Auxiliary e =
          let same = kept refl e in
          rw e (ap₂ (λ (x y : List ℕ). not (subset (part demanded_at attribute_set x) (part demanded_at attribute_set y)))
          (same.entry (omega (arith, few, entry_class r m (none_zero (changed_cases AddEntry r m) none) e)))
          (same.target (omega (arith, few, asked_there AddEntry r m z refl))))
  differs_same RemoveEntry z kept none =
      ap₂ (λ (x y : List ℕ). not (same_bytes x y)) (demanded_same (s Classes) (target_of r))
      (demanded_same (after_same RemoveEntry r s z Classes) (target_of r))

module _ (change : Change) (r : List ℕ) {m n : Schema} (s : SameRows m n) (few : m.classes.count ≤ class_limit) (k l : List ℕ)
    (kept : change ≡ AddEntry → list_of r ≡ Auxiliary → SameKept r k l) where
  module _ (z : first_asked change r m ≡ 0) where
    cases_same : changed_cases change r m ≡ changed_cases change r n
    cases_same =
        row_cases_same (after_same change r s z) (added_by change r m.classes.count) (table_for change) (number_for change r m)
        (after_changed change r m z).own.here
        ∙ ap₂ (λ (c i : ℕ). row_cases (schema_rules (added_by change r c)) (schema_after change r n) (table_for change) i) (s Classes).count
        (row_number_same change r s)

    judged_same : first_of (changed_cases change r m ++ ((refusal.mandatory_differs when quick_differs change r m k) ∷ []))
        ≡ first_of (changed_cases change r n ++ ((refusal.mandatory_differs when quick_differs change r n l) ∷ []))
    judged_same =
        append_rest (changed_cases change r m) _ _ (λ none. ap (λ (b : Bool). first_of ((refusal.mandatory_differs when b) ∷ []))
        (differs_same r s few k l change z kept none))
        ∙ ap (λ (cs : List Case). first_of (cs ++ ((refusal.mandatory_differs when quick_differs change r n l) ∷ []))) cases_same

  pub quick_number_same : quick_number change r m k ≡ quick_number change r n l
  unfolding quick_number first_asked
  quick_number_same = go (ℕ_discrete (first_asked change r m) 0)
    where
      go : Dec (first_asked change r m ≡ 0) → quick_number change r m k ≡ quick_number change r n l
      go (yes z) =
          append_second (asked_cases change r m) _ (omega arith) z ∙ judged_same z
          ∙ sym (append_second (asked_cases change r n) _ (omega arith) (sym (asked_same change r s) ∙ z))
      go (no d) =
          append_first (asked_cases change r m) _ d ∙ asked_same change r s
          ∙ sym (append_first (asked_cases change r n) _ (λ z. d (asked_same change r s ∙ z)))

-- ---- the call

module _ (x : List ℕ) (s t : Stores) (h : AlikeFor x s t) where
  abbrev carried : List ℕ
  carried = (read_change x).row

  -- the kept sets that are looked at are those of the class to be changed and of the auxiliary named
  same_kept : (read_change x).answer ≡ Read AddEntry → list_of carried ≡ Auxiliary → SameKept carried s.closure t.closure
  unfolding number_for
  same_kept e aux =
      let reads : read_change x ≡ change_out (Read AddEntry) carried = ap (λ (y : ChangeRead). change_out y carried) e in
      record {
        target = λ l. h.closure (target_of carried) l (Concerned.target reads refl refl);
        entry = λ l. h.closure (entry_of carried) l (Concerned.auxiliary reads aux refl);
      }

  module _ (i : InShape s) where
    rows : SameRows (schema_of s) (schema_of t)
    rows = front_rows s t h.attributes h.classes i

    few : (schema_of s).classes.count ≤ class_limit
    few = ((says_formed s.attributes s.classes i.long.attributes i.long.classes).holds i.formed).classes.few

    to_same : (y : ChangeRead) → (read_change x).answer ≡ y → quick_to y carried s ≡ quick_to y carried t
    unfolding answer_by
    to_same (Err bad) e = refl
    to_same (Read change) e =
        ap₂ (λ (n k : ℕ). cond (eqb n refusal.done) (changed (table_for change) k) (refused n))
        (quick_number_same change carried rows few s.closure t.closure (λ q. same_kept (e ∙ ap Read q)))
        (row_number_same change carried rows)

  answer_of_lem : {a b : Result} → a ≡ b → a.answer ≡ b.answer
  answer_of_lem e = ap (λ (r : Result). r.answer) e

  shaped : LongEnough s → LongEnough t → (quick_change x s).answer ≡ (quick_change x t).answer
  shaped p q = go (says_split (says_formed s.attributes s.classes p.attributes p.classes))
    where
      go : ((stores_formed s.attributes s.classes ≡ true) × Shape s) ⊎ ((stores_formed s.attributes s.classes ≡ false) × ¬ Shape s)
          → (quick_change x s).answer ≡ (quick_change x t).answer
      go (inl f) =
          let i : InShape s = record { long = p; formed = f.0 } in
          let j : InShape t = record { long = q; formed = sym (same_formed s t h.attributes h.classes) ∙ f.0 } in
          quick_shaped x s i ∙ to_same i (read_change x).answer refl ∙ sym (quick_shaped x t j)
      go (inr f) =
          let same = sym (same_formed s t h.attributes h.classes) in
          let d : ¬ Shape t = says_fails (says_formed t.attributes t.classes q.attributes q.classes) (same ∙ f.0) in
          answer_of_lem (quick_two x s p f.1) ∙ sym (answer_of_lem (quick_two x t q d))

  pub quick_alone : (quick_change x s).answer ≡ (quick_change x t).answer
  quick_alone = go (says_split (says_short s))
    where
      go : ((any_short s ≡ true) × SomeShort s) ⊎ ((any_short s ≡ false) × ¬ SomeShort s) → (quick_change x s).answer ≡ (quick_change x t).answer
      go (inl e) = answer_of_lem (quick_one x s e.1) ∙ sym (answer_of_lem (quick_one x t (h.lengths.0 e.1)))
      go (inr e) = shaped (long_enough s e.0) (long_enough t (says_false (says_short t) (λ q. e.1 (h.lengths.1 q))))
