-- The quick change and the plain change give the same number and leave the same closure store, on schemas that keep every rule and kept sets that are
-- afresh.
use Rattle.std.specs.Prelude.{drop, ℕ, Bool, true, List, [], ◌++◌, ◌∷◌, ◌≡◌}
use Rattle.std.proofs.Math.ListN.{take-append-drop}
use Rattle.std.proofs.Common.{arith, ◌∙◌, ap, ap₂}
use Rattle.std.proofs.Math.Decide.{ℕ_discrete}
use Rattle.std.proofs.Math.Path.{sym}
use Rattle.schema.specs.Layout.{closure_length}
use Rattle.schema.specs.Store.{Schema, Table}
use Rattle.change_read.specs.declared.read.Change.{Change}
use Rattle.change_read.specs.Carried.{target_of}
use Rattle.change_rows.specs.Rows.{schema_after}
use Rattle.change_asked.specs.Asked.{asked_cases, first_asked}
use Rattle.prelude.specs.First.{Case, ◌when◌, first_of}
use Rattle.prelude.specs.FirstLaws.{append_first, append_second}
use Rattle.prelude.specs.Part.{part, splice}
use Rattle.prelude.specs.SpliceLaws.{splice_front}
use Rattle.rules.specs.Rules.{schema_rules}
use Rattle.rules.specs.Judge.{broken_cases}
use Rattle.graph.specs.Graph.{closure_rows, demanded_set, is_fresh, mandatory_differs}
use Rattle.graph.proofs.FreshLaws.{closure_rows_length, fresh_bytes, says_fresh}
use Rattle.closure_change.specs.After.{closure_after, demand_changes}
use Rattle.closure_change.proofs.KeptLaws.{after_past}
use Rattle.change_model.specs.Model.{added_by, change_number, changed_cases}
use Rattle.change_model.specs.ModelLaws.{number_asked, number_judged}
use Rattle.change_model.specs.Sound.{Passed, Sound, row_number}
use Rattle.change_model.proofs.AloneLaws.{cases_agree}
use Rattle.change_model.specs.QuickLaws.{closure_agrees, demand_agrees}
use Rattle.change_model.specs.ThereLaws.{class_room}
use Rattle.schema.specs.Refusals as refusal

module _ (change : Change) (r : List ℕ) (m : Schema) (closure : List ℕ) where
  abbrev before : Table
  before = m.classes

  abbrev after : Table
  after = (schema_after change r m).classes

  -- ---- the number

  -- 30 by the kept sets, and by the rows
  abbrev quick_thirty : List Case
  quick_thirty = (refusal.mandatory_differs when demand_changes change r after (demanded_set before (target_of r)) closure) ∷ []

  abbrev plain_thirty : List Case
  plain_thirty = (refusal.mandatory_differs when mandatory_differs before after) ∷ []

  -- the rules and 30, where numbers 5 to 11 say nothing
  result_agrees : Sound r m closure → first_asked change r m ≡ 0
      → first_of (changed_cases change r m ++ quick_thirty)
      ≡ first_of (broken_cases (schema_rules (added_by change r before.count)) (schema_after change r m) ++ plain_thirty)
  result_agrees s z =
      go (ℕ_discrete (row_number change r m) 0)
      ∙ ap (λ (cs : List Case). first_of (cs ++ plain_thirty)) (sym (cases_agree change r m s.carried z s.wide s.few s.kept))
    where
      go : Dec (row_number change r m ≡ 0) → first_of (changed_cases change r m ++ quick_thirty) ≡ first_of (changed_cases change r m ++ plain_thirty)
      go (yes e) =
          ap (λ (b : Bool). first_of (changed_cases change r m ++ ((refusal.mandatory_differs when b) ∷ [])))
          (demand_agrees r m closure change (record { sound = s; asked = z; passed = e }))
      go (no d) = append_first (changed_cases change r m) quick_thirty d ∙ sym (append_first (changed_cases change r m) plain_thirty d)

  -- the numbers from 5 on
  pub number_agrees : Sound r m closure
      → first_of (asked_cases change r m
      ++ (changed_cases change r m ++ ((refusal.mandatory_differs when demand_changes change r after (demanded_set before (target_of r)) closure) ∷ [])))
      ≡ change_number change r m
  unfolding first_asked
  number_agrees s = go (ℕ_discrete (first_asked change r m) 0)
    where
      go : Dec (first_asked change r m ≡ 0) → first_of (asked_cases change r m ++ (changed_cases change r m ++ quick_thirty)) ≡ change_number change r m
      go (yes z) =
          append_second (asked_cases change r m) (changed_cases change r m ++ quick_thirty) (omega arith) z ∙ result_agrees s z
          ∙ sym (number_judged change r m z)
      go (no d) = append_first (asked_cases change r m) (changed_cases change r m ++ quick_thirty) d ∙ sym (number_asked change r m d)

  -- ---- the closure store

  module _ (s : Passed change r m closure) where
    abbrev left : List ℕ
    left = closure_after change r after before.count closure

    pub closure_fresh : is_fresh after (closure_after change r after before.count closure) ≡ true
    closure_fresh = (says_fresh after left).passes (closure_agrees r m closure change s)

    -- it is what refreshing all of it leaves, every byte
    pub closure_refreshed : closure_after change r after before.count closure ≡ splice 0 (closure_rows after) closure
    closure_refreshed =
        sym (halves left)
        ∙ ap₂ ◌++◌ (fresh_bytes after left closure_fresh)
        (after_past closure s.sound.long change r after before.count (class_room change r m s.asked)
        ∙ ap (λ (n : ℕ). drop n closure) (sym (closure_rows_length after)))
        ∙ sym (splice_front (closure_rows after) closure)
      where
        halves : (x : List ℕ) → part 0 closure_length x ++ drop closure_length x ≡ x
        halves x = unfold part in take-append-drop closure_length x
