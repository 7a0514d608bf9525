-- A quick change answers as document 01 says on any stores in shape: the first number in the order of judging whose condition
-- holds, without table and place.
use Rattle.std.specs.Prelude.{Bool, List, [], ◌++◌, ◌∷◌, ◌≡◌, refl, ℕ, ◌≤◌}
use Rattle.std.proofs.Common.{⊎_elim, ◌∙◌, subst, sym, arith}
use Rattle.std.proofs.Math.Path.{ap}
use Rattle.prelude.specs.First.{Among, Case}
use Rattle.prelude.specs.FirstLaws.{among_above, among_append, among_left, among_right, first_among, first_least, other_first}
use Rattle.prelude.specs.SaysLaws.{says_eq, says_false, says_true}
use Rattle.schema.specs.Answers.{RowChanged, refused}
use Rattle.schema.specs.AnswersLaws.{told_changed}
use Rattle.schema.specs.Order.{rank, position}
use Rattle.schema.specs.Store.{Schema, Stores, schema_of}
use Rattle.schema.specs.declared.answer.Answer.{Answer}
use Rattle.rules.specs.Rules.{Rule, schema_rules}
use Rattle.rules.specs.RulesLaws.{case_picked, picked_case, rising}
use Rattle.change_read.specs.ChangeLaws.{Reads}
use Rattle.change_read.specs.Reading.{ChangeOut}
use Rattle.change_read.specs.declared.read.Change.{Change}
use Rattle.change_rows.specs.Rows.{number_for, schema_after, table_for}
use Rattle.change_asked.specs.Asked.{asked_cases}
use Rattle.change_model.proofs.ConditionsLaws.{among_condition, condition_among, result_rise}
use Rattle.change_model.specs.Model.{added_by, answer_by, changed_cases, result_cases}
use Rattle.change_model.specs.ModelLaws.{answer_number}
use Rattle.keeper.specs.InShape.{InShape}
use Rattle.keeper_change.specs.Quick.{quick_change, quick_number, quick_to}
use Rattle.keeper_promises.specs.OrderLaws.{has_shape}
use Rattle.keeper_promises.specs.QuickAnswers.{AnswersQuickly, QuickCondition}
use Rattle.keeper_promises.specs.QuickLaws.{quick_shaped}
use Rattle.keeper_promises.specs.QuickSets.{Done}
use Rattle.keeper_promises.specs.ThirtyLaws.{before, number_is, numbers_rise, says_thirty, thirty_case}
use Rattle.schema.specs.Refusals as refusal

module _ (x : List ℕ) (s : Stores) (change : Change) (r : List ℕ) (reads : Reads x change r) where
  abbrev m : Schema
  m = schema_of s

  abbrev cases : List Case
  cases = before x s change r reads ++ (thirty_case x s change r reads ∷ [])

  -- the test of the changed row
  abbrev by_row : Rule → Bool
  by_row rule = rule.breaks (schema_after change r m) (table_for change) (number_for change r m)

  abbrev rules : List Rule
  rules = schema_rules (added_by change r m.classes.count)

  -- ---- conditions and cases

  asked_few : {n : ℕ} → Among n (asked_cases change r m) → rank n ≤ rank refusal.still_needed
  unfolding rank position
  asked_few {n = n} (Among.there (Among.there (Among.there (Among.there (Among.there (Among.there (Among.there x22))))))) = elim x22 [ ]
  asked_few (Among.here e q) = omega (arith, ap rank q)
  asked_few (Among.there (Among.here e q)) = omega (arith, ap rank q)
  asked_few (Among.there (Among.there (Among.here e q))) = omega (arith, ap rank q)
  asked_few (Among.there (Among.there (Among.there (Among.here e q)))) = omega (arith, ap rank q)
  asked_few (Among.there (Among.there (Among.there (Among.there (Among.here e q))))) = omega (arith, ap rank q)
  asked_few (Among.there (Among.there (Among.there (Among.there (Among.there (Among.here e q)))))) = omega (arith, ap rank q)
  asked_few (Among.there (Among.there (Among.there (Among.there (Among.there (Among.there (Among.here e q))))))) = omega (arith, ap rank q)

  case_condition : {n : ℕ} → Among n cases → QuickCondition change r s n
  case_condition {n} a = ⊎_elim (λ b. ⊎_elim asked rule (among_append (asked_cases change r m) (changed_cases change r m) b)) last
      (among_append (before x s change r reads) (thirty_case x s change r reads ∷ []) a)
    where
      asked : Among n (asked_cases change r m) → QuickCondition change r s n
      asked b = QuickCondition.asked (asked_few b) (among_condition change r m (among_left (result_cases change r m) b))

      rule : Among n (changed_cases change r m) → QuickCondition change r s n
      rule b = QuickCondition.rule n (case_picked by_row (rank refusal.still_needed) rules (rising (added_by change r m.classes.count) by_row) b)

      last : Among n (thirty_case x s change r reads ∷ []) → QuickCondition change r s n
      last (Among.there x4) = elim x4 [ ]
      last (Among.here e q) = subst (QuickCondition change r s) q (QuickCondition.mandatory_differs ((says_thirty change r s).holds e))

  condition_case : {n : ℕ} → QuickCondition change r s n → Among n cases
  condition_case (QuickCondition.asked l c) =
      ⊎_elim (λ a. among_left (thirty_case x s change r reads ∷ []) (among_left (changed_cases change r m) a))
      (λ b. absurd (omega (arith, l, among_above rank (rank refusal.still_needed) (result_cases change r m) (result_rise change r m) b)))
      (among_append (asked_cases change r m) (result_cases change r m) (condition_among change r m c))
  condition_case (QuickCondition.rule n e) =
      among_left (thirty_case x s change r reads ∷ []) (among_right (asked_cases change r m) (picked_case by_row n rules refl e))
  condition_case (QuickCondition.mandatory_differs t) =
      among_right (before x s change r reads) (Among.here ((says_thirty change r s).passes t) refl)

  -- ---- the answer

  module _ (shape : InShape s) where
    answer_is : (quick_change x s).answer ≡ answer_by change r m (quick_number change r m s.closure)
    answer_is = quick_shaped x s shape ∙ ap (λ (o : ChangeOut). quick_to o.answer o.row s) reads

    number_by : (quick_change x s).answer.number ≡ quick_number change r m s.closure
    number_by = ap (λ (a : Answer). a.number) answer_is ∙ answer_number change r m (quick_number change r m s.closure)

    answer_done : Done x s → RowChanged (quick_change x s).answer (table_for change) (number_for change r m)
    unfolding answer_by
    answer_done z =
        told_changed (table_for change) (number_for change r m) (answer_is
        ∙ rw (says_true (says_eq (quick_number change r m s.closure) 0) (sym number_by ∙ z)))

    answer_told : ¬ (Done x s) → (quick_change x s).answer ≡ refused (quick_change x s).answer.number
    unfolding answer_by
    answer_told d = answer_is ∙ rw (says_false (says_eq (quick_number change r m s.closure) 0) (λ z. d (number_by ∙ z))) (ap refused (sym number_by))

    answer_holds : ¬ (Done x s) → QuickCondition change r s (quick_change x s).answer.number
    answer_holds d =
        let e = number_is x s change r reads shape in
        subst (QuickCondition change r s) (sym e) (case_condition (first_among (other_first cases (λ z. d (e ∙ z)))))

    answer_least : (n : ℕ) → QuickCondition change r s n → rank (quick_change x s).answer.number ≤ rank n
    answer_least n c =
        omega (
          arith,
          ap rank (number_is x s change r reads shape),
          first_least rank (rank refusal.unreadable) n cases (numbers_rise x s change r reads) (condition_case c),
        )

pub quick_answers : (x : List ℕ) (s : Stores) → AnswersQuickly x s
quick_answers x s long formed change r reads =
    let shape = has_shape s long formed in record {
      done = answer_done x s change r reads shape;
      told = answer_told x s change r reads shape;
      holds = answer_holds x s change r reads shape;
      least = answer_least x s change r reads shape;
    }
