-- The answer to a change is the first number in the order of judging whose condition holds.
use native.Mathlib.Omega.{arith}
use Rattle.std.specs.Prelude.{◌%◌, ◌≤◌, ℕ, Bool, false, true, List, [], ◌∷◌, ◌≡◌, refl, ◌↔◌}
use Rattle.std.proofs.lemmas.Bool.{false≢true}
use Rattle.std.proofs.Common.{sym, subst, inl, inr}
use Rattle.std.proofs.Math.Logic.{⊎_elim}
use Rattle.schema.specs.declared.number.TableId.TheVariants.{Attributes, Classes}
use Rattle.schema.specs.Store.{Schema, table, Table}
use Rattle.schema.specs.declared.number.TableId.{TableId}
use Rattle.schema.specs.NumbersLaws.{apart, says_same_row}
use Rattle.schema.specs.Row.{is_base, is_defunct}
use Rattle.schema.specs.Numbers.{limit}
use Rattle.schema.specs.Order.{rank, position}
use Rattle.schema.specs.OrderLaws.{rank_zero}
use Rattle.schema.specs.AttributeRow.{link_of}
use Rattle.schema.specs.Layout.{attribute_set}
use Rattle.change_read.specs.declared.read.Change.TheVariants.{Add, SetRange, Rename, Deactivate, Reactivate, AddEntry, RemoveEntry}
use Rattle.change_read.specs.declared.read.Change.{Change}
use Rattle.change_read.specs.Carried.{added_row, entry_of, list_of, target_of}
use Rattle.change_model.specs.Conditions.{BarsBase, ClassNeeds, Conflict, LinkNeeds, Needed, WrongState, Condition, DeactivatedNeeded, DemandDiffers}
use Rattle.change_model.specs.Model.{change_cases, added_by, change_number, result_cases}
use Rattle.prelude.specs.Says.{Says}
use Rattle.prelude.specs.BelowLaws.{says_any}
use Rattle.prelude.specs.SaysLaws.{says_eq, says_le, says_lt, says_never, says_not, says_not_test, says_or, says_test, says_and, says_iff}
use Rattle.prelude.specs.First.{Among, ◌when◌, NonZero, Rising}
use Rattle.prelude.specs.FirstLaws.{among_append, among_left, first_among, first_least, first_or_none, none_zero, other_first, among_right}
use Rattle.prelude.specs.FirstLaws.{none_among, rising_nonzero, zero_iff_none}
use Rattle.change_asked.specs.Asked.{base_added, base_touched, state_wrong, table_full, target_absent, asked_cases, target_row}
use Rattle.change_asked.specs.Needed.{class_needs, link_needs, needed}
use Rattle.change_rows.specs.Lists.{fixed_of, open_of}
use Rattle.change_rows.specs.Rows.{is_addition, table_for, schema_after}
use Rattle.rules_attribute.specs.Links.{is_back_link}
use Rattle.rules_attribute.proofs.LinksLaws.{says_forward}
use Rattle.rules.proofs.MeetsLaws.{among_unmet, unmet_among}
use Rattle.rules.specs.Judge.{broken_cases}
use Rattle.rules.specs.Rules.{schema_rules}
use Rattle.sets.specs.SetsLaws.{says_member, says_same_sets}
use Rattle.tables.proofs.NamedLaws.{says_names}
use Rattle.change_asked.specs.Asked.{entry_conflict, still_needed}
use Rattle.graph.specs.Graph.{mandatory_differs, demanded_set, demands}
use Rattle.schema.specs.Refusals as refusal

-- ---- what the tests say

says_absent : (change : Change) (r : List ℕ) (m : Schema)
    → Says (target_absent change r m) ((is_addition change ≡ false) × ((table (table_for change) m).count ≤ target_of r))
unfolding target_absent
says_absent change r m =
    says_and (says_not_test (is_addition change))
    (says_iff (says_not (says_lt (target_of r) (table (table_for change) m).count)) (λ n. omega arith, λ l q. omega arith))

says_full : (change : Change) (m : Schema)
    → Says (table_full change m) ((is_addition change ≡ true) × (limit (table_for change) ≤ (table (table_for change) m).count))
unfolding table_full
says_full change m = says_and (says_test (is_addition change)) (says_le (limit (table_for change)) (table (table_for change) m).count)

says_state : (change : Change) (row : List ℕ) → Says (state_wrong change row) (WrongState change row)
says_state (Add t) row = says_never
says_state SetRange row = says_test (is_defunct row)
says_state (Rename t) row = says_test (is_defunct row)
says_state (Deactivate t) row = says_test (is_defunct row)
says_state (Reactivate t) row = says_not (says_test (is_defunct row))
says_state AddEntry row = says_test (is_defunct row)
says_state RemoveEntry row = says_test (is_defunct row)

barred_base : (b : Bool) → Says b (Unit {0} × (b ≡ true))
barred_base b = record { holds = λ e. (tt, e); passes = λ h. h.1 }

unbarred_base : {P : Type 0} → Says false (⊥ × P)
unbarred_base = record { holds = λ e. absurd (false≢true e); passes = λ h. absurd h.0 }

says_base : (change : Change) (row : List ℕ) → Says (base_touched change row) (BarsBase change × (is_base row ≡ true))
says_base (Add t) row = unbarred_base
says_base SetRange row = barred_base (is_base row)
says_base (Rename t) row = barred_base (is_base row)
says_base (Deactivate t) row = barred_base (is_base row)
says_base (Reactivate t) row = unbarred_base
says_base AddEntry row = unbarred_base
says_base RemoveEntry row = unbarred_base

says_added : (change : Change) (r : List ℕ) → Says (base_added change r) ((is_addition change ≡ true) × (is_base (added_row (table_for change) r) ≡ true))
unfolding base_added
says_added change r = says_and (says_test (is_addition change)) (says_test (is_base (added_row (table_for change) r)))

says_conflict : (change : Change) (r row : List ℕ) → Says (entry_conflict change r row) (Conflict change r row)
says_conflict (Add t) r row = says_never
says_conflict SetRange r row = says_never
says_conflict (Rename t) r row = says_never
says_conflict (Deactivate t) r row = says_never
says_conflict (Reactivate t) r row = says_never
says_conflict AddEntry r row = says_or (says_member (open_of (list_of r) row) (entry_of r)) (says_member (fixed_of (list_of r) row) (entry_of r))
says_conflict RemoveEntry r row = says_not (says_member (open_of (list_of r) row) (entry_of r))

-- ---- number 11

says_class_needs : (m : Schema) (t : TableId) (k j : ℕ) → Says (class_needs t k m.classes j) (ClassNeeds m t k j)
unfolding class_needs
says_class_needs m t k j =
    says_iff
    (says_and (says_not (says_same_row t k Classes j))
    (says_and (says_not (says_test (is_defunct (m.classes.row j)))) (says_names t (m.classes.row j) k))) (
      λ h. record { other = h.0; active = h.1.0; named = h.1.1 },
      λ h. (h.other, (h.active, h.named)),
    )

says_link_needs : (m : Schema) (k j : ℕ) → Says (link_needs (m.attributes.row k) m.attributes j) (LinkNeeds m k j)
unfolding link_needs is_back_link
says_link_needs m k j =
    says_iff
    (says_and (says_not (says_test (is_defunct (m.attributes.row j))))
    (says_and (says_eq (link_of (m.attributes.row j) % 2) 1) (says_forward (m.attributes.row j) (m.attributes.row k)))) (
      λ h. record { active = h.0; back = h.1.0; forward = h.1.1 },
      λ h. (h.active, (h.back, h.forward)),
    )

pub says_needed : (m : Schema) (t : TableId) (k : ℕ) → Says (needed m t k) (Needed m t k)
unfolding needed
says_needed m Attributes k =
    says_iff
    (says_or (says_any m.classes.count (λ j l. says_class_needs m Attributes k j)) (says_any m.attributes.count (λ j l. says_link_needs m k j)))
    (⊎_elim inl (λ s. inr (refl, s)), ⊎_elim inl (λ s. inr s.1))
says_needed m Classes k =
    says_iff (says_any m.classes.count (λ j l. says_class_needs m Classes k j)) (inl, ⊎_elim (λ s. s) (λ s. absurd (apart (sym s.0))))

says_still : (change : Change) (k : ℕ) (m : Schema) → Says (still_needed change k m) (DeactivatedNeeded change k m)
says_still (Add t) k m = says_never
says_still SetRange k m = says_never
says_still (Rename t) k m = says_never
says_still (Deactivate t) k m = says_needed m t k
says_still (Reactivate t) k m = says_never
says_still AddEntry k m = says_never
says_still RemoveEntry k m = says_never

-- ---- number 30

pub says_differs : (t u : Table) → Says (mandatory_differs t u) (DemandDiffers t u)
unfolding mandatory_differs demanded_set
says_differs t u =
    says_any t.count (λ c l. says_not (says_same_sets attribute_set (demands t c) (demands u c)))

-- ---- the cases, and their conditions

module _ (change : Change) (r : List ℕ) (m : Schema) where
  abbrev old : List ℕ
  old = target_row change r m

  abbrev result : Schema
  result = schema_after change r m

  at : {x y : ℕ} → x ≡ y → Condition change r m x → Condition change r m y
  at q c = subst (Condition change r m) q c

  asked_condition : {x : ℕ} → Among x (asked_cases change r m) → Condition change r m x
  asked_condition (Among.there (Among.there (Among.there (Among.there (Among.there (Among.there (Among.there x22))))))) = elim x22 [ ]
  asked_condition (Among.here e q) = at q (let h = (says_absent change r m).holds e in Condition.no_such_row h.0 h.1)
  asked_condition (Among.there (Among.here e q)) = at q (let h = (says_full change m).holds e in Condition.no_free_row h.0 h.1)
  asked_condition (Among.there (Among.there (Among.here e q))) = at q (Condition.wrong_state ((says_state change old).holds e))
  asked_condition (Among.there (Among.there (Among.there (Among.here e q)))) =
      at q (let h = (says_base change old).holds e in Condition.base_row h.0 h.1)
  asked_condition (Among.there (Among.there (Among.there (Among.there (Among.here e q))))) =
      at q (let h = (says_added change r).holds e in Condition.added_base_row h.0 h.1)
  asked_condition (Among.there (Among.there (Among.there (Among.there (Among.there (Among.here e q)))))) =
      at q (Condition.entry_conflict ((says_conflict change r old).holds e))
  asked_condition (Among.there (Among.there (Among.there (Among.there (Among.there (Among.there (Among.here e q))))))) =
      at q (Condition.still_needed ((says_still change (target_of r) m).holds e))

  result_condition : {x : ℕ} → Among x (result_cases change r m) → Condition change r m x
  result_condition a = ⊎_elim broken thirty (among_append (broken_cases (schema_rules (added_by change r m.classes.count)) result) _ a)
    where
      broken : {x : ℕ} → Among x (broken_cases (schema_rules (added_by change r m.classes.count)) result) → Condition change r m x
      broken b = let u = among_unmet (added_by change r m.classes.count) result b in at u.1 (Condition.rule u.0 u.2)

      thirty : {x : ℕ} → Among x ((refusal.mandatory_differs when mandatory_differs m.classes result.classes) ∷ []) → Condition change r m x
      thirty (Among.there x5) = elim x5 [ ]
      thirty (Among.here e q) = at q (Condition.mandatory_differs ((says_differs m.classes result.classes).holds e))

  -- a number of the cases has its condition
  pub among_condition : {x : ℕ} → Among x (change_cases change r m) → Condition change r m x
  among_condition a = ⊎_elim asked_condition result_condition (among_append (asked_cases change r m) (result_cases change r m) a)

  -- and a number whose condition holds is among them
  pub needed_among : DeactivatedNeeded change (target_of r) m → Among refusal.still_needed (asked_cases change r m)
  needed_among d =
      Among.there (Among.there (Among.there (Among.there (Among.there (Among.there (Among.here ((says_still change (target_of r) m).passes d) refl))))))

  pub condition_among : {x : ℕ} → Condition change r m x → Among x (change_cases change r m)
  condition_among (Condition.no_such_row a l) = Among.here ((says_absent change r m).passes (a, l)) refl
  condition_among (Condition.no_free_row a l) = Among.there (Among.here ((says_full change m).passes (a, l)) refl)
  condition_among (Condition.wrong_state s) = Among.there (Among.there (Among.here ((says_state change old).passes s) refl))
  condition_among (Condition.base_row a b) = Among.there (Among.there (Among.there (Among.here ((says_base change old).passes (a, b)) refl)))
  condition_among (Condition.added_base_row a b) =
      Among.there (Among.there (Among.there (Among.there (Among.here ((says_added change r).passes (a, b)) refl))))
  condition_among (Condition.entry_conflict c) =
      Among.there (Among.there (Among.there (Among.there (Among.there (Among.here ((says_conflict change r old).passes c) refl)))))
  condition_among (Condition.still_needed d) = among_left (result_cases change r m) (needed_among d)
  condition_among (Condition.rule name unmet) =
      among_right (asked_cases change r m) (among_left _ (unmet_among (added_by change r m.classes.count) result name unmet))
  condition_among (Condition.mandatory_differs d) =
      among_right (asked_cases change r m) (among_right (broken_cases (schema_rules (added_by change r m.classes.count)) result)
      (Among.here ((says_differs m.classes result.classes).passes d) refl))

  -- ---- the answer's number

  -- the cases stand in the order of judging: all after 4, those of the result after 11
  pub cases_rise : Rising rank (rank refusal.unreadable) (change_cases change r m)
  unfolding rank position
  cases_rise = omega arith

  cases_nonzero : NonZero (change_cases change r m)
  cases_nonzero = rising_nonzero rank rank_zero (rank refusal.unreadable) (change_cases change r m) cases_rise

  pub result_rise : Rising rank (rank refusal.still_needed) (result_cases change r m)
  unfolding rank position
  result_rise = omega arith

  -- 0 exactly where no condition holds
  pub change_zero : (change_number change r m ≡ 0) ↔ ((x : ℕ) → ¬ (Condition change r m x))
  unfolding change_number
  change_zero = (
    λ e x c. none_among ((zero_iff_none (change_cases change r m) cases_nonzero).0 e) (condition_among c),
    λ none. ⊎_elim (λ f. absurd (none _ (among_condition (first_among f)))) (none_zero (change_cases change r m)) (first_or_none (change_cases change r m)),
  )

  -- else its condition holds, and that of no number that comes before it in the order of judging
  pub change_condition : ¬ (change_number change r m ≡ 0) → Condition change r m (change_number change r m)
  unfolding change_number
  change_condition d = among_condition (first_among (other_first (change_cases change r m) d))

  pub change_least : (x : ℕ) → Condition change r m x → rank (change_number change r m) ≤ rank x
  unfolding change_number
  change_least x c = first_least rank (rank refusal.unreadable) x (change_cases change r m) cases_rise (condition_among c)
