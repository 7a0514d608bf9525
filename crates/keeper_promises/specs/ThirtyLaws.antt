-- When a quick change gives 30, and when 0, on any stores in shape: exactly where document 01 says.
use Rattle.std.specs.Prelude.{length, ℕ, ◌<◌, ◌≤◌, Bool, ◌&&◌, false, not, true, List, [], ◌++◌, ◌∷◌, ◌⊎◌, ◌↔◌, ◌≡◌, refl}
use Rattle.std.proofs.Math.Decide.{dec_lt}
use native.Mathlib.Omega.{arith}
use Rattle.std.proofs.Common.{append_assoc, inl, inr, ◌∙◌, sym}
use Rattle.std.proofs.Math.Path.{ap}
use Rattle.prelude.specs.Below.{Some, any_below}
use Rattle.prelude.specs.BelowLaws.{any_none, says_any}
use Rattle.prelude.specs.First.{Case, NoneHolds, Rising, ◌when◌, first_of}
use Rattle.prelude.specs.FirstLaws.{append_miss, first_hit, first_miss, first_none, rising_nonzero, zero_iff_none}
use Rattle.prelude.specs.Part.{same_bytes}
use Rattle.prelude.specs.PartLaws.{part_short}
use Rattle.prelude.specs.Says.{Says}
use Rattle.prelude.specs.SaysLaws.{says_and, says_fails, says_false, says_iff, says_never, says_not, says_same, says_split, true_or_false}
use Rattle.sets.specs.Sets.{bit, member, subset}
use Rattle.sets.specs.SetsLaws.{bit_cases, bit_lt, bit_past, says_member, says_same_sets, says_subset}
use Rattle.schema.specs.Layout.{attribute_set, demanded_at}
use Rattle.schema.specs.Order.{rank, position}
use Rattle.schema.specs.OrderLaws.{rank_zero}
use Rattle.schema.specs.Store.{Schema, Stores, Table, closure_at, demanded_in, schema_of}
use Rattle.schema.specs.declared.answer.Answer.{Answer}
use Rattle.graph.specs.Graph.{demanded_set, demands}
use Rattle.closure_change.specs.After.{entry_demands}
use Rattle.change_read.specs.Carried.{entry_of, list_of, target_of}
use Rattle.change_read.specs.ChangeLaws.{Reads}
use Rattle.change_read.specs.Reading.{ChangeOut}
use Rattle.change_read.specs.declared.carried.OpenList.{OpenList}
use Rattle.change_read.specs.declared.carried.OpenList.TheVariants.{Auxiliary, Optional, Superior}
use Rattle.change_read.specs.declared.read.Change.{Change}
use Rattle.change_read.specs.declared.read.Change.TheVariants.{Add, AddEntry, Deactivate, Reactivate, RemoveEntry, Rename, SetRange}
use Rattle.change_rows.specs.Rows.{schema_after}
use Rattle.change_asked.specs.Asked.{asked_cases}
use Rattle.change_model.specs.Model.{changed_cases}
use Rattle.change_model.specs.ModelLaws.{answer_number}
use Rattle.keeper.specs.InShape.{InShape}
use Rattle.keeper_change.specs.Quick.{quick_change, quick_differs, quick_number, quick_to}
use Rattle.keeper_promises.specs.QuickLaws.{quick_shaped}
use Rattle.keeper_promises.specs.QuickSets.{DemandsMore, DemandsOther, Done, Thirty, Unrefused}
use Rattle.keeper_promises.specs.UsesGraphLaws.{says_demanded}
use Rattle.schema.specs.Refusals as refusal

-- ---- the condition

-- some member of a is none of b: a is not within b
abbrev Beyond : List ℕ → List ℕ → Type 0
Beyond a b = Some 256 (λ k. (bit a k ≡ 1) × ¬ (bit b k ≡ 1))

says_beyond : (a b : List ℕ) → length a ≤ 32 → Says (not (subset a b)) (Beyond a b)
says_beyond a b short = says_iff (says_not (says_subset a b)) (some, λ q all. q.is.1 (omega (arith, q.is.0, all q.at, bit_lt b q.at)))
  where
    beyond : ℕ → Bool
    beyond k = member a k && not (member b k)

    each : (k : ℕ) → Says (beyond k) ((bit a k ≡ 1) × ¬ (bit b k ≡ 1))
    each k = says_and (says_member a k) (says_not (says_member b k))

    within : any_below 256 beyond ≡ false → (k : ℕ) → bit a k ≤ bit b k
    within e k = go (bit_cases a k) (bit_cases b k) (dec_lt k 256)
      where
        go : (bit a k ≡ 0) ⊎ (bit a k ≡ 1) → (bit b k ≡ 0) ⊎ (bit b k ≡ 1) → Dec (k < 256) → bit a k ≤ bit b k
        go (inl z) q l = omega (arith, z)
        go (inr o) (inr p) l = omega (arith, o, p)
        go (inr o) (inl z) (yes l) = absurd (says_fails (each k) (any_none beyond 256 e k l) (o, λ p. omega arith))
        go (inr o) (inl z) (no g) = omega (arith, bit_past a k (omega arith))

    some : ¬ ((k : ℕ) → bit a k ≤ bit b k) → Beyond a b
    some d = go (says_split (says_any 256 (λ k l. each k)))
      where
        go : ((any_below 256 beyond ≡ true) × Beyond a b) ⊎ ((any_below 256 beyond ≡ false) × ¬ (Beyond a b)) → Beyond a b
        go (inl q) = q.1
        go (inr q) = absurd (d (within q.0))

-- the lists are apart
other_list : {list : OpenList} {P : Type 0} → ¬ (list ≡ Auxiliary) → Says false ((list ≡ Auxiliary) × P)
other_list d = says_iff says_never (λ f. absurd f, λ h. d h.0)

says_entry : (s : Stores) (list : OpenList) (a k : ℕ) → Says (entry_demands list a k s.closure) ((list ≡ Auxiliary) × DemandsMore s a k)
says_entry s Optional a k = other_list (λ e. (let no : ◌≡◌ {A = ℕ} 0 1 = cc in omega arith))
says_entry s Auxiliary a k = says_iff (says_beyond (demanded_in s.closure a) (demanded_in s.closure k)
    (part_short demanded_at attribute_set (closure_at s.closure a)).0) (λ q. (refl, q), λ q. q.1)
says_entry s Superior a k = other_list (λ e. (let no : ◌≡◌ {A = ℕ} 0 1 = cc in omega arith))

says_other : (t u : Table) (k : ℕ) → Says (not (same_bytes (demanded_set t k) (demanded_set u k))) (DemandsOther t u k)
unfolding demanded_set
says_other t u k = says_iff (says_not (says_same_sets attribute_set (demands t k) (demands u k))) (
  λ d same. d (λ b l. says_same (says_demanded t k b) (says_iff (says_demanded u k b) ((same b l).1, (same b l).0))),
  λ d same. d (λ b l. (
    λ h. (says_demanded u k b).holds (sym (same b l) ∙ (says_demanded t k b).passes h),
    λ h. (says_demanded t k b).holds (same b l ∙ (says_demanded u k b).passes h),
  )),
)

pub says_thirty : (change : Change) (r : List ℕ) (s : Stores) → Says (quick_differs change r (schema_of s) s.closure) (Thirty change r s)
says_thirty (Add t) r s = says_never
says_thirty SetRange r s = says_never
says_thirty (Rename t) r s = says_never
says_thirty (Deactivate t) r s = says_never
says_thirty (Reactivate t) r s = says_never
says_thirty AddEntry r s = says_entry s (list_of r) (entry_of r) (target_of r)
says_thirty RemoveEntry r s = says_other (schema_of s).classes (schema_after RemoveEntry r (schema_of s)).classes (target_of r)

-- ---- a list whose ranks rise to that of its last case

module _ (last : Case) where
  abbrev ended : List Case → List Case
  ended p = p ++ (last ∷ [])

  last_above : (m : ℕ) (p : List Case) → Rising rank m (ended p) → m < rank last.number
  last_above m [] r = r.0
  last_above m (c ∷ p) r = omega (arith, r.0, last_above (rank c.number) p r.1)

  last_only : (m : ℕ) (p : List Case) → Rising rank m (ended p) → first_of (ended p) ≡ last.number → NoneHolds p × (last.holds ≡ true)
  last_only m [] r e = go (true_or_false last.holds)
    where
      go : (last.holds ≡ true) ⊎ (last.holds ≡ false) → Unit {0} × (last.holds ≡ true)
      go (inl q) = (tt, q)
      go (inr q) = absurd (omega (arith, r.0, ap rank (sym e ∙ first_miss last [] q ∙ first_none), rank_zero))
  last_only m (c ∷ p) r e = go (last_only (rank c.number) p r.1) (true_or_false c.holds)
    where
      go : (first_of (ended p) ≡ last.number → NoneHolds p × (last.holds ≡ true)) → (c.holds ≡ true) ⊎ (c.holds ≡ false)
          → ((c.holds ≡ false) × NoneHolds p) × (last.holds ≡ true)
      go ih (inl q) = absurd (omega (arith, last_above (rank c.number) p r.1, ap rank (sym (first_hit c (ended p) q) ∙ e)))
      go ih (inr q) = let h = ih (sym (first_miss c (ended p) q) ∙ e) in ((q, h.0), h.1)

  none_ended : (p : List Case) → NoneHolds (ended p) ↔ (NoneHolds p × (last.holds ≡ false))
  none_ended [] = (λ h. (tt, h.0), λ h. (h.1, tt))
  none_ended (c ∷ p) = let h = none_ended p in (
    λ q. (let g = h.0 q.1 in ((q.0, g.0), g.1)),
    λ q. (q.0.0, h.1 (q.0.1, q.1)),
  )

  -- its number is the answer exactly where it alone holds, and 0 where none does
  answer_last : (m : ℕ) (p : List Case) → Rising rank m (ended p) → (first_of (ended p) ≡ last.number) ↔ (NoneHolds p × (last.holds ≡ true))
  answer_last m p r = (last_only m p r, λ h. append_miss p (last ∷ []) h.0 ∙ first_hit last [] h.1)

  answer_none : (m : ℕ) (p : List Case) → Rising rank m (ended p) → (first_of (ended p) ≡ 0) ↔ (NoneHolds p × (last.holds ≡ false))
  answer_none m p r =
      let z = zero_iff_none (ended p) (rising_nonzero rank rank_zero m (ended p) r) in
      (λ e. (none_ended p).0 (z.0 e), λ h. z.1 ((none_ended p).1 h))

-- ---- a change that was read

module _ (x : List ℕ) (s : Stores) (change : Change) (r : List ℕ) (reads : Reads x change r) where
  abbrev m : Schema
  m = schema_of s

  abbrev pub thirty_case : Case
  thirty_case = refusal.mandatory_differs when quick_differs change r m s.closure

  abbrev pub before : List Case
  before = asked_cases change r m ++ changed_cases change r m

  pub number_is : InShape s → (quick_change x s).answer.number ≡ first_of (before ++ (thirty_case ∷ []))
  unfolding quick_number
  number_is shape =
      ap (λ (a : Answer). a.number) (quick_shaped x s shape ∙ ap (λ (o : ChangeOut). quick_to o.answer o.row s) reads)
      ∙ answer_number change r m (quick_number change r m s.closure)
      ∙ ap first_of (sym (append_assoc (asked_cases change r m) (changed_cases change r m) (thirty_case ∷ [])))

  pub numbers_rise : Rising rank (rank refusal.unreadable) (before ++ (thirty_case ∷ []))
  unfolding rank position
  numbers_rise = omega arith

  pub gives_thirty : InShape s → ((quick_change x s).answer.number ≡ 30) ↔ (Unrefused x s change r × Thirty change r s)
  gives_thirty shape =
      let e = number_is shape in
      let says = says_thirty change r s in
      let last = answer_last thirty_case (rank refusal.unreadable) before numbers_rise in (
        λ q. (let h = last.0 (sym e ∙ q) in (h.0, says.holds h.1)),
        λ h. e ∙ last.1 (h.0, says.passes h.1),
      )

  pub gives_zero : InShape s → Done x s ↔ (Unrefused x s change r × ¬ (Thirty change r s))
  gives_zero shape =
      let e = number_is shape in
      let says = says_thirty change r s in
      let none = answer_none thirty_case (rank refusal.unreadable) before numbers_rise in (
        λ q. (let h = none.0 (sym e ∙ q) in (h.0, says_fails says h.1)),
        λ h. e ∙ none.1 (h.0, says_false says h.1),
      )
