-- Finding a rule by its number: what functions that go by a list of numbers cite, and a fact of each rule by number.
use Rattle.std.specs.Prelude.{Bool, false, cond, ◌||◌, ◌⊎◌, ◌≡◌, refl, ℕ, ◌+◌, ◌≤◌, ◌<◌, eqb, length, get_or, drop}
use Rattle.std.proofs.Math.Bool.{true}
use Rattle.std.proofs.lemmas.Bool.{false≢true}
use mathlib.Core.List.{List, [], ◌∷◌}
use Rattle.std.proofs.Common.{inl, inr, ⊎_elim, sym, ap₂, ◌∙◌, add-one, arith, drop_of_length-le, drop-cons}
use Rattle.std.proofs.Math.Path.{ap}
use Rattle.prelude.specs.SaysLaws.{says_eq, says_split, says_true, says_false, neither}
use Rattle.prelude.specs.First.{Case, ◌when◌, first_of, Rising, NonZero, Among}
use Rattle.prelude.specs.FirstLaws.{first_hit, first_miss, first_none, among_above, rising_nonzero}
use Rattle.prelude.specs.Unlike.{Unlike, among}
use Rattle.prelude.specs.UnlikeLaws.{unlike_among}
use Rattle.sets.specs.SetsLaws.{or-false}
use Rattle.schema.specs.Order.{rank, position}
use Rattle.schema.specs.OrderLaws.{rank_zero}
use Rattle.schema.specs.Store.{Table, Schema}
use Rattle.schema.specs.declared.number.TableId.TheVariants.{Attributes}
use Rattle.rules_class.specs.Live.{not_live, class_wrong}
use Rattle.rules.specs.declared.row.Added.{Added}
use Rattle.rules.specs.declared.row.Added.TheVariants.{Nothing}
use Rattle.rules.specs.Rules.{barred, entry_dead, attribute_not_live, class_not_live, Rule, no_rule, numbered, rules_of, cases_of, Each, schema_rules}
use Rattle.schema.specs.Refusals as refusal

-- ---- a rule by its number

-- it has the number
pub numbered_number : (rs : List Rule) (n : ℕ) → (numbered rs n).number ≡ n
unfolding numbered
numbered_number [] n = refl
numbered_number (r ∷ rs) n = ⊎_elim (λ q. rw q.0 q.1) (λ q. rw q.0 (numbered_number rs n)) (says_split (says_eq r.number n))

-- what holds of each rule, and of one that no row breaks, holds of the rule of any number
pub each_numbered : (P : Rule → Type 0) (rs : List Rule) → Each P rs → (n : ℕ) → P (no_rule n) → P (numbered rs n)
unfolding numbered
each_numbered P [] h n none = none
each_numbered P (r ∷ rs) h n none = ⊎_elim (λ q. rw q.0 h.0) (λ q. rw q.0 (each_numbered P rs h.1 n none)) (says_split (says_eq r.number n))

-- ---- rules that are told by their numbers' keys

-- a test picks a rule whose number is a key neither of a match nor of the match around it
unfoldable pub strays : List ℕ → List ℕ → (Rule → Bool) → List Rule → Bool
strays keys more test [] = false
strays keys more test (r ∷ rs) = cond (among keys r.number || among more r.number) false (test r) || strays keys more test rs

-- it picks none: then it does not pick the rule of a number that is no key
pub numbered_unlike : (test : Rule → Bool) → ((n : ℕ) → test (no_rule n) ≡ false) → (keys more : List ℕ) (rs : List Rule) (n : ℕ) → Unlike n keys
    → Unlike n more
    → strays keys more test rs ≡ false → test (numbered rs n) ≡ false
unfolding numbered strays
numbered_unlike test none keys more [] n u v e = none n
numbered_unlike test none keys more (r ∷ rs) n u v e = ⊎_elim here (λ q. rw q.0 (numbered_unlike test none keys more rs n u v parts.1))
    (says_split (says_eq r.number n))
  where
    parts : (cond (among keys r.number || among more r.number) false (test r) ≡ false) × (strays keys more test rs ≡ false)
    parts = neither (cond (among keys r.number || among more r.number) false (test r)) (strays keys more test rs) e

    here : (eqb r.number n ≡ true) × (r.number ≡ n) → test (cond (eqb r.number n) r (numbered rs n)) ≡ false
    here q =
        let a : among keys r.number ≡ false = rw q.1 (unlike_among n keys u) in
        let b : among more r.number ≡ false = rw q.1 (unlike_among n more v) in
        let t : test r ≡ false = rw (a, b) at parts.0 in
        rw q.0 t

-- ---- rules by a list of numbers

-- one number after the other
pub rules_next : (rs : List Rule) (ns : List ℕ) (i : ℕ) → i < length ns → rules_of rs (drop i ns) ≡ numbered rs (get_or ns i 0) ∷ rules_of rs (drop (i + 1) ns)
rules_next rs ns i l = ap (rules_of rs) (drop-cons ns i 0 l) ∙ ap (λ (j : ℕ). numbered rs (get_or ns i 0) ∷ rules_of rs (drop j ns)) (sym (add-one i))

pub rules_end : (rs : List Rule) (ns : List ℕ) (i : ℕ) → length ns ≤ i → rules_of rs (drop i ns) ≡ []
rules_end rs ns i l = ap (rules_of rs) (drop_of_length-le ns l)

-- ---- the first rule that a test picks, one number after the other

module _ (test : Rule → Bool) (rs : List Rule) (ns : List ℕ) (i : ℕ) where
  pub pick_found : i < length ns → test (numbered rs (get_or ns i 0)) ≡ true → first_of (cases_of test (rules_of rs (drop i ns))) ≡ get_or ns i 0
  pick_found l e =
      ap (λ (x : List Rule). first_of (cases_of test x)) (rules_next rs ns i l)
      ∙ first_hit ((numbered rs (get_or ns i 0)).number when test (numbered rs (get_or ns i 0))) (cases_of test (rules_of rs (drop (i + 1) ns))) e
      ∙ numbered_number rs (get_or ns i 0)

  pub pick_next : i < length ns → test (numbered rs (get_or ns i 0)) ≡ false
      → first_of (cases_of test (rules_of rs (drop i ns))) ≡ first_of (cases_of test (rules_of rs (drop (i + 1) ns)))
  pick_next l e =
      ap (λ (x : List Rule). first_of (cases_of test x)) (rules_next rs ns i l)
      ∙ first_miss ((numbered rs (get_or ns i 0)).number when test (numbered rs (get_or ns i 0))) (cases_of test (rules_of rs (drop (i + 1) ns))) e

  pub pick_none : length ns ≤ i → first_of (cases_of test (rules_of rs (drop i ns))) ≡ 0
  pick_none l = ap (λ (x : List Rule). first_of (cases_of test x)) (rules_end rs ns i l) ∙ first_none

-- ---- a number of the cases is that of a rule that the test picks, and the other way round

-- the list stands in the order of judging, after 11
pub rising : (added : Added) (test : Rule → Bool) → Rising rank (rank refusal.still_needed) (cases_of test (schema_rules added))
unfolding rank position
rising added test = omega arith

-- so 0 means that no rule is picked
pub nonzero : (added : Added) (test : Rule → Bool) → NonZero (cases_of test (schema_rules added))
nonzero added test = rising_nonzero rank rank_zero (rank refusal.still_needed) (cases_of test (schema_rules added)) (rising added test)

module _ (test : Rule → Bool) where
  pub case_picked : {n : ℕ} (k : ℕ) (rs : List Rule) → Rising rank k (cases_of test rs) → Among n (cases_of test rs) → test (numbered rs n) ≡ true
  unfolding numbered
  case_picked {n = n} k [] rise x'' = elim x'' [ ]
  case_picked {n} k (r ∷ rs) rise (Among.here e q) = rw (says_true (says_eq r.number n) q) e
  case_picked {n} k (r ∷ rs) rise (Among.there a) =
      rw (says_false (says_eq r.number n) (λ q. omega (arith, ap rank q, among_above rank (rank r.number) (cases_of test rs) rise.1 a)))
      (case_picked (rank r.number) rs rise.1 a)

  pub picked_case : (n : ℕ) (rs : List Rule) → test (no_rule n) ≡ false → test (numbered rs n) ≡ true → Among n (cases_of test rs)
  unfolding numbered
  picked_case n [] none e = absurd (false≢true (sym none ∙ e))
  picked_case n (r ∷ rs) none e = go (picked_case n rs none) (says_split (says_eq r.number n))
    where
      go : (test (numbered rs n) ≡ true → Among n (cases_of test rs)) → ((eqb r.number n ≡ true) × (r.number ≡ n))
          ⊎ ((eqb r.number n ≡ false) × ¬ (r.number ≡ n))
          → Among n (cases_of test (r ∷ rs))
      go ih (inl q) = Among.here (rw q.0 at e) q.1
      go ih (inr q) = Among.there (ih (rw q.0 at e))

-- ---- two tests that agree on each rule pick the same

pub cases_agree : (p q : Rule → Bool) (rs : List Rule) → Each (λ r. p r ≡ q r) rs → cases_of p rs ≡ cases_of q rs
cases_agree p q [] h = refl
cases_agree p q (r ∷ rs) h = ap₂ (λ (b : Bool) (cs : List Case). (r.number when b) ∷ cs) h.0 (cases_agree p q rs h.1)

-- ---- nothing was added: rules 17 and 18 look at the rows alone

pub attribute_nothing : (m : Schema) (k : ℕ) → attribute_not_live Nothing m k ≡ not_live Attributes m.attributes (m.classes.row k)
unfolding attribute_not_live entry_dead
attribute_nothing m k = or-false (not_live Attributes m.attributes (m.classes.row k)) false refl

pub class_nothing : (c : Table) (k : ℕ) → class_not_live Nothing c k ≡ class_wrong c k
unfolding class_not_live barred entry_dead
class_nothing c k = or-false (class_wrong c k) false refl
