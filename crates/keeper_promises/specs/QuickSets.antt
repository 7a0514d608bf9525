-- What a quick change does with the kept sets, and when it gives 30, on any stores in shape. Document 01: "On stores not in order, the quick call still
-- has one fixed answer." Its sentences, member by member and in their own words; `quick_sets` (QuickSetsLaws) is a member of the record for every change
-- and all stores.
use Rattle.std.specs.Prelude.{List, ◌++◌, ◌⊎◌, ◌↔◌, ◌≡◌, ℕ, ◌<◌}
use Rattle.prelude.specs.Below.{Some}
use Rattle.prelude.specs.First.{NoneHolds}
use Rattle.sets.specs.Sets.{bit}
use Rattle.schema.specs.ClassRow.{fixed_optional_of, mandatory_of, open_optional_of}
use Rattle.schema.specs.Store.{LongEnough, Stores, Table, allowed_in, closure_at, demanded_in, reached_in, schema_of}
use Rattle.schema.specs.declared.number.TableId.TheVariants.{Attributes, Classes}
use Rattle.change_read.specs.Carried.{entry_of, list_of, target_of}
use Rattle.change_read.specs.Reading.{change_out, read_change}
use Rattle.change_read.specs.declared.carried.OpenList.TheVariants.{Auxiliary, Optional, Superior}
use Rattle.change_read.specs.declared.read.Change.{Change}
use Rattle.change_read.specs.declared.read.Change.TheVariants.{Add, AddEntry, Deactivate, Reactivate, RemoveEntry, Rename, SetRange}
use Rattle.change_read.specs.ChangeRead.{Read}
use Rattle.change_rows.specs.Rows.{schema_after}
use Rattle.change_asked.specs.Asked.{asked_cases}
use Rattle.change_model.specs.Model.{changed_cases}
use Rattle.keeper_change.specs.Quick.{quick_change}
use Rattle.keeper_promises.specs.Promises.{Shape}
use Rattle.keeper_promises.specs.Uses.{Demanded, Inherits, KeptAre, KeptSound}

-- ---- which classes

-- "every class whose kept reach holds the target": class c, of those that have a row, and class k
abbrev pub Holds : Stores → ℕ → ℕ → Type 0
Holds s k c = (c < (schema_of s).classes.count) × (bit (reached_in s.closure c) k ≡ 1)

-- every other number, also one without a row, keeps the bytes of its kept sets
abbrev pub OthersStay : Stores → Stores → (ℕ → Type 0) → Type 0
OthersStay s t Touched = (c : ℕ) → c < 128 → ¬ (Touched c) → closure_at t.closure c ≡ closure_at s.closure c

-- ---- what they get, in stores t that a change has made of s

-- something is joined in for the classes whose kept reach holds class k: they have what they had, and these members
pub record JoinedIn (s t : Stores) (k : ℕ) (Reached Mandatory Allowed : ℕ → Type 0) : Type 0 where
  pub joined : (c : ℕ) → Holds s k c
      → KeptAre t.closure c (λ d. (bit (reached_in s.closure c) d ≡ 1) ⊎ Reached d) (λ b. (bit (demanded_in s.closure c) b ≡ 1) ⊎ Mandatory b)
      (λ b. (bit (allowed_in s.closure c) b ≡ 1) ⊎ Allowed b)
  pub others : OthersStay s t (Holds s k)

-- "After a removal those are worked out afresh from the rows": exactly what these classes reach, demand and allow by the rows of t
pub record Afresh (s t : Stores) (k : ℕ) : Type 0 where
  pub fresh : (c : ℕ) → Holds s k c → KeptSound t c
  pub others : OthersStay s t (Holds s k)

-- some class that a row names as superclass or auxiliary has b in one of its kept sets
abbrev pub Inherited : (List ℕ → ℕ → List ℕ) → Stores → List ℕ → ℕ → Type 0
Inherited kept_set s row b = Some 128 (λ y. Inherits row y × (bit (kept_set s.closure y) b ≡ 1))

-- "An added class gets the union of its superclass's and auxiliaries' kept sets, its own lists and itself": class n, whose row this is
pub record ClassAdded (s t : Stores) (n : ℕ) (row : List ℕ) : Type 0 where
  pub added : KeptAre t.closure n (λ d. Inherited reached_in s row d ⊎ (d ≡ n)) (λ b. Inherited demanded_in s row b ⊎ (bit (mandatory_of row) b ≡ 1))
      (λ b. Inherited allowed_in s row b ⊎ ((bit (fixed_optional_of row) b ≡ 1) ⊎ (bit (open_optional_of row) b ≡ 1)))
  pub others : OthersStay s t (λ c. c ≡ n)

-- the changes that leave all kept sets: those of an attribute, of a row but not its lists, and of the possible superiors
abbrev pub LeavesAll : Change → List ℕ → Type 0
LeavesAll (Add Attributes) r = Unit {0}
LeavesAll (Add Classes) r = ⊥
LeavesAll SetRange r = Unit {0}
LeavesAll (Rename t) r = Unit {0}
LeavesAll (Deactivate t) r = Unit {0}
LeavesAll (Reactivate t) r = Unit {0}
LeavesAll AddEntry r = list_of r ≡ Superior
LeavesAll RemoveEntry r = ⊥

-- ---- 30

-- "its kept mandatory set is not within the target's": some attribute is in that of class a and not in that of class k
abbrev pub DemandsMore : Stores → ℕ → ℕ → Type 0
DemandsMore s a k = Some 256 (λ b. (bit (demanded_in s.closure a) b ≡ 1) × ¬ (bit (demanded_in s.closure k) b ≡ 1))

-- "the target's mandatory set, afresh from the rows before and after, differs": not every attribute is in both or in none
abbrev pub DemandsOther : Table → Table → ℕ → Type 0
DemandsOther t u k = ¬ ((b : ℕ) → b < 256 → Demanded t k b ↔ Demanded u k b)

-- "Rule 30 for an added auxiliary holds exactly when ..", for a removal "exactly when ..". "No other quick change gives 30."
abbrev pub Thirty : Change → List ℕ → Stores → Type 0
Thirty (Add t) r s = ⊥
Thirty SetRange r s = ⊥
Thirty (Rename t) r s = ⊥
Thirty (Deactivate t) r s = ⊥
Thirty (Reactivate t) r s = ⊥
Thirty AddEntry r s = (list_of r ≡ Auxiliary) × DemandsMore s (entry_of r) (target_of r)
Thirty RemoveEntry r s = DemandsOther (schema_of s).classes (schema_after RemoveEntry r (schema_of s)).classes (target_of r)

-- ---- all of it, of a change and the stores that it is given

module _ (x : List ℕ) (s : Stores) where
  abbrev pub Carries : Change → List ℕ → Type 0
  Carries change r = read_change x ≡ change_out (Read change) r

  abbrev pub Done : Type 0
  Done = (quick_change x s).answer.number ≡ 0

  abbrev pub left : Stores
  left = (quick_change x s).left

  -- none of numbers 5 to 29 holds
  abbrev pub Unrefused : Change → List ℕ → Type 0
  Unrefused change r = NoneHolds (asked_cases change r (schema_of s) ++ changed_cases change r (schema_of s))

  pub record QuickSets : Type 0 where
    -- "An added auxiliary or optional attribute is joined in for every class whose kept reach holds the target."
    pub auxiliary : (r : List ℕ) → Carries AddEntry r → list_of r ≡ Auxiliary → Done
        → JoinedIn s left (target_of r) (λ d. bit (reached_in s.closure (entry_of r)) d ≡ 1) (λ b. bit (demanded_in s.closure (entry_of r)) b ≡ 1)
        (λ b. bit (allowed_in s.closure (entry_of r)) b ≡ 1)
    pub optional : (r : List ℕ) → Carries AddEntry r → list_of r ≡ Optional → Done
        → JoinedIn s left (target_of r) (λ d. ⊥) (λ b. ⊥) (λ b. b ≡ entry_of r)
    -- "After a removal those are worked out afresh from the rows"
    pub removal : (r : List ℕ) → Carries RemoveEntry r → Done → Afresh s left (target_of r)
    -- "An added class gets .."
    pub class : (r : List ℕ) → Carries (Add Classes) r → Done
        → ClassAdded s left (schema_of s).classes.count ((schema_of left).classes.row (schema_of s).classes.count)
    -- any other change leaves every byte
    pub other : (change : Change) (r : List ℕ) → Carries change r → LeavesAll change r → left.closure ≡ s.closure
    -- 30, exactly; and 0 exactly where neither that nor a number before it holds
    pub thirty : (change : Change) (r : List ℕ) → Carries change r → LongEnough s → Shape s
        → ((quick_change x s).answer.number ≡ 30) ↔ (Unrefused change r × Thirty change r s)
    pub zero : (change : Change) (r : List ℕ) → Carries change r → LongEnough s → Shape s → Done ↔ (Unrefused change r × ¬ (Thirty change r s))
