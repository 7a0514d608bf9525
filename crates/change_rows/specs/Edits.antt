-- Steps that put a number into a set, or take it out.
use Rattle.std.specs.Prelude.{ℕ, List, get_or, ◌*◌, ◌≡◌, ◌≤◌, ◌<◌, length}
use denote.Ref.{MutBor}
use Rattle.prelude.specs.Part.{splice}
use Rattle.change_read.specs.declared.carried.OpenList.{OpenList}
use Rattle.change_rows.specs.Lists.{open_at, open_of}

-- what f makes of a set is as long, and is that set where it has no room for the number
pub record IsEdit (n : ℕ) (f : List ℕ → List ℕ) : Type 0 where
  pub as_long : (s : List ℕ) → length (f s) ≡ length s
  pub beyond : (s : List ℕ) → ((i : ℕ) → get_or s i 0 < 256) → length s * 8 ≤ n → f s ≡ s

-- a step may be called at each set and number
abbrev pub TakesSet : (MutBor (List ℕ) → ℕ → Type 0) → Type 0
TakesSet pre = (s : MutBor (List ℕ)) (n : ℕ) → pre s n

-- called at a set and the number, a step leaves what f makes of the set
abbrev pub LeavesEdited : (MutBor (List ℕ) → ℕ → Unit {0} → MutBor (List ℕ) → Type 0) → ℕ → (List ℕ → List ℕ) → Type 0
LeavesEdited post n f = (s left : MutBor (List ℕ)) (k : ℕ) → k ≡ n → post s k tt left → left.now ≡ f s.now

-- a row whose open list becomes what f makes of it
abbrev pub list_edited : OpenList → (List ℕ → List ℕ) → List ℕ → List ℕ
list_edited list f row = splice (open_at list) (f (open_of list row)) row
