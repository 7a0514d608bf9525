-- What a quick change does with the closure, and its rule 30. Here r is what the change carries, t the class table after it, and n how many classes
-- there were before.
use Rattle.schema.specs.Numbers.{class_limit, limit}
use Rattle.schema.specs.Layout.{class_width, closure_length}
use Rattle.std.specs.Prelude.{◌≡◌, length, ℕ, ◌≤◌, ◌<◌, Bool, false, not, List}
use Rattle.prelude.specs.Part.{same_bytes}
use Rattle.sets.specs.Sets.{subset}
use Rattle.schema.specs.Store.{Table, closure_at, demanded_in}
use Rattle.schema.specs.declared.number.TableId.TheVariants.{Attributes, Classes}
use Rattle.graph.specs.Graph.{demanded_set, Readable}
use Rattle.change_read.specs.declared.read.Change.{Change}
use Rattle.change_read.specs.declared.read.Change.TheVariants.{Add, SetRange, Rename, Deactivate, Reactivate, AddEntry, RemoveEntry}
use Rattle.change_read.specs.declared.carried.OpenList.{OpenList}
use Rattle.change_read.specs.declared.carried.OpenList.TheVariants.{Optional, Auxiliary, Superior}
use Rattle.change_read.specs.Carried.{entry_of, list_of, target_of}
use Rattle.change_rows.specs.Lists.{list_table}
use Rattle.closure_change.specs.Kept.{joined_into, option_row, refreshed_at, with_new}

-- an entry was added to a list of class k: "an added auxiliary or optional attribute is joined in"
abbrev pub entry_joined : OpenList → ℕ → ℕ → ℕ → List ℕ → List ℕ
entry_joined Optional b n k closure = joined_into n k (option_row b) closure
entry_joined Auxiliary a n k closure = joined_into n k (closure_at closure a) closure
entry_joined Superior d n k closure = closure

-- the closure store after a change
abbrev pub closure_after : Change → List ℕ → Table → ℕ → List ℕ → List ℕ
closure_after (Add Attributes) r t n closure = closure
closure_after (Add Classes) r t n closure = with_new t n closure
closure_after SetRange r t n closure = closure
closure_after (Rename u) r t n closure = closure
closure_after (Deactivate u) r t n closure = closure
closure_after (Reactivate u) r t n closure = closure
closure_after AddEntry r t n closure = entry_joined (list_of r) (entry_of r) n (target_of r) closure
closure_after RemoveEntry r t n closure = refreshed_at t n (target_of r) closure

-- "Rule 30 for an added auxiliary holds exactly when its kept mandatory set is not within the target's"
abbrev pub entry_demands : OpenList → ℕ → ℕ → List ℕ → Bool
entry_demands Optional b k closure = false
entry_demands Auxiliary a k closure = not (subset (demanded_in closure a) (demanded_in closure k))
entry_demands Superior d k closure = false

-- of a removal: "exactly when the target's mandatory set, afresh from the rows before and after, differs", the set before being given. "No other quick
-- change gives 30."
abbrev pub demand_changes : Change → List ℕ → Table → List ℕ → List ℕ → Bool
demand_changes (Add u) r t before closure = false
demand_changes SetRange r t before closure = false
demand_changes (Rename u) r t before closure = false
demand_changes (Deactivate u) r t before closure = false
demand_changes (Reactivate u) r t before closure = false
demand_changes AddEntry r t before closure = entry_demands (list_of r) (entry_of r) (target_of r) closure
demand_changes RemoveEntry r t before closure = not (same_bytes before (demanded_set t (target_of r)))

-- what is kept of the rows before: what the target of a removal demands
abbrev pub demand_before : Change → List ℕ → Table → List ℕ → List ℕ
demand_before (Add u) r t old = old
demand_before SetRange r t old = old
demand_before (Rename u) r t old = old
demand_before (Deactivate u) r t old = old
demand_before (Reactivate u) r t old = old
demand_before AddEntry r t old = old
demand_before RemoveEntry r t old = demanded_set t (target_of r)

-- what the code knows on its way: the stores can be read, and an entry that was added, with its class, is within its limit
pub record Updatable (change : Change) (r classes closure : List ℕ) : Type 0 where
  pub carried : length r ≡ class_width
  pub readable : Readable classes
  pub long : closure_length ≤ length closure
  pub target : change ≡ AddEntry → target_of r < class_limit
  pub removed : change ≡ RemoveEntry → target_of r < class_limit
  pub entry : change ≡ AddEntry → entry_of r < limit (list_table (list_of r))
