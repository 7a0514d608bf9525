-- Numbers 5 to 11, each once, in the order of document 01's table. m is the schema before the change, r what the change carries.
use Rattle.std.specs.Prelude.{leb, ltb, ℕ, Bool, ◌&&◌, ◌||◌, false, not, List, [], ◌∷◌}
use Rattle.schema.specs.Store.{Schema, table, Table}
use Rattle.schema.specs.Row.{is_base, is_defunct}
use Rattle.schema.specs.Numbers.{limit}
use Rattle.schema.specs.declared.number.TableId.{TableId}
use Rattle.change_read.specs.declared.read.Change.TheVariants.{Add, SetRange, Rename, Deactivate, Reactivate, AddEntry, RemoveEntry}
use Rattle.change_read.specs.declared.read.Change.{Change}
use Rattle.change_read.specs.Carried.{added_row, entry_of, list_of, target_of}
use Rattle.prelude.specs.First.{Case, ◌when◌, first_of}
use Rattle.change_rows.specs.Lists.{fixed_of, open_of}
use Rattle.change_rows.specs.Rows.{is_addition, table_for}
use Rattle.sets.specs.Sets.{member}
use Rattle.change_asked.specs.Needed.{needed}
use Rattle.schema.specs.Refusals as refusal

-- the target as it stands
abbrev pub target_row : Change → List ℕ → Schema → List ℕ
target_row change r m = (table (table_for change) m).row (target_of r)

-- "5 target row not there"
unfoldable pub target_absent : Change → List ℕ → Schema → Bool
target_absent change r m = not (is_addition change) && not (ltb (target_of r) (table (table_for change) m).count)

-- "6 no free row"
unfoldable pub table_full : Change → Schema → Bool
table_full change m = is_addition change && leb (limit (table_for change)) (table (table_for change) m).count

-- "7 target defunct, unless reactivated; or active and reactivated"
abbrev pub state_wrong : Change → List ℕ → Bool
state_wrong (Add t) row = false
state_wrong SetRange row = is_defunct row
state_wrong (Rename t) row = is_defunct row
state_wrong (Deactivate t) row = is_defunct row
state_wrong (Reactivate t) row = not (is_defunct row)
state_wrong AddEntry row = is_defunct row
state_wrong RemoveEntry row = is_defunct row

-- "8 base row, and range, display name or deactivation asked, even with equal values"
abbrev pub base_touched : Change → List ℕ → Bool
base_touched (Add t) row = false
base_touched SetRange row = is_base row
base_touched (Rename t) row = is_base row
base_touched (Deactivate t) row = is_base row
base_touched (Reactivate t) row = false
base_touched AddEntry row = false
base_touched RemoveEntry row = false

-- "9 an added row has 0x10 set"
unfoldable pub base_added : Change → List ℕ → Bool
base_added change r = is_addition change && is_base (added_row (table_for change) r)

-- "10 addition to a list: already in the open or fixed one; removal: not in the open one"
abbrev pub entry_conflict : Change → List ℕ → List ℕ → Bool
entry_conflict (Add t) r row = false
entry_conflict SetRange r row = false
entry_conflict (Rename t) r row = false
entry_conflict (Deactivate t) r row = false
entry_conflict (Reactivate t) r row = false
entry_conflict AddEntry r row = member (open_of (list_of r) row) (entry_of r) || member (fixed_of (list_of r) row) (entry_of r)
entry_conflict RemoveEntry r row = not (member (open_of (list_of r) row) (entry_of r))

-- "11 deactivation: ..", of row k
abbrev pub still_needed : Change → ℕ → Schema → Bool
still_needed (Add t) k m = false
still_needed SetRange k m = false
still_needed (Rename t) k m = false
still_needed (Deactivate t) k m = needed m t k
still_needed (Reactivate t) k m = false
still_needed AddEntry k m = false
still_needed RemoveEntry k m = false

-- all of them
abbrev pub asked_cases : Change → List ℕ → Schema → List Case
asked_cases change r m =
    (refusal.no_such_row when target_absent change r m)
    ∷ (refusal.no_free_row when table_full change m)
    ∷ (refusal.wrong_state when state_wrong change (target_row change r m))
    ∷ (refusal.base_row when base_touched change (target_row change r m))
    ∷ (refusal.added_base_row when base_added change r)
    ∷ (refusal.entry_conflict when entry_conflict change r (target_row change r m))
    ∷ (refusal.still_needed when still_needed change (target_of r) m)
    ∷ []

-- the first that holds, or 0
unfoldable pub first_asked : Change → List ℕ → Schema → ℕ
first_asked change r m = first_of (asked_cases change r m)

-- ---- the cases that can hold: those of an addition, and those of a target that is there, row k

unfoldable pub addition_asked : TableId → List ℕ → Table → ℕ
addition_asked t r u = first_of ((refusal.no_free_row when leb (limit t) u.count) ∷ (refusal.added_base_row when is_base (added_row t r)) ∷ [])

unfoldable pub target_asked : Change → List ℕ → ℕ → Schema → ℕ
target_asked change r k m =
    first_of
    ((refusal.wrong_state when state_wrong change ((table (table_for change) m).row k))
    ∷ (refusal.base_row when base_touched change ((table (table_for change) m).row k))
    ∷ (refusal.entry_conflict when entry_conflict change r ((table (table_for change) m).row k))
    ∷ (refusal.still_needed when still_needed change k m)
    ∷ [])
