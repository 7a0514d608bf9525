-- The condition of each number from 5 on that a change gives, as a statement. Document 01, "Numbers given back": "Given exactly when".
use Rattle.std.specs.Prelude.{◌%◌, ◌<◌, ◌≤◌, ℕ, List, ◌≡◌, ◌⊎◌, false, true}
use Rattle.schema.specs.declared.number.TableId.TheVariants.{Attributes, Classes}
use Rattle.schema.specs.Numbers.{SameRow, attribute_limit, limit}
use Rattle.schema.specs.Store.{Schema, Table, table}
use Rattle.schema.specs.declared.number.TableId.{TableId}
use Rattle.schema.specs.Row.{is_base, is_defunct}
use Rattle.schema.specs.AttributeRow.{link_of}
use Rattle.change_read.specs.declared.read.Change.TheVariants.{Add, SetRange, Rename, Deactivate, Reactivate, AddEntry, RemoveEntry}
use Rattle.change_read.specs.Carried.{added_row, entry_of, list_of, target_of}
use Rattle.change_read.specs.declared.read.Change.{Change}
use Rattle.rules_attribute.specs.Links.{ForwardOf}
use Rattle.rules.specs.Meets.{Met, RuleName, rule_number}
use Rattle.tables.specs.Named.{Names}
use Rattle.change_model.specs.Model.{added_by}
use Rattle.change_rows.specs.Lists.{fixed_of, open_of}
use Rattle.change_rows.specs.Rows.{is_addition, schema_after, table_for}
use Rattle.change_asked.specs.Asked.{target_row}
use Rattle.prelude.specs.Below.{Some}
use Rattle.graph.specs.Graph.{demands}
use Rattle.sets.specs.Sets.{bit}
use Rattle.schema.specs.Refusals as refusal

-- "7 target defunct, unless reactivated; or active and reactivated"
abbrev pub WrongState : Change → List ℕ → Type 0
WrongState (Add t) row = ⊥
WrongState SetRange row = is_defunct row ≡ true
WrongState (Rename t) row = is_defunct row ≡ true
WrongState (Deactivate t) row = is_defunct row ≡ true
WrongState (Reactivate t) row = ¬ (is_defunct row ≡ true)
WrongState AddEntry row = is_defunct row ≡ true
WrongState RemoveEntry row = is_defunct row ≡ true

-- "8 .. range, display name or deactivation asked"
abbrev pub BarsBase : Change → Type 0
BarsBase (Add t) = ⊥
BarsBase SetRange = Unit {0}
BarsBase (Rename t) = Unit {0}
BarsBase (Deactivate t) = Unit {0}
BarsBase (Reactivate t) = ⊥
BarsBase AddEntry = ⊥
BarsBase RemoveEntry = ⊥

-- "10 addition to a list: already in the open or fixed one; removal: not in the open one"
abbrev pub Conflict : Change → List ℕ → List ℕ → Type 0
Conflict (Add t) r row = ⊥
Conflict SetRange r row = ⊥
Conflict (Rename t) r row = ⊥
Conflict (Deactivate t) r row = ⊥
Conflict (Reactivate t) r row = ⊥
Conflict AddEntry r row = (bit (open_of (list_of r) row) (entry_of r) ≡ 1) ⊎ (bit (fixed_of (list_of r) row) (entry_of r) ≡ 1)
Conflict RemoveEntry r row = ¬ (bit (open_of (list_of r) row) (entry_of r) ≡ 1)

-- "11 .. an active class names the attribute, or another active class names the class, in any list, as superclass or as rDNAttID"
pub record ClassNeeds (m : Schema) (t : TableId) (k j : ℕ) : Type 0 where
  pub other : ¬ (SameRow t k Classes j)
  pub active : ¬ (is_defunct (m.classes.row j) ≡ true)
  pub named : Names t (m.classes.row j) k

-- "or an active back link needs it"
pub record LinkNeeds (m : Schema) (k j : ℕ) : Type 0 where
  pub active : ¬ (is_defunct (m.attributes.row j) ≡ true)
  pub back : link_of (m.attributes.row j) % 2 ≡ 1
  pub forward : ForwardOf (m.attributes.row j) (m.attributes.row k)

abbrev pub Needed : Schema → TableId → ℕ → Type 0
Needed m t k =
    Some m.classes.count (ClassNeeds m t k) ⊎ ((t ≡ Attributes) × Some m.attributes.count (LinkNeeds m k))

-- "11 deactivation: .."
abbrev pub DeactivatedNeeded : Change → ℕ → Schema → Type 0
DeactivatedNeeded (Add t) k m = ⊥
DeactivatedNeeded SetRange k m = ⊥
DeactivatedNeeded (Rename t) k m = ⊥
DeactivatedNeeded (Deactivate t) k m = Needed m t k
DeactivatedNeeded (Reactivate t) k m = ⊥
DeactivatedNeeded AddEntry k m = ⊥
DeactivatedNeeded RemoveEntry k m = ⊥

-- "30 some present class's mandatory set would differ": a class that was there demands another attribute than it did, or one less
abbrev pub DemandDiffers : Table → Table → Type 0
DemandDiffers t u = Some t.count (λ c. ¬ ((b : ℕ) → b < attribute_limit → demands t c b ≡ demands u c b))

-- each number's condition, of a change that was read
pub data Condition (change : Change) (r : List ℕ) (m : Schema) : ℕ → Type 0 where
  no_such_row : is_addition change ≡ false → (table (table_for change) m).count ≤ target_of r → Condition change r m refusal.no_such_row
  no_free_row : is_addition change ≡ true → limit (table_for change) ≤ (table (table_for change) m).count → Condition change r m refusal.no_free_row
  wrong_state : WrongState change (target_row change r m) → Condition change r m refusal.wrong_state
  base_row : BarsBase change → is_base (target_row change r m) ≡ true → Condition change r m refusal.base_row
  added_base_row : is_addition change ≡ true → is_base (added_row (table_for change) r) ≡ true → Condition change r m refusal.added_base_row
  entry_conflict : Conflict change r (target_row change r m) → Condition change r m refusal.entry_conflict
  still_needed : DeactivatedNeeded change (target_of r) m → Condition change r m refusal.still_needed
  rule : (name : RuleName) → ¬ (Met (added_by change r m.classes.count) name (schema_after change r m)) → Condition change r m (rule_number name)
  mandatory_differs : DemandDiffers m.classes (schema_after change r m).classes → Condition change r m refusal.mandatory_differs
