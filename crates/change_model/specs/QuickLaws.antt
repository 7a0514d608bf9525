-- The quick change and the plain change come to the same, on schemas that keep every rule and kept sets that are afresh: rule 30 holds where it does by
-- the rows, and the kept sets are afresh again.
use Rattle.std.specs.Prelude.{length, ◌*◌, ◌<◌, ◌≤◌, ℕ, ◌+◌, false, not, true, List, [], ◌∷◌, ◌≡◌, refl}
use Rattle.std.proofs.Common.{arith, ◌∙◌, ap₂}
use Rattle.std.proofs.Math.Path.{ap, sym}
use Rattle.schema.specs.declared.number.TableId.TheVariants.{Attributes, Classes}
use Rattle.schema.specs.Numbers.{class_limit, limit}
use Rattle.schema.specs.Layout.{attribute_set, class_set, class_width, demanded_at, name_at, defunct_at, row_width, common_width}
use Rattle.schema.specs.ClassRow.{open_auxiliary_of, open_optional_of, open_superior_of}
use Rattle.schema.specs.Store.{Schema, Table, closure_at, demanded_in, table, with_row}
use Rattle.change_read.specs.declared.read.Change.{Change}
use Rattle.change_read.specs.declared.carried.OpenList.{OpenList}
use Rattle.change_read.specs.declared.read.Change.TheVariants.{Add, SetRange, Rename, Deactivate, Reactivate, AddEntry, RemoveEntry}
use Rattle.change_read.specs.declared.carried.OpenList.TheVariants.{Optional, Auxiliary, Superior}
use Rattle.change_read.specs.Carried.{added_row, entry_of, list_of, new_name, target_of}
use Rattle.change_rows.specs.Lists.{list_table, open_at, open_of}
use Rattle.change_rows.specs.Rows.{edited_row, is_addition, schema_after, table_after, table_for}
use Rattle.change_asked.specs.AskedLaws.{asked_room, asked_there}
use Rattle.prelude.specs.Part.{part, same_bytes, splice}
use Rattle.prelude.specs.PartLaws.{part_length, says_same_bytes}
use Rattle.prelude.specs.BelowLaws.{any_false}
use Rattle.prelude.specs.SaysLaws.{says_true}
use Rattle.sets.specs.Sets.{subset, with_member}
use Rattle.graph.specs.Graph.{closure_row, demanded_set, inherits, mandatory_differs}
use Rattle.graph.proofs.FreshLaws.{demanded_part}
use Rattle.graph.proofs.ClosureLaws.{closure_untouched, rule30_class, rule30_joined, rule30_target}
use Rattle.graph.proofs.ClosureLaws.{rule30_untouched}
use Rattle.closure_change.specs.After.{closure_after, demand_changes, entry_demands, entry_joined}
use Rattle.closure_change.proofs.FreshLaws.{auxiliary_fresh, class_fresh, optional_fresh, refreshed_fresh}
use Rattle.change_model.specs.Sound.{Passed, Sound}
use Rattle.change_model.specs.EditedLaws.{auxiliary_more, front_lists, front_names, name_wide, open_wide, optional_more, superior_lists}
use Rattle.change_model.specs.EditedLaws.{superior_names, with_wide}
use Rattle.change_model.specs.ThereLaws.{entry_there, unnamed}

-- ---- a table that stays as it is

no_difference : (t : Table) → false ≡ mandatory_differs t t
unfolding mandatory_differs
no_difference t = sym (any_false (λ c. not (same_bytes (demanded_set t c) (demanded_set t c))) t.count
    (λ c l. ap not (says_true (says_same_bytes (demanded_set t c) (demanded_set t c)) refl)))

-- ---- a change that was accepted

module _ {change : Change} {r : List ℕ} {m : Schema} {closure : List ℕ} (s : Passed change r m closure) where
  there : is_addition change ≡ false → target_of r < (table (table_for change) m).count
  there e = asked_there change r m s.asked e

  room : is_addition change ≡ true → (table (table_for change) m).count < limit (table_for change)
  room e = asked_room change r m s.asked e

  target_whole : is_addition change ≡ false → length ((table (table_for change) m).row (target_of r)) ≡ row_width (table_for change)
  target_whole e = s.sound.wide (table_for change) (target_of r) (omega (arith, there e, s.sound.few (table_for change)))

-- the number of an added class is not named yet
new_unnamed : {r : List ℕ} {m : Schema} {closure : List ℕ} → Passed (Add Classes) r m closure → (x : ℕ) → x < m.classes.count
    → inherits m.classes x m.classes.count ≡ false
new_unnamed {r} {m} s = unnamed m s.sound.kept (room s refl)

-- ---- an entry was added to a list of class k

module _ {r : List ℕ} {m : Schema} {closure : List ℕ} (s : Sound r m closure) (k : ℕ) (present : k < m.classes.count)
    (wide : length (m.classes.row k) ≡ class_width) where
  abbrev t : Table
  t = m.classes

  abbrev row : List ℕ
  row = t.row k

  -- the row with entry x in a list
  abbrev entered : OpenList → ℕ → List ℕ
  entered list x = splice (open_at list) (with_member x (open_of list row)) row

  superior_wide : (x : ℕ) → length (with_member x (open_superior_of row)) ≡ class_set
  superior_wide x = with_wide Superior x row wide

  class_room : (x : ℕ) → x < t.count → x < length (open_auxiliary_of row) * 8
  class_room x l = let w = open_wide Auxiliary row wide in omega (arith, s.few Classes)

  attribute_room : (x : ℕ) → x < m.attributes.count → x < length (open_optional_of row) * 8
  attribute_room x l = let w = open_wide Optional row wide in omega (arith, s.few Attributes)

  entry_fresh : (list : OpenList) (x : ℕ) → x < (table (list_table list) m).count → (c : ℕ) → c < class_limit
      → closure_at (entry_joined list x t.count k closure) c ≡ closure_row (with_row t k (entered list x)) c
  entry_fresh Optional x h c l = optional_fresh t (s.few Classes) closure s.long s.fresh k (entered Optional x) present x (attribute_room x h)
      (optional_more x row wide) c l
  entry_fresh Auxiliary x h c l = auxiliary_fresh t (s.few Classes) closure s.long s.fresh k (entered Auxiliary x) present x h (class_room x h)
      (auxiliary_more x row wide) c l
  entry_fresh Superior x h c l =
      s.fresh c l
      ∙ sym (closure_untouched t k (entered Superior x) (superior_names _ row (superior_wide x) wide) (superior_lists _ row (superior_wide x) wide) c)

  kept_demands : (c : ℕ) → c < t.count → demanded_in closure c ≡ demanded_set t c
  unfolding demanded_set
  kept_demands c l = ap (part demanded_at attribute_set) (s.fresh c (omega (arith, s.few Classes))) ∙ demanded_part t c

  entry_demand : (list : OpenList) (x : ℕ) → x < (table (list_table list) m).count
      → entry_demands list x k closure ≡ mandatory_differs t (with_row t k (entered list x))
  entry_demand Optional x h =
      let more = optional_more x row wide in
      sym (rule30_untouched t k (entered Optional x) more.names more.mandatory)
  entry_demand Auxiliary x h =
      ap₂ (λ (a b : List ℕ). not (subset a b)) (kept_demands x h) (kept_demands k present)
      ∙ sym (rule30_joined t k x (entered Auxiliary x) present h (class_room x h) (auxiliary_more x row wide))
  entry_demand Superior x h =
      sym (rule30_untouched t k (entered Superior x) (superior_names _ row (superior_wide x) wide) (superior_lists _ row (superior_wide x) wide).mandatory)

-- ---- a cell of what every row begins with was replaced, in class k

module _ (t : Table) (k at : ℕ) (new : List ℕ) (front : at + length new ≤ common_width) (wide : length (t.row k) ≡ class_width) where
  front_closure : (c : ℕ) → closure_row t c ≡ closure_row (with_row t k (splice at new (t.row k))) c
  front_closure c = sym (closure_untouched t k (splice at new (t.row k)) (front_names at new (t.row k) front wide)
      (front_lists at new (t.row k) front wide) c)

  front_demand : false ≡ mandatory_differs t (with_row t k (splice at new (t.row k)))
  front_demand = sym (rule30_untouched t k (splice at new (t.row k)) (front_names at new (t.row k) front wide)
      (front_lists at new (t.row k) front wide).mandatory)

-- ---- any change

module _ (r : List ℕ) (m : Schema) (closure : List ℕ) where
  abbrev before : Table
  before = m.classes

  abbrev after : Change → Table
  after change = (schema_after change r m).classes

  -- the kept sets are afresh after it
  pub closure_agrees : (change : Change) → Passed change r m closure → (c : ℕ) → c < class_limit
      → closure_at (closure_after change r (after change) before.count closure) c ≡ closure_row (after change) c
  unfolding schema_after table_after edited_row
  closure_agrees (Add Attributes) s c l = s.sound.fresh c l
  closure_agrees (Add Classes) s c l =
      let b = s.sound in
      class_fresh before (b.few Classes) closure b.long b.fresh (added_row Classes r) (part_length 0 class_width r (omega (arith, b.carried)))
      (room s refl) (new_unnamed s) c l
  closure_agrees SetRange s c l = s.sound.fresh c l
  closure_agrees (Rename Attributes) s c l = s.sound.fresh c l
  closure_agrees (Rename Classes) s c l =
      s.sound.fresh c l ∙ front_closure before (target_of r) name_at (new_name r) (omega (arith, name_wide r s.sound.carried))
      (target_whole s refl) c
  closure_agrees (Deactivate Attributes) s c l = s.sound.fresh c l
  closure_agrees (Deactivate Classes) s c l =
      s.sound.fresh c l ∙ front_closure before (target_of r) defunct_at (1 ∷ []) (omega arith) (target_whole s refl) c
  closure_agrees (Reactivate Attributes) s c l = s.sound.fresh c l
  closure_agrees (Reactivate Classes) s c l =
      s.sound.fresh c l ∙ front_closure before (target_of r) defunct_at (0 ∷ []) (omega arith) (target_whole s refl) c
  closure_agrees AddEntry s c l =
      entry_fresh s.sound (target_of r) (there s refl) (target_whole s refl)
      (list_of r) (entry_of r) (entry_there r m s.passed) c l
  closure_agrees RemoveEntry s c l =
      let b = s.sound in
      refreshed_fresh before (b.few Classes) closure b.long b.fresh (target_of r) (edited_row RemoveEntry r (before.row (target_of r)))
      (there s refl) c l

  -- rule 30 is judged as by the rows
  pub demand_agrees : (change : Change) → Passed change r m closure
      → demand_changes change r (after change) (demanded_set before (target_of r)) closure ≡ mandatory_differs before (after change)
  unfolding schema_after table_after edited_row
  demand_agrees (Add Attributes) s = no_difference before
  demand_agrees (Add Classes) s =
      sym (rule30_class before (added_row Classes r) (new_unnamed s))
  demand_agrees SetRange s = no_difference before
  demand_agrees (Rename Attributes) s = no_difference before
  demand_agrees (Rename Classes) s =
      front_demand before (target_of r) name_at (new_name r) (omega (arith, name_wide r s.sound.carried)) (target_whole s refl)
  demand_agrees (Deactivate Attributes) s = no_difference before
  demand_agrees (Deactivate Classes) s =
      front_demand before (target_of r) defunct_at (1 ∷ []) (omega arith) (target_whole s refl)
  demand_agrees (Reactivate Attributes) s = no_difference before
  demand_agrees (Reactivate Classes) s =
      front_demand before (target_of r) defunct_at (0 ∷ []) (omega arith) (target_whole s refl)
  demand_agrees AddEntry s =
      entry_demand s.sound (target_of r) (there s refl) (target_whole s refl)
      (list_of r) (entry_of r) (entry_there r m s.passed)
  demand_agrees RemoveEntry s =
      sym (rule30_target before (target_of r) (edited_row RemoveEntry r (before.row (target_of r))) (there s refl))
