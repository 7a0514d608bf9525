-- How wide the row is that a change leaves.
use Rattle.std.specs.Prelude.{length, ◌+◌, ◌≤◌, ℕ, List, [], ◌∷◌, ◌≡◌, ◌⊎◌, true}
use Rattle.std.proofs.Common.{arith, ◌∙◌, ap, inl, inr}
use Rattle.std.proofs.lemmas.Bool.{false≢true}
use Rattle.change_read.specs.declared.carried.OpenList.TheVariants.{Optional, Auxiliary, Superior}
use Rattle.change_read.specs.declared.read.Change.TheVariants.{Add, SetRange, Rename, Deactivate, Reactivate, AddEntry, RemoveEntry}
use Rattle.change_read.specs.declared.read.Change.{Change}
use Rattle.change_read.specs.declared.carried.OpenList.{OpenList}
use Rattle.change_read.specs.Carried.{entry_of, list_of, new_name, new_range}
use Rattle.schema.specs.declared.number.TableId.TheVariants.{Attributes, Classes}
use Rattle.schema.specs.declared.number.TableId.{TableId}
use Rattle.schema.specs.Layout.{attribute_width, class_width, common_width, defunct_at, name_at, name_limit, range_lower_at, row_width}
use Rattle.change_rows.specs.Rows.{edited_row, is_addition, table_for}
use Rattle.change_rows.specs.Lists.{list_width, open_at, open_of, fixed_at}
use Rattle.rows_format.specs.Formats.{new_lower_at, new_name_at}
use Rattle.prelude.specs.PartLaws.{part_length}
use Rattle.prelude.specs.Part.{splice}
use Rattle.prelude.specs.SpliceLaws.{splice_length}
use Rattle.sets.specs.SetsLaws.{with_length, without_length}

-- how wide the target's row is, by what the change is
pub wide_row : {change is : Change} (row : List ℕ) → change ≡ is → length row ≡ row_width (table_for change) → length row ≡ row_width (table_for is)
wide_row row e l = l ∙ ap (λ (x : Change). row_width (table_for x)) e

-- an open list lies within a class row
pub list_inside : (list : OpenList) → open_at list + list_width list ≤ class_width
list_inside Optional = omega arith
list_inside Auxiliary = omega arith
list_inside Superior = omega arith

-- so does the fixed one
pub fixed_inside : (list : OpenList) → fixed_at list + list_width list ≤ class_width
fixed_inside Optional = omega arith
fixed_inside Auxiliary = omega arith
fixed_inside Superior = omega arith

-- a list that is as wide as it was, put back
list_wide : (list : OpenList) (new old : List ℕ) → length new ≡ length (open_of list old) → length old ≡ class_width
    → length (splice (open_at list) new old) ≡ class_width
list_wide list new old e wide =
    let inside = list_inside list in
    let l : length (open_of list old) ≡ list_width list = part_length (open_at list) (list_width list) old (omega arith) in
    splice_length (open_at list) new old (omega arith) ∙ wide

-- a cell within what every row begins with
cell_wide : (t : TableId) (at : ℕ) (new old : List ℕ) → at + length new ≤ common_width → length old ≡ row_width t → length (splice at new old) ≡ row_width t
cell_wide Attributes at new old l e = splice_length at new old (omega arith) ∙ e
cell_wide Classes at new old l e = splice_length at new old (omega arith) ∙ e

pub edited_wide : (change : Change) (r old : List ℕ) → length r ≡ class_width → length old ≡ row_width (table_for change) ⊎ (is_addition change ≡ true)
    → length (edited_row change r old) ≡ row_width (table_for change)
unfolding edited_row
edited_wide (Add Attributes) r old l h = part_length 0 attribute_width r (omega arith)
edited_wide (Add Classes) r old l h = part_length 0 class_width r (omega arith)
edited_wide SetRange r old l (inl e) =
    let n : length (new_range r) ≡ 10 = part_length new_lower_at 10 r (omega arith) in
    splice_length range_lower_at (new_range r) old (omega arith) ∙ e
edited_wide (Rename t) r old l (inl e) =
    let n : length (new_name r) ≡ 1 + name_limit = part_length new_name_at (1 + name_limit) r (omega arith) in
    cell_wide t name_at (new_name r) old (omega arith) e
edited_wide (Deactivate t) r old l (inl e) = cell_wide t defunct_at (1 ∷ []) old (omega arith) e
edited_wide (Reactivate t) r old l (inl e) = cell_wide t defunct_at (0 ∷ []) old (omega arith) e
edited_wide AddEntry r old l (inl e) = list_wide (list_of r) _ old (with_length (entry_of r) (open_of (list_of r) old)) e
edited_wide RemoveEntry r old l (inl e) = list_wide (list_of r) _ old (without_length (entry_of r) (open_of (list_of r) old)) e
edited_wide SetRange r old l (inr e) = absurd (false≢true e)
edited_wide (Rename t) r old l (inr e) = absurd (false≢true e)
edited_wide (Deactivate t) r old l (inr e) = absurd (false≢true e)
edited_wide (Reactivate t) r old l (inr e) = absurd (false≢true e)
edited_wide AddEntry r old l (inr e) = absurd (false≢true e)
edited_wide RemoveEntry r old l (inr e) = absurd (false≢true e)
