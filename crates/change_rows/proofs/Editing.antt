-- A part of a row that was lent, and comes back changed.
use native.Mathlib.Omega.{arith}
use lib.ListN.{length, take, drop}
use Prim.Native.Nat.{ℕ, ◌+◌, ◌≤◌, ◌-◌, ◌<◌}
use mathlib.Core.List.{List, ◌++◌}
use mathlib.Core.Path.{◌≡◌, ◌∙◌, ap, ap₂, refl, sym}
use Rattle.change_read.specs.declared.read.Change.{Change}
use Rattle.change_read.specs.declared.carried.OpenList.{OpenList}
use Rattle.change_rows.specs.Lists.{open_at, list_width, open_of}
use Rattle.change_rows.specs.Rows.{table_for}
use Rattle.change_rows.specs.RowsLaws.{list_inside}
use Rattle.schema.specs.Layout.{row_width, class_width, common_width}
use Rattle.schema.specs.LayoutLaws.{common_narrow}
use Rattle.prelude.specs.Part.{splice, part}
use Rattle.prelude.specs.PartLaws.{part_cut, part_length}
use Rattle.prelude.specs.SpliceLaws.{splice_part}
use Rattle.prelude.specs.LentLaws.{lent_back}

-- an open list that was lent
module _ (list : OpenList) (at width : ℕ) (row : List ℕ) (is : at ≡ open_at list) (wide : width ≡ list_width list) (long : length row ≡ class_width) where
  inside : at + width ≤ length row
  inside = omega (arith, list_inside list)

  pub list_back : (f : List ℕ → List ℕ) (back : List ℕ) → ((s : List ℕ) → length (f s) ≡ length s) → back ≡ f (take (at + width - at) (drop at row))
      → take at row ++ (back ++ drop (at + width - at) (drop at row)) ≡ splice (open_at list) (f (open_of list row)) row
  list_back f back same e =
      let cut : take (at + width - at) (drop at row) ≡ part at width row = part_cut at width row (at + width) refl in
      lent_back at (at + width) row back (f (part at width row))
      (omega (arith, same (part at width row), part_length at width row inside)) (e ∙ ap f cut)
      ∙ ap₂ (λ (a w : ℕ). splice a (f (part a w row)) row) is wide

-- an open list that a change leaves as it is
pub list_kept : (list : OpenList) (row : List ℕ) {new : List ℕ} → length row ≡ class_width → new ≡ open_of list row → row ≡ splice (open_at list) new row
list_kept list row long e =
    sym (ap (λ (x : List ℕ). splice (open_at list) x row) e ∙ splice_part (open_at list) (list_width list) row (omega (arith, list_inside list)))

-- how wide the row is
pub common_row : (change : Change) (row : List ℕ) → length row ≡ row_width (table_for change) → common_width < length row
common_row change row e = omega (arith, common_narrow (table_for change))
