-- Laws that the check of a row's encoding cites.
use mathlib.Core.Bool.{true, false}
use mathlib.Core.List.{List}
use mathlib.Core.Path.{◌≡◌}
use Prim.Native.Nat.{ℕ, ◌+◌, ◌-◌, ◌≤◌, ◌<◌}
use native.Mathlib.Numerals.{add-one}
use native.Mathlib.Omega.{arith}
use lib.ListN.{length, get_or, take, drop, length-drop, drop_of_length-le}
use lib.Seq.{take_all, drop-cons}
use Rattle.rows_format.specs.declared.column.Column.{Column}
use Rattle.rows_format.specs.Encodings.{room}
use Rattle.rows_format.specs.Columns.{mark, column_width, cell_at, well_formed_cell, well_formed_by, Fits}
use Rattle.rows_format.proofs.ColumnsLaws.{cell_at_length}

-- a cell from a place on, as the language cuts it
pub rest_of : (at : ℕ) (cell : List ℕ) → take (length cell - at) (drop at cell) ≡ drop at cell
rest_of at cell = take_all (length cell - at) (drop at cell) (rw (length-drop at cell) (omega arith))

-- the cell of a column, by its parts
pub cell_long : (r : Column) (row : List ℕ) → Fits (length row) r → length (cell_at r row) ≡ mark r.presence + room r.encoding
unfolding column_width
cell_long r row f = cell_at_length r row f

-- ---- the way through a table

module _ (table : List Column) (none : Column) (i : ℕ) (row : List ℕ) where
  pub formed_next : {r : Column} → i < length table → r ≡ get_or table i none → well_formed_cell r (cell_at r row) ≡ true → well_formed_by (drop i table) row
      ≡ well_formed_by (drop (i + 1) table) row
  unfolding well_formed_by
  formed_next l e f = rw (add-one i, drop-cons table i none l, ← e, f)

  pub formed_not : {r : Column} → i < length table → r ≡ get_or table i none → well_formed_cell r (cell_at r row) ≡ false → well_formed_by (drop i table) row ≡ false
  unfolding well_formed_by
  formed_not l e f = rw (drop-cons table i none l, ← e, f)

  pub formed_done : length table ≤ i → well_formed_by (drop i table) row ≡ true
  unfolding well_formed_by
  formed_done l = rw (drop_of_length-le table l)
