-- A row of either table holds what every row begins with, and lies within its store.
use mathlib.Core.List.{List}
use mathlib.Core.Path.{◌≡◌}
use Prim.Native.Nat.{ℕ, ◌+◌, ◌*◌, ◌≤◌, ◌<◌}
use native.Mathlib.Omega.{arith}
use lib.ListN.{length}
use Rattle.prelude.specs.PartLaws.{row_fits}
use Rattle.schema.specs.Numbers.{limit}
use Rattle.schema.specs.Layout.{common_width, rows_at, row_width, store_length}
use Rattle.schema.specs.declared.number.TableId.{TableId}
use Rattle.schema.specs.declared.number.TableId.TheVariants.{Attributes, Classes}

pub common_within : (t : TableId) → common_width ≤ row_width t
common_within Attributes = omega arith
common_within Classes = omega arith

-- row k lies within its store, the width and the number as a function found them
pub row_room : (t : TableId) (k : ℕ) (s : List ℕ) (w n : ℕ) → w ≡ row_width t → n ≡ k → store_length t ≤ length s → k < limit t → 2 + w * n + w ≤ length s
row_room t k s w n e f long few = rw (e, f) (row_fits rows_at (row_width t) (limit t) k (length s) long few)
