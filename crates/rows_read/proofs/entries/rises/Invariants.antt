use mathlib.Core.Bool.{Bool}
use mathlib.Core.List.{List}
use mathlib.Core.Path.{◌≡◌}
use Prim.Native.Nat.{ℕ, ◌*◌, ◌≤◌}
use lib.ListN.{drop}
use Rattle.schema.specs.Numbers.{limit}
use Rattle.rows_format.specs.Entries.{entries, rises_below}
use Rattle.rows_read.proofs.entries.rises.Given as goal

-- what is left of the entries decides as all of them do
pub record Going (v : List ℕ) (limit : ℕ) (goal : Bool) (low i : ℕ) : Type 0 where
  pub small : low ≤ 65536
  pub same : rises_below limit low (entries (drop i v)) ≡ goal

abbrev pub invariant-loop-k : goal.invariant-loop-k
invariant-loop-k l = Going l.v (limit l.table) (rises_below (limit l.table) 0 (entries l.v)) l.low (2 * l.k)
