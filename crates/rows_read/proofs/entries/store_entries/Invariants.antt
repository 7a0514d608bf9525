use mathlib.Core.List.{List}
use mathlib.Core.Path.{◌≡◌}
use Prim.Native.Nat.{ℕ, ◌*◌}
use lib.ListN.{length, drop}
use Rattle.sets.specs.Sets.{set_of}
use Rattle.prelude.specs.Unlike.{among}
use Rattle.rows_format.specs.Entries.{entries}
use Rattle.rows_read.proofs.Entering.{insert_all, Within}
use Rattle.rows_read.proofs.entries.store_entries.Given as goal

-- the set with what is left of the entries is the set of all of them
pub record Going (v : List ℕ) (n : ℕ) (goal cell : List ℕ) (i : ℕ) : Type 0 where
  pub long : length cell ≡ n
  pub small : Within n (entries (drop i v))
  pub same : insert_all cell (entries (drop i v)) ≡ goal

abbrev pub invariant-loop-k : goal.invariant-loop-k
invariant-loop-k l = Going l.v (length l.initial.cell) (set_of (length l.initial.cell) (among (entries l.v))) l.cell (2 * l.k)
