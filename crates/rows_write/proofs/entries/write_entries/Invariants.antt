use mathlib.Core.List.{List}
use mathlib.Core.Path.{◌≡◌}
use Prim.Native.Nat.{ℕ, ◌+◌}
use lib.ListN.{length}
use Rattle.prelude.specs.Part.{splice}
use Rattle.sets.specs.Sets.{member, list_below}
use Rattle.rows_format.specs.Entries.{entry_bytes}
use Rattle.rows_write.proofs.entries.write_entries.Given as goal

-- the members below n are written
pub record Going (cell : List ℕ) (at : ℕ) (out₀ out : List ℕ) (to n : ℕ) : Type 0 where
  pub long : length out ≡ length out₀
  pub place : to ≡ at + length (entry_bytes (list_below n (member cell)))
  pub same : out ≡ splice at (entry_bytes (list_below n (member cell))) out₀

abbrev pub invariant-loop-n : goal.invariant-loop-n
invariant-loop-n l = Going l.cell l.at l.initial.out l.out l.to l.n
