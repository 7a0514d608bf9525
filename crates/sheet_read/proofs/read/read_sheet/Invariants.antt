use Rattle.sheet_read.proofs.Walk.{Reading}
use mathlib.Core.Path.{◌≡◌}
use lib.ListN.{length}
use Prim.Native.Nat.{◌-◌}
use Rattle.sheet_read.proofs.read.read_sheet.Given as goal

abbrev pub invariant-loop-attributes : goal.invariant-loop-attributes
invariant-loop-attributes l = (Reading l.s l.initial.attributes l.initial.classes l.attributes l.classes l.progress.at l.progress.phase l.progress.missing) × (length l.attributes ≡ length l.initial.attributes)
    × (length l.classes ≡ length l.initial.classes)

abbrev pub decreases-loop-attributes : goal.decreases-loop-attributes
decreases-loop-attributes l = length l.s - l.progress.at
