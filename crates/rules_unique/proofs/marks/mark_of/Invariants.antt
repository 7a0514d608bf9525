use mathlib.Core.Path.{◌≡◌}
use Rattle.rules_unique.specs.Marks.{mark_of}
use Rattle.rules_unique.proofs.marks.mark_of.Given as goal

abbrev pub invariant-loop-b : goal.invariant-loop-b
invariant-loop-b l = l.mark ≡ mark_of l.mask l.b-index l.s
