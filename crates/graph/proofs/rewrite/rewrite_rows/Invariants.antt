use Rattle.std.proofs.Common.{ℕ, List, ◌≡◌}
use Rattle.prelude.specs.Concat.{concat_below}
use Rattle.prelude.specs.Part.{splice}
use Rattle.graph.specs.Rewrite.{AreRows, LeavesRows}
use Rattle.graph.proofs.rewrite.rewrite_rows.Given as goal

abbrev pub invariant-loop-c : goal.invariant-loop-c
invariant-loop-c g l = (f : ℕ → List ℕ) → AreRows f → LeavesRows (goal.F-post g l.rewrite) l.initial.closure l.n f
    → l.closure ≡ splice 0 (concat_below l.c f) l.initial.closure
