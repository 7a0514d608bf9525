use mathlib.Core.Path.{sym, ◌∙◌}
use native.Mathlib.Omega.{arith}
use borrow.Author.Count.{below_more}
use Rattle.sets.specs.ListLaws.{from_before, from_past}
use Rattle.graph.specs.Visit.{unvisited_in}
use Rattle.graph.proofs.Next.{class_found, class_none}
use Rattle.graph.proofs.reach.first_unvisited.Goals as goal

pub loop-d-init : goal.loop-d-init
loop-d-init c =
    from_before _ _

pub returns-then-is_unvisited : goal.returns-then-is_unvisited
returns-then-is_unvisited c =
    class_found _ _ _ _ c.class_at-next.ensures (omega arith) c.loop-d.invariant
    (from_past _ (unvisited_in c.args.fixed.now c.args.other.now c.args.seen.bits) _ (omega arith) ∙ sym
    (rw c.class_at-next.ensures at c.is_unvisited.ensures) ∙ c.if-is_unvisited.true)

pub loop-d-preserved : goal.loop-d-preserved
loop-d-preserved c =
    below_more _ _ c.loop-d.invariant
    (from_past _ (unvisited_in c.args.fixed.now c.args.other.now c.args.seen.bits) _ (omega arith) ∙ sym
    (rw c.class_at-next.ensures at c.is_unvisited.ensures) ∙ c.if-is_unvisited.false)

pub returns : goal.returns
returns c =
    class_none _ _ (λ k l. c.loop-d.invariant k (omega arith))
