use Rattle.graph.proofs.Firsts.{kept_none, kept_more, kept_end}
use native.Mathlib.Omega.{arith}
use Rattle.graph.proofs.stages.keep_below.Goals as goal

pub loop-k-init : goal.loop-k-init
loop-k-init c =
    kept_none c.args.s.now c.args.n c.requires (λ i. (c.slice_known-1.given i).fits)

pub loop-k-preserved : goal.loop-k-preserved
loop-k-preserved c =
    kept_more c.args.s.now c.args.n c.loop-k.k c.loop-k.s _ (omega arith) c.loop-k.invariant c.remove.ensures

pub returns : goal.returns
returns c =
    kept_end c.args.s.now c.args.n c.loop-k.k c.loop-k.s (omega arith) c.loop-k.invariant
