use Rattle.std.proofs.Common.{◌≡◌, ◌-◌, ◌++◌, ℕ, length, replicate, sym, ap, ◌∙◌, arith, append-nil}
use Rattle.replay.proofs.Filling.{filled_more}
use Rattle.replay.proofs.player.fill_up.Goals as goal

pub loop-bytes-init : goal.loop-bytes-init
loop-bytes-init c =
    let z : length c.args.bytes.now.items - length c.args.bytes.now.items ≡ 0 = omega arith in
    (omega arith, omega arith, rw z (sym (append-nil _)))

pub loop-bytes-preserved : goal.loop-bytes-preserved
loop-bytes-preserved c =
    let e = c.push.ensures.items in (
      omega arith,
      omega arith,
      rw e (filled_more _ _ _ c.loop-bytes.invariant.0 c.loop-bytes.invariant.2),
    )

pub returns : goal.returns
returns c =
    let start = c.args.bytes.now.items in
    let k : length c.loop-bytes.bytes.items - length start ≡ c.args.n - length start = omega arith in
    c.loop-bytes.invariant.2 ∙ ap (λ (j : ℕ). start ++ replicate j c.args.byte) k
