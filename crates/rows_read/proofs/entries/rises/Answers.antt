use mathlib.Core.Path.{◌≡◌, refl, sym, ◌∙◌}
use Prim.Native.Nat.{◌+◌, ◌*◌}
use native.Mathlib.Omega.{arith}
use Rattle.rows_read.proofs.Entering.{rises_low, rises_over, rises_more, rises_done}
use Rattle.rows_read.proofs.entries.rises.Goals as goal
use Rattle.rows_read.proofs.entries.rises.Goals.{then-n-low-via-then-n-low, then-n-low-via-else-n-low+then-not-is_number}

pub loop-k-init : goal.loop-k-init
loop-k-init c =
    record { small = omega arith; same = refl }

pub returns-then-n-low : goal.returns-then-n-low
returns-then-n-low c =
    elim c.then-n-low.branch [
      | then-n-low-via-then-n-low w ↦
          sym (sym c.loop-k.invariant.same ∙ rises_low _ _ (2 * c.loop-k.k) _ _ (omega arith) c.read_u16-n.ensures w.if-n-low.true)
      | then-n-low-via-else-n-low+then-not-is_number w ↦
          sym (sym c.loop-k.invariant.same ∙ rises_over _ _ (2 * c.loop-k.k) _ _ (omega arith) c.read_u16-n.ensures w.if-n-low.false
          (sym w.is_number.ensures ∙ w.if-not-is_number.true))
    ]

pub loop-k-preserved : goal.loop-k-preserved
loop-k-preserved c =
    let number = sym c.is_number.ensures ∙ c.if-not-is_number.false in
    let e : 2 * (c.loop-k.k + 1) ≡ 2 * c.loop-k.k + 2 = omega arith in
    record {
      small = omega arith;
      same = rw e (sym
          (rises_more _ _ (2 * c.loop-k.k) _ _ (omega arith) c.read_u16-n.ensures c.if-n-low.false number) ∙ c.loop-k.invariant.same);
    }

pub returns : goal.returns
returns c =
    sym (sym c.loop-k.invariant.same ∙ rises_done _ _ (2 * c.loop-k.k) _ (omega arith))
