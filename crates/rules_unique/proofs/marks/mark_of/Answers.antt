use Rattle.std.proofs.Common.{refl, ap, ◌∙◌, ◌≡◌, length, get_or, ℕ, arith}
use lib.Bits.{and_le_l}
use Rattle.rules_unique.specs.Marks.{mark_of}
use Rattle.rules_unique.proofs.Places.{mark_below, mark_more}
use Rattle.rules_unique.proofs.marks.mark_of.Goals as goal

pub loop-b-init : goal.loop-b-init
unfolding mark_of
loop-b-init c =
    refl

pub overflow_mul-mark : goal.overflow_mul-mark
overflow_mul-mark c =
    omega (arith, mark_below c.args.mask c.args.s.now c.loop-b.b-index c.loop-b.mark c.loop-b.invariant)

pub overflow_add-mark : goal.overflow_add-mark
overflow_add-mark c =
    omega (
      arith,
      mark_below c.args.mask c.args.s.now c.loop-b.b-index c.loop-b.mark c.loop-b.invariant,
      c.type_inv.s c.loop-b.b-index,
      and_le_l (get_or c.args.s.now c.loop-b.b-index 0) c.args.mask,
    )

pub loop-b-preserved : goal.loop-b-preserved
loop-b-preserved c =
    mark_more c.args.mask c.args.s.now c.loop-b.b-index c.loop-b.mark _ c.loop-b.invariant refl

pub returns : goal.returns
returns c =
    let e : c.loop-b.b-index ≡ length c.args.s.now = omega arith in
    c.loop-b.invariant ∙ ap (λ (n : ℕ). mark_of c.args.mask n c.args.s.now) e
