use Rattle.std.proofs.Common.{rules, arith, ◌≡◌, ◌<◌, ℕ, ap, ◌∙◌, length, get_or}
use lib.Bits.{bit_or}
use Rattle.prelude.proofs.Fill.{fill_none, fill_more, fill_later, fill_all}
use Rattle.sets.specs.Sets.{union}
use Rattle.sets.specs.SetsLaws.{union_length}
use Rattle.sets.proofs.Bytes.{union_byte}
use Rattle.sets.proofs.join.Goals as goal

pub loop-i-init : goal.loop-i-init
loop-i-init c = fill_none _ _

pub loop-i-preserved : goal.loop-i-preserved
loop-i-preserved c =
    let l = c.loop-i in
    let a = c.args.a.now in
    let b = c.args.b.now in
    let n : length (union a b) ≡ length a = union_length a b in
    let h : l.i < length a = omega arith in
    let later : get_or l.a l.i 0 ≡ get_or a l.i 0 = fill_later (union a b) a l.i l.i l.a n (omega arith) l.invariant in
    let now : get_or l.a l.i 0 < 256 = search rules in
    let small : get_or a l.i 0 < 256 = rw later at now in
    fill_more _ _ l.i _ _ n h (ap (λ (x : ℕ). bit_or x (get_or b l.i 0)) later ∙ union_byte a b l.i h small (c.type_inv.b l.i).fits) l.invariant

pub returns : goal.returns
returns c = fill_all _ _ _ _ (union_length c.args.a.now c.args.b.now) (search rules) c.loop-i.invariant
