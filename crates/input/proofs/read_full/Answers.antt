-- A read puts what it gave behind what stands at the front; one that was interrupted leaves the front as it was.
use Rattle.std.proofs.Common.{◌≡◌, ℕ, ◌+◌, ◌-◌, ◌≤◌, List, ◌++◌, rules, arith, length, take, sym, ap, ◌∙◌, le_refl, length-take-le}
use Rattle.std.proofs.Math.Seq.{take-append-add, take-append-le}
use Rattle.std.proofs.lemmas.Slice.{take-put_mid_below}
use Rattle.std.proofs.KnownBytes.{Consumes-trans, Consumes-kept}
use borrow.Rule.Slice.PartMut.{put_mid, post_of}
use Rattle.input.proofs.read_full.Goals.{in-Ok, in-Err+else-ne}
use Rattle.input.proofs.read_full.Goals as goal

front_more : (at k n : ℕ) (buf new : List ℕ) → at ≤ length buf → n ≤ length new → take (at + n) (put_mid at k buf new) ≡ take at buf ++ take n new
front_more at k n buf new h l =
    let e : length (take at buf) ≡ at = length-take-le at buf h in
    ap (λ (m : ℕ). take (m + n) (put_mid at k buf new)) (sym e) ∙ take-append-add (take at buf) (new ++ post_of at k buf) n
    ∙ ap (λ (s : List ℕ). take at buf ++ s) (take-append-le n new (post_of at k buf) l)

pub loop-preserved : goal.loop-preserved
loop-preserved g c =
    let at = c.loop.done in
    let buf = c.loop.buf in
    let now = put_mid at (length buf - at) buf c.read.new.buf in
    let before = c.loop.invariant in
    let long : length now ≡ length buf = search rules in
    elim c.match-read.branch [
      | in-Ok w ↦
          let e : take c.match-read.done now ≡ take at buf ++ take w.in-Ok.n c.read.new.buf =
          rw w.done-is (front_more at (length buf - at) w.in-Ok.n buf c.read.new.buf before.in_bounds w.in-Ok.ensures.bound.0) in
          record {
            same = long ∙ before.same;
            in_bounds = rw long (omega (arith, w.in-Ok.ensures.bound.0));
            given = rw e (Consumes-trans _ _ _ _ _ before.given w.in-Ok.ensures.bytes.0);
          }
      | in-Err+else-ne w ↦
          let e : take c.match-read.done now ≡ take at buf = rw w.done-is (take-put_mid_below _ _ _ _ _ (le_refl _) before.in_bounds) in
          record {
            same = long ∙ before.same;
            in_bounds = rw long (omega arith);
            given = rw e (Consumes-kept _ _ _ _ before.given w.in-Err.ensures.bytes);
          }
    ]
