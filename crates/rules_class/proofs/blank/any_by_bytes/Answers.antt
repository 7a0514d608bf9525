use Rattle.std.specs.Prelude.{Bool, false, ◌≡◌, ℕ, ◌+◌, ◌-◌, ◌*◌, ◌<◌}
use Rattle.std.proofs.Common.{sym, ap, ◌∙◌, arith}
use Rattle.std.proofs.Math.Decide.{dec_lt}
use Rattle.prelude.specs.Below.{any_below}
use Rattle.prelude.specs.BelowLaws.{any_zero, any_more, any_here, any_none, any_false}
use Rattle.rules_class.proofs.blank.any_by_bytes.Goals as goal

-- a byte more, none of whose numbers passes
byte_more : (p : ℕ → Bool) (at : ℕ) → any_below (at * 8) p ≡ false → ((i : ℕ) → i < 8 → p (at * 8 + i) ≡ false)
    → any_below ((at + 1) * 8) p ≡ false
byte_more p at e h = any_false p ((at + 1) * 8) (λ k l. go k l (dec_lt k (at * 8)))
  where
    go : (k : ℕ) → k < (at + 1) * 8 → Dec (k < at * 8) → p k ≡ false
    go k l (yes b) = any_none p (at * 8) e k b
    go k l (no d) =
        let q : k ≡ at * 8 + (k - at * 8) = omega arith in
        ap p q ∙ h (k - at * 8) (omega arith)

pub loop-at-init : goal.loop-at-init
loop-at-init g c = λ p h. any_zero p

pub loop-at-preserved-then-is_blank : goal.loop-at-preserved-then-is_blank
loop-at-preserved-then-is_blank g c =
    λ p h. byte_more p c.loop-at.at (c.loop-at.invariant p h) (λ i l. h.none c.loop-at.at i c.loop-at-test.true l c.if-is_blank.ensures)

pub returns-then-passes : goal.returns-then-passes
returns-then-passes g c =
    let l : c.loop-at.at * 8 + c.loop-i.i < c.args.bytes * 8 = omega (arith, c.loop-at-test.true, c.loop-i-test.true) in
    λ p h. sym (any_here p (c.loop-at.at * 8 + c.loop-i.i) (c.args.bytes * 8) l (sym (h.says _ _ l c.if-passes.ensures)))

pub loop-i-preserved : goal.loop-i-preserved
loop-i-preserved g c =
    let l : c.loop-at.at * 8 + c.loop-i.i < c.args.bytes * 8 = omega (arith, c.loop-at-test.true, c.loop-i-test.true) in
    let q : c.loop-at.at * 8 + c.loop-i.i + 1 ≡ c.loop-at.at * 8 + (c.loop-i.i + 1) = omega arith in
    λ p h. ap (λ n. any_below n p) (sym q) ∙ any_more p (c.loop-at.at * 8 + c.loop-i.i) (c.loop-i.invariant p h) (sym (h.says _ _ l c.if-passes.ensures))
