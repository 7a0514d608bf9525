use Rattle.std.specs.Prelude.{Bool, false, ◌≡◌, ℕ, ◌+◌, ◌*◌}
use Rattle.prelude.specs.Below.{any_below}
use Rattle.rules_class.specs.Blank.{ByBytes}
use Rattle.rules_class.proofs.blank.any_by_bytes.Given as goal

abbrev pub invariant-loop-i : goal.invariant-loop-i
invariant-loop-i g l = (p : ℕ → Bool) → ByBytes l.bytes (λ at b. goal.B-post g l.is_blank at b) (λ n b. goal.P-post g l.passes n b) p
    → any_below (l.at * 8 + l.i) p ≡ false

abbrev pub invariant-loop-at : goal.invariant-loop-at
invariant-loop-at g l = (p : ℕ → Bool) → ByBytes l.bytes (λ at b. goal.B-post g l.is_blank at b) (λ n b. goal.P-post g l.passes n b) p
    → any_below (l.at * 8) p ≡ false
