use mathlib.Core.Path.{◌≡◌, ap, ◌∙◌}
use Prim.Native.Nat.{ℕ, ◌+◌, ◌*◌}
use Rattle.prelude.specs.Part.{part}
use Rattle.schema.specs.Layout.{closure_width}
use native.Mathlib.Omega.{arith}
use Rattle.schema.proofs.store.closure_row.Goals as goal

pub returns : goal.returns
returns c =
    let e : c.closure_start.result ≡ 0 + closure_width * c.args.c.0 = omega (arith, c.closure_start.ensures) in c.part_of.ensures ∙
    ap (λ (x : ℕ). part x closure_width c.args.closure.now) e
