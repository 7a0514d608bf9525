-- The closure store row by row: how wide what a row demands is, and rows of a store that is afresh.
use mathlib.Core.List.{List}
use mathlib.Core.Path.{◌≡◌, ap, ◌∙◌}
use Prim.Native.Nat.{ℕ, ◌≤◌, ◌<◌}
use native.Mathlib.Omega.{arith}
use lib.ListN.{length}
use Rattle.prelude.specs.Part.{part, splice}
use Rattle.prelude.specs.PartLaws.{part_length}
use Rattle.schema.specs.Layout.{attribute_set, closure_length, demanded_at}
use Rattle.schema.specs.Numbers.{class_limit}
use Rattle.schema.specs.Store.{Table, closure_at}
use Rattle.graph.specs.Graph.{closure_row, closure_rows}
use Rattle.graph.proofs.FreshLaws.{bytes_fresh, says_fresh}
use Rattle.closure_change.proofs.KeptLaws.{kept_length}

pub demanded_long : (closure : List ℕ) → closure_length ≤ length closure → (c : ℕ) → c < class_limit
    → length (part demanded_at attribute_set (closure_at closure c)) ≡ attribute_set
demanded_long closure long c l = part_length demanded_at attribute_set (closure_at closure c) (omega (arith, kept_length closure long c l))

-- a row of a closure store that was given those worked out afresh
pub fresh_row : (t : Table) (fresh o : List ℕ) → closure_length ≤ length o → fresh ≡ splice 0 (closure_rows t) o → (c : ℕ) → c < class_limit
    → closure_at fresh c ≡ closure_row t c
fresh_row t fresh o long e c l = ap (λ (s : List ℕ). closure_at s c) e ∙ (says_fresh t (splice 0 (closure_rows t) o)).holds (bytes_fresh t o long) c l
