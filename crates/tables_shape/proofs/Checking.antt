-- The rows of a store that are not in use.
use mathlib.Core.Bool.{true}
use mathlib.Core.List.{List}
use mathlib.Core.Path.{◌≡◌}
use Prim.Native.Nat.{◌*◌, ◌-◌, ℕ}
use native.Mathlib.Omega.{arith}
use Rattle.prelude.specs.Part.{is_zero, part, zeros}
use Rattle.prelude.specs.PartLaws.{zeros_zero}
use Rattle.schema.specs.declared.number.TableId.{TableId}
use Rattle.schema.specs.Numbers.{limit}
use Rattle.schema.specs.Layout.{row_width}
use Rattle.tables_shape.specs.Shape.{unused_rows}

-- a full table has no unused rows
pub unused_none : (t : TableId) (n : ℕ) (s : List ℕ) → n ≡ limit t → is_zero (unused_rows t n s) ≡ true
unfolding zeros part
unused_none t n s e =
    let none : limit t - n ≡ 0 = omega (arith, e) in
    let empty : row_width t * (limit t - n) ≡ 0 = rw none (omega arith) in
    rw empty (zeros_zero 0)
