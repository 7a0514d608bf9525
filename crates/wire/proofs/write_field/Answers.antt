use mathlib.Core.Path.{◌≡◌, refl, sym, ap, ◌∙◌}
use mathlib.Core.List.{List, ◌++◌}
use Prim.Native.Nat.{ℕ, ◌+◌, ◌-◌, ◌≤◌}
use lib.ListN.{length, take, drop}
use Rattle.prelude.specs.Part.{splice}
use Rattle.prelude.specs.LentLaws.{lent_back}
use Rattle.prelude.specs.SpliceLaws.{splice_append}
use Rattle.wire.specs.Wire.{header_bytes, field_bytes}
use Rattle.wire.specs.WireLaws.{header_length}
use native.Mathlib.Omega.{arith}
use Rattle.wire.proofs.write_field.Goals as goal

-- the header written, and then the value copied behind it
copied : (at tag : ℕ) (v d e back : List ℕ) → at + 3 + length v ≤ length d → e ≡ splice at (header_bytes tag (length v)) d → back ≡ v
    → take (at + 3) e ++ (back ++ drop (at + 3 + length v - (at + 3)) (drop (at + 3) e)) ≡ splice at (field_bytes tag v) d
unfolding field_bytes
copied at tag v d e back h q b =
    let head : List ℕ = header_bytes tag (length v) in
    let three : length head ≡ 3 = header_length tag (length v) in
    let fits : at + length head ≤ length d = omega arith in
    lent_back (at + 3) (at + 3 + length v) e back v refl b ∙ ap (splice (at + 3) v) q
    ∙ ap (λ (n : ℕ). splice (at + n) v (splice at head d)) (sym three) ∙ splice_append at head d fits v

pub returns : goal.returns
returns c =
    copied _ _ c.args.value.now c.args.d.now _ _ c.requires.1 c.write_header.ensures c.copy_from_slice.ensures.after
