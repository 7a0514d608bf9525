-- Fields that end before the bytes do: the reader is lent the bytes up to their end.
use mathlib.Core.Bool.{Bool, true, false}
use mathlib.Core.List.{List}
use mathlib.Core.Path.{◌≡◌, refl, ap, ◌∙◌}
use Prim.Native.Nat.{ℕ, ◌+◌, ◌-◌, ◌≤◌}
use native.Mathlib.Omega.{arith}
use lib.Dec.{leb}
use lib.ListN.{length, get_or}
use Rattle.prelude.specs.Part.{part}
use Rattle.prelude.specs.PartLaws.{part_at, part_length}
use Rattle.prelude.specs.BigEndian.{big_endian}
use Rattle.prelude.specs.BigEndianLaws.{number_in_part}
use Rattle.prelude.specs.SaysLaws.{says_le}
use Rattle.wire.specs.Wire.{field_at}

module _ (s t : List ℕ) (end : ℕ) (fits : end ≤ length s) (is : t ≡ part 0 (end - 0) s) where
  pub front_length : length t ≡ end
  front_length = ap length is ∙ part_length 0 (end - 0) s (omega arith) ∙ omega arith

  -- the field that it meets is the one that stands there
  pub front_field : (at : ℕ) → field_at t at (length t) ≡ field_at s at end
  unfolding field_at
  front_field at = rw front_length (go (leb (at + 3) end) refl)
    where
      go : (x : Bool) → leb (at + 3) end ≡ x → field_at t at end ≡ field_at s at end
      go false q = rw q
      go true q =
          let l : at + 3 ≤ end = (says_le (at + 3) end).holds q in
          let i : 0 + (at + 1) ≡ at + 1 = omega arith in
          let j : 0 + at ≡ at = omega arith in
          let number : big_endian 2 (at + 1) t ≡ big_endian 2 (at + 1) s = ap (big_endian 2 (at + 1)) is
          ∙ number_in_part 2 (at + 1) 0 (end - 0) s (omega (arith, l)) ∙ ap (λ (k : ℕ). big_endian 2 k s) i in
          let byte : get_or t at 0 ≡ get_or s at 0 = ap (λ (x : List ℕ). get_or x at 0) is ∙ part_at 0 (end - 0) s at (omega (arith, l))
          ∙ ap (λ (k : ℕ). get_or s k 0) j in
          rw (number, byte)
