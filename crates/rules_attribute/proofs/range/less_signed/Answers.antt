use Rattle.std.proofs.Common.{◌≡◌, ◌<◌, ℕ, Bool, true, false, cond, ap, ap₂, ◌∙◌, arith, refl, rules}
use Rattle.std.specs.Prelude.{ℤ, pos, negsuc}
use Rattle.std.specs.Int.{cast_signed, cast_unsigned, w32}
use Rattle.std.specs.Int.Signed.{lt_z}
use Rattle.std.proofs.lemmas.Int.{of_z-to_z}
use mir.Val.{sel}
use Rattle.rules_attribute.specs.Range.{signed}
use Rattle.rules_attribute.proofs.range.less_signed.Goals as goal

chosen : (b : Bool) (p : ℤ) {q r : ℤ} → q ≡ r → sel b p q ≡ cond b p r
chosen true p e = refl
chosen false p e = e

-- the language reads 32 bits as document 01 does
read : (x : ℕ) → cast_signed w32 x ≡ signed x
unfolding signed
read x = chosen _ (pos x) (ap negsuc (omega arith))

read_back : (x : ℕ) (z : ℤ) → x < 4294967296 → z ≡ cast_signed w32 x → cast_signed w32 (cast_unsigned w32 z) ≡ signed x
read_back x z h e = ap (λ y. cast_signed w32 (cast_unsigned w32 y)) e ∙ ap (cast_signed w32) (of_z-to_z w32 x h) ∙ read x

pub returns : goal.returns
returns c = ap₂ lt_z (read_back c.args.a _ (search rules) c.cast_signed.ensures) (read_back c.args.b _ (search rules) c.cast_signed-2.ensures)
