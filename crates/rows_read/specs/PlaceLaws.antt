-- What stands at a place of some fields, and the field that is read there.
use Rattle.std.specs.Prelude.{List, ◌≡◌, refl, ℕ, ◌+◌, ◌≤◌, get_or}
use Rattle.std.proofs.Common.{sym, ◌∙◌, ap₂, arith}
use Rattle.std.proofs.Math.Decide.{ℕ_discrete, dec_le}
use Rattle.prelude.specs.BigEndian.{big_endian}
use Rattle.wire.specs.Wire.{field_at, value_end}
use Rattle.wire.specs.WireLaws.{field_end, field_short, field_past, field_whole}
use Rattle.rows_read.specs.Stopping.{FieldStands, FieldCut}
use Rattle.wire.specs.FieldRead as fields

-- a field that stands there is read there, one that is cut is bad at its tag
pub field_stands : {s : List ℕ} {end at tag stop : ℕ} → FieldStands s end at tag stop → field_at s at end ≡ fields.Field tag (at + 3) stop
field_stands {s} {end} {at} {tag} {stop} f =
    sym (field_whole s at end (big_endian 2 (at + 1) s) refl (omega (arith, f.ends, f.within)))
    ∙ ap₂ (λ (t p : ℕ). fields.Field t (at + 3) p) f.tagged (sym f.ends)

pub field_cut : {s : List ℕ} {end at : ℕ} → FieldCut s end at → field_at s at end ≡ fields.Bad at
field_cut {s} {end} {at} (FieldCut.header l k) = sym (field_short s at end l k)
field_cut {s} {end} {at} (FieldCut.value l k) = sym (field_past s at end (big_endian 2 (at + 1) s) refl l k)

-- one of the three is there
pub data Place (s : List ℕ) (end at : ℕ) : Type 0 where
  ends : at ≡ end → field_at s at end ≡ fields.End → Place s end at
  is_cut_lem : FieldCut s end at → field_at s at end ≡ fields.Bad at → Place s end at
  stands : {tag stop : ℕ} → FieldStands s end at tag stop → field_at s at end ≡ fields.Field tag (at + 3) stop → Place s end at

pub place : (s : List ℕ) (end at : ℕ) → at ≤ end → Place s end at
place s end at l = go (ℕ_discrete at end) (dec_le (at + 3) end) (dec_le (value_end s at) end)
  where
    go : Dec (at ≡ end) → Dec (at + 3 ≤ end) → Dec (value_end s at ≤ end) → Place s end at
    go (yes e) h v = ends e (sym (field_end s at end e))
    go (no d) (no h) v = let c : FieldCut s end at = FieldCut.header (omega (arith, d)) (omega (arith, h)) in is_cut_lem c (field_cut c)
    go (no d) (yes h) (no v) = let c : FieldCut s end at = FieldCut.value h (omega (arith, v)) in is_cut_lem c (field_cut c)
    go (no d) (yes h) (yes v) =
        let f : FieldStands s end at (get_or s at 0) (value_end s at) = record { tagged = refl; header = h; ends = refl; within = v } in
        stands f (field_stands f)
