-- In which attribute rows 08 stands exactly where oMSyntax is 127: the rows are read by computation, and the statement on their bytes follows.
use mathlib.Core.Bool.{true, false}
use mathlib.Core.List.{List, [], ◌∷◌, ◌++◌}
use mathlib.Core.Path.{◌≡◌, refl}
use Prim.Native.Nat.{ℕ, ◌<◌}
use native.Mathlib.Decide.{dec_lt}
use native.Mathlib.Omega.{arith}
use lib.Dec.{ltb}
use lib.ListN.{get_or, length, replicate, get_or-eq_default}
use Rattle.prelude.specs.Below.{all_below}
use Rattle.prelude.specs.BelowLaws.{all_each}
use Rattle.prelude.specs.BigEndian.{big_endian, big_endian_bytes}
use Rattle.prelude.specs.Part.{part, splice, zeros, padded, is_zero, Bytes}
use Rattle.prelude.specs.PartLaws.{zeros_length}
use Rattle.prelude.specs.SaysLaws.{says_fails, says_lt}
use Rattle.wire.specs.Wire.{field_at, header_bytes, field_bytes}
use Rattle.schema.specs.declared.number.TableId.TheVariants.{Attributes}
use Rattle.schema.specs.Layout.{row_width}
use Rattle.rows_format.specs.declared.format.Format.TheVariants.{Row}
use Rattle.rows_format.specs.Encodings.{passes, accepts, image, room}
use Rattle.rows_format.specs.Columns.{lead, mark, required, possible, column_width, takes, cell_of}
use Rattle.rows_format.specs.Formats.{common_columns, attribute_columns, columns_of, own_columns}
use Rattle.rows_read.specs.RowRead.{Read}
use Rattle.rows_read.specs.Reading.{turn_of, took_of, row_of, onward, read_by}
use Rattle.rows_read.specs.ObjectClass.{finish, read_row}
use Rattle.rows_read.specs.WellFormed.{stands_exactly}
use Rattle.sheet_round_trip.specs.Exact.{ExactRow}
use Rattle.sheet_round_trip.specs.ExactLaws.{says_exact_read}

abbrev blank : List ℕ
blank = zeros (row_width Attributes)

module _ (v : List ℕ) (small : all_below (length v) (λ i. ltb (get_or v i 0) 256) ≡ true)
    (read : (read_row (Row Attributes) v 0 (length v) blank).answer ≡ Read) where
  bytes : Bytes v
  bytes i = go (dec_lt i (length v))
    where
      go : Dec (i < length v) → get_or v i 0 < 256
      go (yes l) = (says_lt (get_or v i 0) 256).holds (all_each (λ k. ltb (get_or v k 0) 256) (length v) small i l)
      go (no d) = let e : get_or v i 0 ≡ 0 = get_or-eq_default v 0 (omega arith) in omega arith

  is_exact : stands_exactly Attributes (read_by v (length v) (columns_of (Row Attributes)) 0 false blank).row ≡ true → ExactRow v 0 (length v)
  is_exact e =
      (says_exact_read v 0 (length v) blank (read_row (Row Attributes) v 0 (length v) blank).row bytes (omega arith) (omega arith)
      (omega (arith, zeros_length (row_width Attributes)))
      (λ i. record { answer = read i; row = (read_row (Row Attributes) v 0 (length v) blank).row })).holds e

  not_exact : stands_exactly Attributes (read_by v (length v) (columns_of (Row Attributes)) 0 false blank).row ≡ false → ¬ ExactRow v 0 (length v)
  not_exact e =
      says_fails (says_exact_read v 0 (length v) blank (read_row (Row Attributes) v 0 (length v) blank).row bytes (omega arith) (omega arith)
      (omega (arith, zeros_length (row_width Attributes)))
      (λ i. record { answer = read i; row = (read_row (Row Attributes) v 0 (length v) blank).row })) e

-- the value of a row with 01 to 04 (`top`, 2.5.6.0, a GUID, systemFlags 0x10), a syntax and oMSyntax, and more fields behind
abbrev attribute : ℕ → ℕ → List ℕ → List ℕ
attribute syntax om more =
    field_bytes 1 (116 ∷ 111 ∷ 112 ∷ [])
    ++ (field_bytes 2 (0 ∷ 0 ∷ 0 ∷ 2 ∷ 0 ∷ 0 ∷ 0 ∷ 5 ∷ 0 ∷ 0 ∷ 0 ∷ 6 ∷ 0 ∷ 0 ∷ 0 ∷ 0 ∷ [])
    ++ (field_bytes 3 (replicate 16 17)
    ++ (field_bytes 4 (0 ∷ 0 ∷ 0 ∷ 16 ∷ []) ++ (field_bytes 6 (syntax ∷ []) ++ (field_bytes 7 (om ∷ []) ++ more)))))

abbrev Exact : List ℕ → Type 0
Exact v = ExactRow v 0 (length v)

abbrev Vectors : Type 0
Vectors =
    -- without 08, and with it where oMSyntax is 127
    Exact (attribute 12 64 [])
    × (Exact (attribute 7 127 (field_bytes 8 (42 ∷ [])))
    -- 08 left to its default, and 08 that will be dropped
    × (¬ (Exact (attribute 7 127 [])) × ¬ (Exact (attribute 12 64 (field_bytes 8 (42 ∷ []))))))

vectors : Vectors
unfolding stands_exactly read_row finish read_by onward turn_of took_of row_of field_at header_bytes field_bytes big_endian big_endian_bytes takes possible required
    cell_of lead mark column_width room accepts passes image all_below is_zero part splice zeros padded columns_of own_columns common_columns attribute_columns
vectors = (
  is_exact (attribute 12 64 []) refl refl refl,
  (
    is_exact (attribute 7 127 (field_bytes 8 (42 ∷ []))) refl refl refl,
    (not_exact (attribute 7 127 []) refl refl refl, not_exact (attribute 12 64 (field_bytes 8 (42 ∷ []))) refl refl refl),
  ),
)
