-- Values read, by computation, where two sentences of document 01 meet or what is stored is seen in no call. The gate's scripts (crates/replay/data) have
-- the rest. Each place is said as the length of what stands before it.
use mathlib.Core.List.{List, [], ◌∷◌, ◌++◌}
use mathlib.Core.Path.{◌≡◌, refl}
use Prim.Native.Nat.{ℕ}
use lib.ListN.{length, replicate}
use Rattle.prelude.specs.Below.{any_below, all_below, first_below}
use Rattle.prelude.specs.Part.{part, splice, zeros, padded, is_zero}
use Rattle.prelude.specs.BigEndian.{big_endian, big_endian_bytes}
use Rattle.sets.specs.Sets.{digits_of, set_of}
use Rattle.wire.specs.Wire.{field_at, header_bytes, field_bytes}
use Rattle.schema.specs.ObjectClasses.{object_classes, first_object_class}
use Rattle.schema.specs.Layout.{object_class_at, mandatory_at}
use Rattle.schema.specs.declared.number.TableId.TheVariants.{Attributes, Classes}
use Rattle.rows_format.specs.declared.format.Format.{Format}
use Rattle.rows_format.specs.declared.format.Format.TheVariants.{Row}
use Rattle.prelude.specs.Unlike.{among}
use Rattle.rows_format.specs.Entries.{entries, rises_below}
use Rattle.rows_format.specs.Encodings.{passes, accepts, image, room}
use Rattle.rows_format.specs.Columns.{lead, mark, required, possible, column_width, takes, cell_of}
use Rattle.rows_format.specs.Formats.{common_columns, attribute_columns, class_columns}
use Rattle.rows_format.specs.Formats.{columns_of, format_width, own_columns}
use Rattle.rows_read.specs.RowRead.{RowRead}
use Rattle.rows_read.specs.RowRead.{Bad}
use Rattle.rows_read.specs.Reading.{turn_of, took_of, row_of, onward, read_by}
use Rattle.rows_read.specs.ObjectClass.{object_class_cell, settled, finished, finish, read_row, finished_row}

-- a value read into a row of zeros
answer : Format → List ℕ → RowRead
answer format v = (read_row format v 0 (length v) (zeros (format_width format))).answer

-- n bytes of the row that it becomes
stored : ℕ → ℕ → Format → List ℕ → List ℕ
stored at n format v = part at n (read_row format v 0 (length v) (zeros (format_width format))).row

abbrev field : ℕ → List ℕ → List ℕ
field tag v = field_bytes tag v

-- 01 to 04: `top`, 2.5.6.0, a GUID, systemFlags 0x10
abbrev common : List ℕ
common =
    field 1 (116 ∷ 111 ∷ 112 ∷ [])
    ++ (field 2 (0 ∷ 0 ∷ 0 ∷ 2 ∷ 0 ∷ 0 ∷ 0 ∷ 5 ∷ 0 ∷ 0 ∷ 0 ∷ 6 ∷ 0 ∷ 0 ∷ 0 ∷ 0 ∷ [])
    ++ (field 3 (replicate 16 17) ++ field 4 (0 ∷ 0 ∷ 0 ∷ 16 ∷ [])))

-- an attribute of a syntax and oMSyntax; a class of category 2 under row 0; an attribute without 07
abbrev attribute : ℕ → ℕ → List ℕ
attribute syntax om = common ++ (field 6 (syntax ∷ []) ++ field 7 (om ∷ []))

abbrev class : List ℕ
class = common ++ (field 16 (2 ∷ []) ++ field 17 (0 ∷ 0 ∷ []))

abbrev short : List ℕ
short = common ++ field 6 (12 ∷ [])

abbrev Vectors : Type 0
Vectors =
    -- 07 is missing, but 09 cannot be accepted: the missing field is told only where the rest of its value is sound
    (answer (Row Attributes) (short ++ field 9 (1 ∷ [])) ≡ Bad (length short))
    -- doubled: the second one, and not the end, though 07 comes behind it
    × (answer (Row Attributes) (short ++ (field 6 (12 ∷ []) ++ field 7 (64 ∷ []))) ≡ Bad (length short))
    -- a name at its limit is sound: what is missing is told, by the end
    × (answer (Row Attributes) (field 1 (replicate 64 97)) ≡ Bad 67)
    -- the bytes of a set: 1, 9 and 255
    × (stored mandatory_at 3 (Row Classes) (class ++ field 19 (0 ∷ 1 ∷ 0 ∷ 9 ∷ 0 ∷ 255 ∷ [])) ≡ 2 ∷ 2 ∷ 0 ∷ [])
    -- oMObjectClass: unreadable though it would be dropped; none for a syntax without one, which no call shows, since 26 refuses the row
    × (answer (Row Attributes) (attribute 12 64 ++ field 8 (replicate 17 42)) ≡ Bad (length (attribute 12 64)))
    × (stored object_class_at 3 (Row Attributes) (attribute 2 127) ≡ 0 ∷ 0 ∷ 0 ∷ [])

vectors : Vectors
unfolding answer stored read_row finish finished finished_row settled first_object_class object_classes first_below any_below object_class_cell read_by
    onward turn_of took_of row_of field_at header_bytes field_bytes big_endian big_endian_bytes takes possible required cell_of lead mark column_width room
    accepts passes image entries rises_below among set_of digits_of all_below is_zero part splice zeros padded columns_of own_columns format_width
    common_columns attribute_columns class_columns
vectors = (refl, refl, refl, refl, refl, refl)
