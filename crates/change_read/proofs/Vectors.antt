-- Changes read, by computation, where two sentences of document 01 meet. The gate's scripts (crates/replay/data) have the rest.
use mathlib.Core.List.{List, [], ◌∷◌, ◌++◌}
use mathlib.Core.Path.{◌≡◌, refl}
use Prim.Native.Nat.{ℕ}
use lib.ListN.{replicate}
use Rattle.prelude.specs.Below.{any_below, all_below, first_below}
use Rattle.prelude.specs.Part.{part, splice, zeros, padded, is_zero}
use Rattle.prelude.specs.BigEndian.{big_endian, big_endian_bytes}
use Rattle.wire.specs.Wire.{field_at, header_bytes, field_bytes}
use Rattle.schema.specs.ObjectClasses.{object_classes, first_object_class}
use Rattle.rows_format.specs.Encodings.{passes, accepts, image, room}
use Rattle.rows_format.specs.Columns.{lead, mark, required, possible, column_width, takes, cell_of}
use Rattle.rows_format.specs.Formats.{own_columns, common_columns, attribute_columns, class_columns, range_columns, name_columns, target_columns}
use Rattle.rows_format.specs.Formats.{entry_columns, columns_of}
use Rattle.rows_read.specs.Reading.{turn_of, took_of, row_of, onward, read_by}
use Rattle.rows_read.specs.ObjectClass.{object_class_cell, settled, finished, finished_row, finish, read_row}
use Rattle.change_read.specs.ChangeRead.{ChangeRead}
use Rattle.change_read.specs.ChangeRead.{Bad}
use Rattle.change_read.specs.Reading.{change_of, format_of, whole_read, read_value, tagged_out, field_out, read_change}
use Rattle.change_read.specs.Carried.{new_range}

-- a change read into a row of zeros
answer : List ℕ → ChangeRead
answer s = (read_change s).answer

abbrev field : ℕ → List ℕ → List ℕ
field tag v = field_bytes tag v

-- row 7; an end of a range
abbrev target : List ℕ
target = field 32 (0 ∷ 7 ∷ [])

abbrev lower : List ℕ
lower = field 10 (0 ∷ 0 ∷ 0 ∷ 0 ∷ [])

abbrev Vectors : Type 0
Vectors =
    -- an end not given is carried as absent, its bytes zero
    (new_range (read_change (field 66 (target ++ field 11 (255 ∷ 255 ∷ 255 ∷ 255 ∷ [])))).row ≡ replicate 5 0 ++ (1 ∷ 255 ∷ 255 ∷ 255 ∷ 255 ∷ []))
    -- cut: its value is not looked at
    × (answer (69 ∷ 0 ∷ 6 ∷ target) ≡ Bad 0)
    -- bytes behind the field are told after everything inside is sound; a missing field has the same place as they
    × (answer (field 69 (field 32 (7 ∷ [])) ++ (0 ∷ [])) ≡ Bad 3)
    × (answer (field 67 target ++ (0 ∷ [])) ≡ Bad 8)
    -- the target missing, and late: the same place
    × (answer (field 66 lower) ≡ Bad 10)
    × (answer (field 66 (lower ++ target)) ≡ Bad 10)

vectors : Vectors
unfolding answer read_change field_out tagged_out read_value whole_read change_of format_of read_row finish finished finished_row settled first_object_class
    object_classes first_below any_below object_class_cell read_by onward turn_of took_of row_of field_at header_bytes field_bytes big_endian big_endian_bytes takes
    possible required cell_of lead mark column_width room accepts passes image all_below is_zero part splice zeros padded columns_of own_columns
    common_columns attribute_columns class_columns range_columns name_columns target_columns entry_columns
vectors = (refl, refl, refl, refl, refl, refl)
