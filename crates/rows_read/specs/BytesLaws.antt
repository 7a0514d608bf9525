-- A row that is read from bytes holds bytes, whatever the answer: each column stores a value that fits its cell, and the first values of
-- oMObjectClass are bytes.
use Rattle.std.specs.Prelude.{Bool, true, false, Some, None, Ok, Err, ◌≡◌, eqb, ltb, length, get_or}
use mathlib.Core.List.{List, [], ◌∷◌}
use Rattle.std.proofs.Math.Path.{refl}
use Prim.Native.Nat.{ℕ, ◌+◌, ◌-◌, ◌*◌, ◌≤◌, ◌<◌}
use Rattle.std.proofs.Math.Decide.{dec_lt}
use Rattle.std.proofs.Common.{arith}
use Rattle.std.proofs.Math.ListN.{get_or-eq_default}
use Rattle.prelude.specs.Below.{all_below}
use Rattle.prelude.specs.BelowLaws.{all_each}
use Rattle.prelude.specs.SaysLaws.{says_lt, choose}
use Rattle.prelude.specs.Part.{part, row_at, splice, zeros, padded, Bytes}
use Rattle.prelude.specs.PartLaws.{part_bytes}
use Rattle.prelude.specs.BytesLaws.{no_bytes, cons_bytes, zeros_bytes, padded_bytes, splice_bytes}
use Rattle.wire.specs.Wire.{field_at}
use Rattle.schema.specs.Layout.{object_class_limit, object_class_at}
use Rattle.schema.specs.ObjectClasses.{entry_width, object_classes, first_entry, first_object_class}
use Rattle.schema.specs.ObjectClassesLaws.{first_short}
use Rattle.schema.specs.AttributeRow.{syntax_of, object_class_length}
use Rattle.schema.specs.declared.number.TableId.TheVariants.{Attributes, Classes}
use Rattle.schema.specs.declared.number.TableId.{TableId}
use Rattle.rows_format.specs.declared.column.Column.{Column}
use Rattle.rows_format.specs.declared.format.Format.{Format}
use Rattle.rows_format.specs.declared.format.Format.TheVariants.{Range, Name, Target, Entry, NewRow, Row}
use Rattle.rows_format.specs.Encodings.{image}
use Rattle.rows_format.specs.Columns.{column_width, cell_of, Sound, laid}
use Rattle.rows_format.proofs.ColumnsLaws.{laid_cons}
use Rattle.rows_format.specs.Formats.{columns_of, format_width}
use Rattle.rows_format.proofs.FormatsLaws.{format_laid}
use Rattle.rows_format.proofs.BytesLaws.{cell_bytes}
use Rattle.wire.specs.FieldRead.{FieldRead}
use Rattle.rows_read.specs.RowRead.{RowRead, Read}
use Rattle.rows_read.specs.Reading.{turn_of, took_of, row_of, Out, onward, read_by}
use Rattle.rows_read.specs.ReadingLaws.{is_taken}
use Rattle.rows_read.specs.ObjectClass.{is_object, object_class_cell, settled, finished, finish, read_row, finished_row}

-- ---- the fields

module _ (s : List ℕ) (bytes : Bytes s) (end : ℕ) where
  -- the column's cell is put in its place, and the rest of the table goes on
  turn_bytes : (r : Column) (rs : List Column) → Sound r → ((at : ℕ) (m : Bool) (row : List ℕ) → Bytes row → Bytes (read_by s end rs at m row).row)
      → (at : ℕ) (m : Bool) (row : List ℕ) → Bytes row
      → Bytes (read_by s end (r ∷ rs) at m row).row
  unfolding read_by onward took_of row_of
  turn_bytes r rs sound rest at m row b = go (turn_of s at r (field_at s at end)) refl
    where
      go : (t : FieldRead) → turn_of s at r (field_at s at end) ≡ t → Bytes (onward (read_by s end rs) (took_of r at m t) (row_of s r row t)).row
      go (Err bad) p = b
      go (Ok None) p = rest at _ (splice r.at (zeros (column_width r)) row) (splice_bytes r.at (zeros (column_width r)) row (zeros_bytes (column_width r)) b)
      go (Ok (Some f)) p =
          let v : List ℕ = part f.start (f.end - f.start) s in
          rest f.end m (splice r.at (cell_of r v) row)
          (splice_bytes r.at (cell_of r v) row
          (cell_bytes r v sound (part_bytes f.start (f.end - f.start) s bytes) (is_taken s r at end f.tag f.start f.end p).takes) b)

  fields_bytes : (columns : List Column) (o n : ℕ) → laid columns o n ≡ true → (at : ℕ) (m : Bool) (row : List ℕ) → Bytes row
      → Bytes (read_by s end columns at m row).row
  fields_bytes [] o n h at m row b = unfold read_by in b
  fields_bytes (r ∷ rs) o n h at m row b =
      let l = laid_cons r rs o n h in
      turn_bytes r rs l.sound (fields_bytes rs (o + column_width r) n l.rest) at m row b

-- ---- oMObjectClass

all_bytes : (s : List ℕ) → all_below (length s) (λ i. ltb (get_or s i 0) 256) ≡ true → Bytes s
all_bytes s h i = go (dec_lt i (length s))
  where
    go : Dec (i < length s) → get_or s i 0 < 256
    go (yes l) = (says_lt (get_or s i 0) 256).holds (all_each (λ k. ltb (get_or s k 0) 256) (length s) h i l)
    go (no g) = let e : get_or s i 0 ≡ 0 = get_or-eq_default s 0 (omega arith) in omega arith

-- computed over the table
each_byte : all_below (length object_classes) (λ i. ltb (get_or object_classes i 0) 256) ≡ true
unfolding all_below object_classes padded zeros
each_byte = refl

first_bytes : (syntax : ℕ) → Bytes (first_object_class syntax)
unfolding first_object_class
first_bytes syntax =
    let k : ℕ = first_entry object_classes syntax in
    let row : List ℕ = row_at 0 entry_width object_classes k in
    part_bytes 2 (get_or row 1 0) row (part_bytes (0 + entry_width * k) entry_width object_classes (all_bytes object_classes each_byte))

object_class_bytes : (v : List ℕ) → Bytes v → length v ≤ object_class_limit → Bytes (object_class_cell v)
unfolding object_class_cell image
object_class_bytes v b h = cons_bytes (length v) (padded object_class_limit v) (omega arith) (padded_bytes object_class_limit v b)

settled_bytes : (row : List ℕ) → Bytes row → Bytes (settled row)
unfolding settled
settled_bytes row b =
    choose (λ (x : List ℕ). Bytes x) (is_object row)
    (λ e. choose (λ (x : List ℕ). Bytes x) (eqb (object_class_length row) 0)
    (λ z. splice_bytes object_class_at (object_class_cell (first_object_class (syntax_of row))) row
    (object_class_bytes (first_object_class (syntax_of row)) (first_bytes (syntax_of row)) (first_short (syntax_of row))) b)
    (λ z. b))
    (λ e. splice_bytes object_class_at (object_class_cell []) row (object_class_bytes [] no_bytes (omega arith)) b)

-- ---- the row

finished_row_bytes : (t : TableId) (row : List ℕ) → Bytes row → Bytes (finished_row t row)
unfolding finished_row
finished_row_bytes Attributes row b = settled_bytes row b
finished_row_bytes Classes row b = b

finished_bytes : (format : Format) (row : List ℕ) → Bytes row → Bytes (finished format row)
unfolding finished
finished_bytes (Row t) row b = finished_row_bytes t row b
finished_bytes (NewRow t) row b = finished_row_bytes t row b
finished_bytes Range row b = b
finished_bytes Name row b = b
finished_bytes Target row b = b
finished_bytes Entry row b = b

pub read_bytes : (format : Format) (s : List ℕ) (start stop : ℕ) (row : List ℕ) → Bytes s → Bytes row → Bytes (read_row format s start stop row).row
unfolding read_row finish
read_bytes format s start stop row bytes b = go fields.answer
  where
    fields : Out
    fields = read_by s stop (columns_of format) start false row

    kept : Bytes fields.row
    kept = fields_bytes s bytes stop (columns_of format) 0 (format_width format) (format_laid format) start false row b

    go : (a : RowRead) → Bytes (finish format a fields.row).row
    go Read = finished_bytes format fields.row kept
    go (Err bad) = kept
