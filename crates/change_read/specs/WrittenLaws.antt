-- A well-formed change that is written is read as that change; and what is read is well-formed, so every change that can be read comes of one that is written.
use mathlib.Core.List.{List, [], append-nil}
use Rattle.std.specs.Prelude.{◌≡◌, drop}
use Rattle.std.proofs.Math.Path.{sym, ap}
use Rattle.std.proofs.Common.{◌∙◌, arith, drop_at}
use Prim.Native.Nat.{ℕ, ◌+◌, ◌-◌, ◌≤◌}
use Rattle.std.proofs.Math.ListN.{length}
use borrow.Author.Tests.{eq-eqb}
use Rattle.prelude.specs.Part.{zeros}
use Rattle.prelude.specs.PartLaws.{zeros_add, zeros_length}
use Rattle.wire.specs.Wire.{field_at, field_bytes, header_bytes}
use Rattle.wire.specs.WireLaws.{field_length, field_read, header_length}
use Rattle.schema.specs.Layout.{class_width}
use Rattle.rows_format.specs.declared.format.Format.{Format}
use Rattle.rows_format.specs.Columns.{write_by}
use Rattle.rows_format.specs.Formats.{columns_of, format_width}
use Rattle.rows_format.proofs.ShortLaws.{written_short}
use Rattle.rows_read.specs.Reading.{out}
use Rattle.rows_read.specs.ObjectClass.{read_row}
use Rattle.rows_read.specs.RoundTripLaws.{written_value_read}
use Rattle.change_read.specs.declared.read.Change.{Change}
use Rattle.change_read.specs.Reading.{format_of, scratch, whole_read, read_value, tagged_out, field_out, read_change}
use Rattle.change_read.specs.ChangeLaws.{Reads, format_fits_row, scratch_length}
use Rattle.change_read.specs.Stopping.{change_tag}
use Rattle.change_read.specs.TagLaws.{tag_known}
use Rattle.change_read.specs.Written.{change_bytes, WellFormedChange}
use Rattle.wire.specs.FieldRead as fields
use Rattle.rows_read.specs.RowRead as rows

pub zeros_behind : (n m : ℕ) → n ≤ m → drop n (zeros m) ≡ zeros (m - n)
zeros_behind n m l =
    let whole : m ≡ n + (m - n) = omega arith in
    ap (λ (k : ℕ). drop n (zeros k)) whole ∙ ap (drop n) (zeros_add n (m - n)) ∙ drop_at (zeros n) (zeros (m - n)) n (zeros_length n)

-- ---- written, then read

module _ (change : Change) (carried : List ℕ) (h : WellFormedChange change carried) where
  abbrev format : Format
  format = format_of change

  abbrev value : List ℕ
  value = write_by (columns_of format) carried

  abbrev field : List ℕ
  field = field_bytes (change_tag change) value

  -- the scratch row has nothing behind the cells either
  same_rest : drop (format_width format) scratch ≡ drop (format_width format) carried
  same_rest = zeros_behind (format_width format) class_width (format_fits_row change) ∙ sym h.bare

  whole : length field ≡ 3 + length value
  whole = field_length (change_tag change) value

  front : field_at field 0 (length field) ≡ fields.Field (change_tag change) 3 (3 + length value)
  front =
      rw (append-nil field) at (field_read [] [] (change_tag change) value (length field) (written_short format carried) (omega (arith, whole)))

  carried_read : read_row format field 3 (3 + length value) scratch ≡ out rows.Read carried
  unfolding field_bytes
  carried_read =
      let header : List ℕ = header_bytes (change_tag change) (length value) in
      let three : length header ≡ 3 = header_length (change_tag change) (length value) in
      rw (append-nil value, three) at
      (written_value_read format header [] carried scratch h.bytes (omega (arith, h.wide, format_fits_row change)) (scratch_length ∙ sym h.wide)
      same_rest h.formed) ∙ ap (out rows.Read) h.settled

  -- what is written is read as the change that it is
  pub change_back : Reads (change_bytes change carried) change carried
  unfolding change_bytes read_change field_out tagged_out read_value whole_read
  change_back = rw (front, tag_known change, carried_read, eq-eqb (3 + length value) (length field) (sym whole))
