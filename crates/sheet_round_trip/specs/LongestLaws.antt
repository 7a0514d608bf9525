-- No sheet that is read or written is longer than `longest_sheet`, and no row in it longer than `longest_row`.
use Rattle.std.specs.Prelude.{Bool, cond, ◌⊎◌, ◌≡◌, get_or, drop}
use Rattle.std.proofs.Math.Bool.{true, false}
use Rattle.std.proofs.Common.{true≢false, inl, inr, sym, ◌∙◌, length-append, length-drop, length-take}
use mathlib.Core.List.{List, [], ◌∷◌, ◌++◌}
use Rattle.std.proofs.Math.Path.{refl, ap}
use Prim.Native.Nat.{ℕ, zero, suc, ◌+◌, ◌-◌, ◌*◌, ◌≤◌}
use native.Mathlib.Omega.{arith}
use Rattle.std.proofs.Math.ListN.{length}
use Rattle.prelude.specs.Concat.{concat_below}
use Rattle.prelude.specs.Part.{part, zeros, Bytes}
use Rattle.prelude.specs.PartLaws.{part_length, part_short, zeros_length}
use Rattle.prelude.specs.BigEndianLaws.{bytes_length}
use Rattle.prelude.specs.SaysLaws.{says_and, says_eq, true_or_false}
use Rattle.sets.specs.Sets.{members_from}
use Rattle.wire.specs.WireLaws.{field_is, field_length}
use Rattle.schema.specs.declared.number.TableId.{TableId}
use Rattle.schema.specs.declared.number.TableId.TheVariants.{Attributes, Classes}
use Rattle.schema.specs.Numbers.{limit}
use Rattle.schema.specs.Layout.{row_width}
use Rattle.schema.specs.LayoutLaws.{set_bits}
use Rattle.schema.specs.Store.{Schema, Table}
use Rattle.rows_format.specs.declared.column.Column.{Column}
use Rattle.rows_format.specs.declared.column.Encoding.{Encoding}
use Rattle.rows_format.specs.declared.column.Encoding.TheVariants.{Plain, Number, Counted, Arcs, Entries}
use Rattle.rows_format.specs.declared.format.Format.{Format}
use Rattle.rows_format.specs.Encodings.{room, stored}
use Rattle.rows_format.specs.EntriesLaws.{entry_length, members_few}
use Rattle.rows_format.specs.Columns.{mark, column_width, cell_at, has_value, value_of, field_of, write_by}
use Rattle.rows_format.proofs.ColumnsLaws.{field_none, field_some}
use Rattle.rows_format.specs.Formats.{attribute_columns, class_columns, columns_of, common_columns, format_width, own_columns}
use Rattle.rows_read.specs.Reading.{out, read_by}
use Rattle.rows_read.specs.RoundTripLaws.{fields_back, row_read_lem}
use Rattle.sheet_read.specs.declared.read.Phase.{Phase}
use Rattle.sheet_read.specs.declared.read.Phase.TheVariants.{InRows}
use Rattle.sheet_read.specs.SheetRead.{Read}
use Rattle.sheet_read.specs.Reading.{Rows, heading_open, is_heading, plus, position, read_sheet, row_out}
use Rattle.sheet_read.specs.ReadingLaws.{sheet_sound}
use Rattle.sheet_read.specs.Stopping.{row_tag}
use Rattle.sheet_write.specs.Writing.{heading, row_field, row_fields, sheet_bytes}
use Rattle.sheet_round_trip.specs.Longest.{longest_row, longest_sheet}
use Rattle.sheet_round_trip.specs.WalkLaws.{Goes, accepted_ends}
use Rattle.rows_read.specs.RowRead as row

-- ---- one row

-- the longest value of an encoding
unfoldable longest_value : Encoding → ℕ
longest_value (Plain len test) = len
longest_value (Number table) = 2
longest_value (Counted least most) = most
longest_value (Arcs most) = most * 4
longest_value (Entries table) = limit table * 2

-- a field of each column, all of them as long as can be
unfoldable longest_fields : List Column → ℕ
longest_fields [] = 0
longest_fields (r ∷ rs) = 3 + longest_value r.encoding + longest_fields rs

behind_first : (n : ℕ) (cell : List ℕ) → length (part 1 n cell) ≤ length cell - 1
unfolding part
behind_first n cell = simp (length-take, length-drop) (omega arith)

stored_longest : (encoding : Encoding) (cell : List ℕ) → length cell ≤ room encoding → length (stored encoding cell) ≤ longest_value encoding
unfolding stored room longest_value
stored_longest (Plain len test) cell l = l
stored_longest (Number table) cell l = omega (arith, bytes_length 2 (get_or cell 0 0))
stored_longest (Counted least most) cell l = omega (arith, behind_first (get_or cell 0 0) cell)
stored_longest (Arcs most) cell l = omega (arith, behind_first (get_or cell 0 0 * 4) cell)
stored_longest (Entries table) cell l = omega (arith, entry_length (members_from 0 cell), members_few cell, set_bits table)

value_longest : (r : Column) (row : List ℕ) → length (value_of r (cell_at r row)) ≤ longest_value r.encoding
unfolding value_of cell_at column_width
value_longest r row =
    let cell : List ℕ = part r.at (mark r.presence + room r.encoding) row in
    stored_longest r.encoding (drop (mark r.presence) cell)
    (omega (arith, length-drop (mark r.presence) cell, (part_short r.at (mark r.presence + room r.encoding) row).0))

field_longest : (r : Column) (row : List ℕ) → length (field_of r row) ≤ 3 + longest_value r.encoding
field_longest r row = go (true_or_false (has_value r.presence (cell_at r row)))
  where
    go : (has_value r.presence (cell_at r row) ≡ true) ⊎ (has_value r.presence (cell_at r row) ≡ false)
        → length (field_of r row) ≤ 3 + longest_value r.encoding
    go (inl q) = omega (arith, ap length (field_some r row q), field_length r.tag (value_of r (cell_at r row)), value_longest r row)
    go (inr q) = omega (arith, ap length (field_none r row q))

table_longest : (columns : List Column) (row : List ℕ) → length (write_by columns row) ≤ longest_fields columns
unfolding write_by longest_fields
table_longest [] row = omega arith
table_longest (r ∷ rs) row = omega (arith, length-append (field_of r row) (write_by rs row), field_longest r row, table_longest rs row)

-- the fields of a row, with the header of the row's own field
row_longest : (t : TableId) (row : List ℕ) → 3 + length (write_by (columns_of (Format.Row t)) row) ≤ longest_row t
row_longest t row = omega (arith, table_longest (columns_of (Format.Row t)) row, summed t)
  where
    summed : (t : TableId) → 3 + longest_fields (columns_of (Format.Row t)) ≤ longest_row t
    summed Attributes = unfold longest_fields longest_value columns_of own_columns common_columns attribute_columns in (omega arith)
    summed Classes = unfold longest_fields longest_value columns_of own_columns common_columns class_columns in (omega arith)

-- ---- a sheet that is written

rows_longest : (t : TableId) (n : ℕ) (f : ℕ → List ℕ) → ((k : ℕ) → length (f k) ≤ longest_row t) → length (concat_below n f) ≤ longest_row t * n
unfolding concat_below
rows_longest Attributes zero f h = omega arith
rows_longest Attributes (suc n) f h = omega (arith, length-append (concat_below n f) (f n), rows_longest Attributes n f h, h n)
rows_longest Classes zero f h = omega arith
rows_longest Classes (suc n) f h = omega (arith, length-append (concat_below n f) (f n), rows_longest Classes n f h, h n)

fields_longest : (t : TableId) (x : Table) → length (row_fields t x) ≤ longest_row t * x.count
unfolding row_fields row_field
fields_longest t x = rows_longest t x.count _
    (λ k. omega (arith, row_longest t (x.row k), field_length (row_tag t) (write_by (columns_of (Format.Row t)) (x.row k))))

pub written_longest : (m : Schema) → m.attributes.count ≤ limit Attributes → m.classes.count ≤ limit Classes → length (sheet_bytes m) ≤ longest_sheet
unfolding sheet_bytes heading
written_longest m a c =
    omega (
      arith,
      length-append heading (row_fields Attributes m.attributes ++ row_fields Classes m.classes),
      length-append (row_fields Attributes m.attributes) (row_fields Classes m.classes),
      fields_longest Attributes m.attributes,
      fields_longest Classes m.classes,
      field_length 1 (1 ∷ []),
    )

-- ---- a sheet that is read

-- how many bytes the heading and the rows so far can have
record Within (at : ℕ) (phase : Phase) (missing : Bool) (x : Rows) : Type 0 where
  late : missing ≡ false → heading_open phase ≡ false
  few : at ≤ cond missing 0 4 + longest_row Attributes * length x.attributes + longest_row Classes * length x.classes

module _ (s : List ℕ) (bytes : Bytes s) where
  row_size : (t : TableId) (start stop : ℕ) → stop ≤ length s → start ≤ stop → row_out t s start stop ≡ out row.Read (row_out t s start stop).row
      → 3 + (stop - start) ≤ longest_row t
  unfolding format_width
  row_size t start stop within from read =
      let blank : List ℕ = zeros (row_width t) in
      let raw : List ℕ = (read_by s stop (columns_of (Format.Row t)) start false blank).row in
      let back = fields_back (Format.Row t) s start stop blank raw bytes within (omega (arith, zeros_length (row_width t)))
      (row_read_lem (Format.Row t) s start stop blank _ read).0 in
      omega (arith, row_longest t raw, ap length back.1.1, part_length start (stop - start) s (omega arith))

  rows_late : (t : TableId) → heading_open (InRows t) ≡ false
  unfolding heading_open position
  rows_late Attributes = refl
  rows_late Classes = refl

  heading_size : (at start stop : ℕ) (phase : Phase) (missing : Bool) (x : Rows) → start ≡ at + 3 → heading_open phase ≡ true
      → is_heading s start stop ≡ true → Within at phase missing x → Within stop (InRows Attributes) false x
  unfolding is_heading
  heading_size at start stop phase false x e o h w = absurd (true≢false (sym o ∙ w.late refl))
  heading_size at start stop phase true x e o h w =
      let one = ((says_and (says_eq (stop - start) 1) (says_eq (get_or s start 0) 1)).holds h).0 in
      record { late = λ q. rows_late Attributes; few = omega (arith, w.few) }

  row_within : (t : TableId) (at stop : ℕ) (phase : Phase) (missing : Bool) (x : Rows) (new : List ℕ) → stop ≤ at + longest_row t
      → Within at phase missing x → Within stop (InRows t) missing (plus t new x)
  row_within Attributes at stop phase missing x new l w =
      record { late = λ q. rows_late Attributes; few = omega (arith, w.few, length-append x.attributes (new ∷ [])) }
  row_within Classes at stop phase missing x new l w =
      record { late = λ q. rows_late Classes; few = omega (arith, w.few, length-append x.classes (new ∷ [])) }

  goes : Goes s Within
  goes = record {
    heading = λ at phase missing x tag start stop f known o h w. (let i = field_is s at (length s) tag start stop f in
        heading_size at start stop phase missing x i.start_is o h w);
    row = λ at phase missing x tag start stop f t known o read w. (let i = field_is s at (length s) tag start stop f in
        row_within t at stop phase missing x (row_out t s start stop).row
        (omega (arith, i.start_is, i.stop_is, row_size t start stop i.within (omega (arith, i.start_is, i.stop_is)) read)) w);
  }

  pub read_longest : (read_sheet s).answer ≡ Read → length s ≤ longest_sheet
  unfolding heading_open position
  read_longest e =
      let last = accepted_ends s Within goes (record { late = λ q. absurd (true≢false q); few = omega arith }) e in
      omega (arith, last.holds.few, (sheet_sound s bytes Attributes).fit.few, (sheet_sound s bytes Classes).fit.few)
