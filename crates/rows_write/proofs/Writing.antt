-- What is written, as the code writes it.
use mathlib.Core.Bool.{Bool, true, false}
use mathlib.Core.List.{List, []}
use mathlib.Core.Path.{◌≡◌, refl, sym, ap, ◌∙◌}
use Prim.Native.Nat.{ℕ, ◌+◌, ◌-◌, ◌*◌, ◌≤◌, ◌<◌}
use native.Mathlib.Omega.{arith}
use lib.ListN.{length, get_or, take, drop, length-drop}
use Rattle.prelude.specs.Part.{part, splice}
use Rattle.prelude.specs.PartLaws.{part_length}
use Rattle.prelude.specs.SpliceLaws.{splice_append}
use Rattle.prelude.specs.BigEndian.{big_endian_bytes}
use Rattle.prelude.specs.BigEndianLaws.{bytes_length}
use Rattle.sets.specs.Sets.{members_from, member_count}
use Rattle.wire.specs.Wire.{header_bytes, field_bytes}
use Rattle.wire.specs.WireLaws.{header_length}
use Rattle.schema.specs.declared.number.TableId.{TableId}
use Rattle.rows_format.proofs.ShortLaws.{field_bound}
use Rattle.rows_format.specs.declared.column.Test.{Test}
use Rattle.rows_format.specs.declared.column.Encoding.{Encoding}
use Rattle.rows_format.specs.declared.column.Encoding.TheVariants.{Plain, Number, Counted, Arcs, Entries}
use Rattle.rows_format.specs.declared.column.Column.{Column}
use Rattle.rows_format.specs.Entries.{entry_bytes}
use Rattle.rows_format.specs.EntriesLaws.{entry_length, members_count}
use Rattle.rows_format.specs.Encodings.{stored, room, holds, sound}
use Rattle.rows_format.specs.EncodingsLaws.{room_small, Holds, says_holds, stored_short}
use Rattle.rows_format.specs.declared.format.Format.{Format}
use Rattle.rows_format.specs.Formats.{columns_of}
use Rattle.rows_format.specs.Columns.{mark, column_width, cell_at, has_value, value_of, well_formed_cell, well_formed_by, field_of, Sound, Fits}
use Rattle.rows_format.proofs.ColumnsLaws.{cell_at_length, formed_at, field_none, field_some, width_small}
use Rattle.rows_read.proofs.Checking.{rest_of}

-- ---- a cell that holds a value of a encoding

abbrev pub Holding : Encoding → List ℕ → Type 0
Holding encoding cell = (sound encoding ≡ true) × (length cell ≡ room encoding) × (holds encoding cell ≡ true)

module _ {encoding : Encoding} (cell : List ℕ) where
  pub stored_plain : {len : ℕ} {test : Test} → encoding ≡ Plain len test → stored encoding cell ≡ cell
  unfolding stored
  stored_plain e = rw e

  pub stored_number : {table : TableId} {b : ℕ} → encoding ≡ Number table → b ≡ get_or cell 0 0 → stored encoding cell ≡ big_endian_bytes 2 b
  unfolding stored
  stored_number e q = rw (e, q)

  pub stored_counted : {least most b : ℕ} → encoding ≡ Counted least most → b ≡ get_or cell 0 0 → stored encoding cell ≡ part 1 b cell
  unfolding stored
  stored_counted e q = rw (e, q)

  pub stored_arcs : {most b : ℕ} → encoding ≡ Arcs most → b ≡ get_or cell 0 0 → stored encoding cell ≡ part 1 (b * 4) cell
  unfolding stored
  stored_arcs e q = rw (e, q)

  pub stored_entries : {table : TableId} → encoding ≡ Entries table → stored encoding cell ≡ entry_bytes (members_from 0 cell)
  unfolding stored
  stored_entries e = rw e

  pub counted_inside : {least most b : ℕ} → encoding ≡ Counted least most → Holding encoding cell → b ≡ get_or cell 0 0 → 1 + b ≤ length cell
  unfolding room
  counted_inside {least} {most} e h q =
      let t : Holds (Counted least most) cell = (says_holds (Counted least most) cell).holds (rw e at h.2) in
      omega (arith, t.1.0, h.1 ∙ ap room e)

  pub arcs_inside : {most b : ℕ} → encoding ≡ Arcs most → Holding encoding cell → b ≡ get_or cell 0 0 → 1 + b * 4 ≤ length cell
  unfolding room
  arcs_inside {most} e h q =
      let t : Holds (Arcs most) cell = (says_holds (Arcs most) cell).holds (rw e at h.2) in
      omega (arith, t.0, h.1 ∙ ap room e)

  -- the length of the value
  pub plain_count : {len : ℕ} {test : Test} → encoding ≡ Plain len test → length cell ≡ length (stored encoding cell)
  plain_count e = sym (ap length (stored_plain e))

  pub number_count : {table : TableId} → encoding ≡ Number table → 2 ≡ length (stored encoding cell)
  number_count e = sym (ap length (stored_number e refl) ∙ bytes_length 2 (get_or cell 0 0))

  pub counted_count : {least most b : ℕ} → encoding ≡ Counted least most → Holding encoding cell → b ≡ get_or cell 0 0 → b ≡ length (stored encoding cell)
  counted_count {b = b} e h q = sym (ap length (stored_counted e q) ∙ part_length 1 b cell (counted_inside e h q))

  pub arcs_count : {most b : ℕ} → encoding ≡ Arcs most → Holding encoding cell → b ≡ get_or cell 0 0 → b * 4 ≡ length (stored encoding cell)
  arcs_count {b = b} e h q = sym (ap length (stored_arcs e q) ∙ part_length 1 (b * 4) cell (arcs_inside e h q))

  pub entries_count : {table : TableId} {n : ℕ} → encoding ≡ Entries table → n ≡ member_count cell → n * 2 ≡ length (stored encoding cell)
  entries_count e q = sym (ap length (stored_entries e) ∙ entry_length (members_from 0 cell) ∙ ap (λ (k : ℕ). k * 2) (members_count cell ∙ sym q))

pub holding_small : (encoding : Encoding) (cell : List ℕ) → Holding encoding cell → length cell ≤ 254
holding_small encoding cell h = omega (arith, h.1, room_small encoding h.0)

pub holding_short : (encoding : Encoding) (cell : List ℕ) → Holding encoding cell → length (stored encoding cell) < 65536
holding_short encoding cell h = stored_short encoding cell h.0 h.1

-- the header, and then the value
pub field_put : (at tag : ℕ) (v out head whole : List ℕ) → at + 3 ≤ length out → head ≡ splice at (header_bytes tag (length v)) out → whole
    ≡ splice (at + 3) v head
    → whole ≡ splice at (field_bytes tag v) out
unfolding field_bytes
field_put at tag v out head whole h p q =
    let three : length (header_bytes tag (length v)) ≡ 3 = header_length tag (length v) in
    q ∙ ap (splice (at + 3) v) p ∙ ap (λ (n : ℕ). splice (at + n) v (splice at (header_bytes tag (length v)) out)) (sym three)
    ∙ splice_append at (header_bytes tag (length v)) out (omega arith) v

-- ---- the field of a column in a row

-- the value's cell: behind the mark, as the language cuts it
pub rest_holding : (r : Column) (cell : List ℕ) {h : Bool} {m : ℕ} → Sound r → length cell ≡ column_width r → well_formed_cell r cell ≡ true → h
    ≡ has_value r.presence cell → h ≡ true
    → m ≡ mark r.presence → Holding r.encoding (take (length cell - m) (drop m cell))
    × (stored r.encoding (take (length cell - m) (drop m cell)) ≡ value_of r cell)
unfolding well_formed_cell value_of column_width
rest_holding r cell {m = m} s l f e t q =
    rw (rest_of m cell, q) ((s.encoding, simp length-drop (omega arith), rw (sym e ∙ t) at f), refl)

pub field_short : (r : Column) (row : List ℕ) → Fits (length row) r → length (field_of r row) ≤ 65538
field_short r row k = omega (arith, field_bound r row, width_small r k.sound)

-- the cell of a column, as it was found
pub record CellOf (r : Column) (row cell : List ℕ) : Type 0 where
  pub same : cell ≡ cell_at r row
  pub long : length cell ≡ column_width r
  pub formed : well_formed_cell r cell ≡ true

pub cell_of_lem : (r : Column) (row cell : List ℕ) → cell ≡ cell_at r row → Fits (length row) r → well_formed_cell r (cell_at r row) ≡ true
    → CellOf r row cell
cell_of_lem r row cell e k f = record { same = e; long = ap length e ∙ cell_at_length r row k; formed = ap (well_formed_cell r) e ∙ f }

pub mark_within : (r : Column) (row cell : List ℕ) {m : ℕ} → CellOf r row cell → m ≡ mark r.presence → m ≤ length cell
unfolding column_width
mark_within r row cell c e = omega (arith, c.long)

pub field_has : (r : Column) (row cell : List ℕ) {h : Bool} {m : ℕ} → Sound r → CellOf r row cell → h ≡ has_value r.presence cell → h ≡ true → m
    ≡ mark r.presence
    → Holding r.encoding (take (length cell - m) (drop m cell))
    × (field_of r row ≡ field_bytes r.tag (stored r.encoding (take (length cell - m) (drop m cell))))
field_has r row cell s c e t q =
    let h = rest_holding r cell s c.long c.formed e t q in (
      h.0,
      field_some r row (ap (has_value r.presence) (sym c.same) ∙ sym e ∙ t)
          ∙ ap (field_bytes r.tag) (ap (value_of r) (sym c.same) ∙ sym h.1),
    )

pub field_hasnt : (r : Column) (row cell : List ℕ) {h : Bool} → CellOf r row cell → h ≡ has_value r.presence cell → h ≡ false → field_of r row ≡ []
field_hasnt r row cell c e t = field_none r row (ap (has_value r.presence) (sym c.same) ∙ sym e ∙ t)

-- the column that a loop over a format's table has come to, in a well-formed row
pub formed_item : (format : Format) (items : List Column) (i : ℕ) (none : Column) (row : List ℕ) → items ≡ columns_of format → i < length items
    → well_formed_by (columns_of format) row ≡ true → well_formed_cell (get_or items i none) (cell_at (get_or items i none) row) ≡ true
formed_item format items i none row e l f = formed_at items none row i (rw e f) l
