-- Rows that are written as a sheet are read back from it.
use Rattle.std.specs.Prelude.{true, false, ◌≡◌}
use mathlib.Core.List.{List, [], ◌∷◌, ◌++◌, append_assoc, append-nil}
use Rattle.std.proofs.Math.Path.{refl, ap}
use Rattle.std.proofs.Common.{sym, subst, ◌∙◌, arith}
use Prim.Native.Nat.{ℕ, ◌+◌, ◌≤◌, ◌<◌}
use Rattle.std.proofs.Math.ListN.{length, length-append}
use Rattle.prelude.specs.Part.{zeros, Bytes}
use Rattle.prelude.specs.PartLaws.{zeros_length}
use Rattle.prelude.specs.BigEndian.{big_endian_bytes}
use Rattle.wire.specs.Wire.{field_at, field_bytes, header_bytes}
use Rattle.wire.specs.WireLaws.{field_length, field_read, header_length}
use Rattle.schema.specs.declared.number.TableId.{TableId}
use Rattle.schema.specs.declared.number.TableId.TheVariants.{Attributes, Classes}
use Rattle.schema.specs.Numbers.{limit}
use Rattle.schema.specs.Layout.{row_width}
use Rattle.tables.specs.Filled.{AllWide}
use Rattle.rows_format.specs.declared.format.Format.{Format}
use Rattle.rows_format.specs.Columns.{write_by}
use Rattle.rows_format.specs.Formats.{columns_of}
use Rattle.rows_format.proofs.ShortLaws.{written_short}
use Rattle.rows_read.specs.Reading.{out}
use Rattle.rows_read.specs.WellFormed.{well_formed}
use Rattle.rows_read.specs.RoundTripLaws.{written_row_read}
use Rattle.sheet_read.proofs.AcceptedLaws.{row_tag_lem}
use Rattle.sheet_read.specs.declared.read.Phase.{Phase}
use Rattle.sheet_read.specs.declared.read.Phase.TheVariants.{Start, InRows}
use Rattle.sheet_read.specs.SheetRead.{Read}
use Rattle.sheet_read.specs.Reading.{Rows, rows, no_rows, rows_in, plus, schema_from, sheet_tag, position, heading_open, rows_open, is_heading, row_out}
use Rattle.sheet_read.specs.Reading.{sheet_out, read_sheet}
use Rattle.sheet_read.specs.ReadingLaws.{AllRows, Sound}
use Rattle.sheet_read.proofs.TurnLaws.{Stands, stands_start, stands_end, stands_on, heading_turn, row_turn_lem}
use Rattle.sheet_read.specs.Stopping.{row_tag}
use Rattle.sheet_write.specs.Writing.{heading, row_field, sheet_bytes}
use Rattle.sheet_round_trip.specs.RowLaws.{written, sheet_of_lem, plus_all, all_attributes, all_classes}
use Rattle.wire.specs.FieldRead as fields
use Rattle.rows_read.specs.RowRead as row

-- ---- one row

module _ (t : TableId) (new p q : List ℕ) where
  abbrev value : List ℕ
  value = write_by (columns_of (Format.Row t)) new

  abbrev sheet : List ℕ
  sheet = p ++ (row_field t new ++ q)

  field_size : length (row_field t new) ≡ 3 + length value
  unfolding row_field
  field_size = field_length (row_tag t) value

  field_there : field_at sheet (length p) (length sheet) ≡ fields.Field (row_tag t) (length p + 3) (length p + 3 + length value)
  field_there = go (omega (arith, length-append p (row_field t new ++ q), length-append (row_field t new) q, field_size))
    where
      go : length p + 3 + length value ≤ length sheet → field_at sheet (length p) (length sheet)
          ≡ fields.Field (row_tag t) (length p + 3) (length p + 3 + length value)
      go h = unfold row_field in (field_read p q (row_tag t) value (length sheet) (written_short (Format.Row t) new) h)

  row_there : length new ≡ row_width t → well_formed t new ≡ true → Bytes new → row_out t sheet (length p + 3) (length p + 3 + length value) ≡ out row.Read new
  unfolding row_field field_bytes
  row_there wide formed bytes =
      let head : List ℕ = header_bytes (row_tag t) (length value) in
      let before : length (p ++ head) ≡ length p + 3 = length-append p head ∙ ap (λ (k : ℕ). length p + k) (header_length (row_tag t) (length value)) in
      let apart : p ++ ((head ++ value) ++ q) ≡ (p ++ head) ++ (value ++ q) = simp append_assoc in
      rw (apart, ← before) (written_row_read t (p ++ head) q new (zeros (row_width t)) bytes wide (zeros_length (row_width t)) formed)

-- ---- all rows of a table

-- reading has come to a place, where rows of a table may come next
record Come (t : TableId) (s : List ℕ) (at : ℕ) (x : Rows) : Type 0 where
  phase : Phase
  free : rows_open phase t ≡ true
  stands : Stands s at phase false x

own_open : (t : TableId) → rows_open (InRows t) t ≡ true
unfolding rows_open position
own_open Attributes = refl
own_open Classes = refl

plus_count : (t : TableId) (new : List ℕ) (x : Rows) → length (rows_in t (plus t new x)) ≡ length (rows_in t x) + 1
plus_count Attributes new x = length-append x.attributes (new ∷ [])
plus_count Classes new x = length-append x.classes (new ∷ [])

rows_come : (t : TableId) (s : List ℕ) (list : List (List ℕ)) (p q : List ℕ) (x : Rows) → s ≡ p ++ (written t list ++ q) → Come t s (length p) x
    → AllWide (row_width t) list → AllRows (λ r. well_formed t r ≡ true) list → AllRows Bytes list → length (rows_in t x) + length list ≤ limit t
    → Come t s (length (p ++ written t list)) (plus_all t list x)
unfolding written
rows_come t s [] p q x e h wide formed bytes few = rw append-nil h
rows_come t s (r ∷ list) p q x e h wide formed bytes few =
    let rest : List ℕ = written t list ++ q in
    let apart : s ≡ p ++ (row_field t r ++ rest) = e ∙ simp append_assoc in
    let found : field_at s (length p) (length s) ≡ fields.Field (row_tag t) (length p + 3) (length p + 3 + length (value t r p rest)) = rw apart
    (field_there t r p rest) in
    let read : row_out t s (length p + 3) (length p + 3 + length (value t r p rest))
    ≡ out row.Read r = rw apart (row_there t r p rest wide.0 formed.0 bytes.0) in
    let turn = row_turn_lem s (length p) h.phase false x (row_tag t) _ _ found t r (row_tag_lem t refl) h.free (omega arith) read in
    let here : length p < length s = omega (
      arith,
      ap length apart,
      length-append p (row_field t r ++ rest),
      length-append (row_field t r) rest,
      field_size t r p rest,
    ) in
    let next : length p + 3 + length (value t r p rest) ≡ length (p ++ row_field t r) = omega (arith, length-append p (row_field t r), field_size t r p rest) in
    let more : Come t s (length (p ++ row_field t r)) (plus t r x) =
    record {
      phase = InRows t;
      free = own_open t;
      stands = subst (λ (at : ℕ). Stands s at (InRows t) false (plus t r x)) next
          (stands_on h.stands here _ turn _ refl);
    } in
    subst (λ (y : List ℕ). Come t s (length y) (plus_all t list (plus t r x))) (append_assoc p (row_field t r) (written t list))
    (rows_come t s list (p ++ row_field t r) q (plus t r x) (apart ∙ simp append_assoc) more wide.1 formed.1 bytes.1
    (omega (arith, plus_count t r x)))

-- ---- the whole sheet

heading_there : (q : List ℕ) → 4 ≤ length (heading ++ q) → (field_at (heading ++ q) 0 (length (heading ++ q)) ≡ fields.Field 1 3 4)
    × (is_heading (heading ++ q) 3 4 ≡ true)
unfolding heading is_heading field_bytes header_bytes big_endian_bytes
heading_there q h = (field_read [] q 1 (1 ∷ []) (length (heading ++ q)) (omega arith) h, refl)

heading_size : length heading ≡ 4
unfolding heading
heading_size = field_length 1 (1 ∷ [])

heading_come : (q : List ℕ) → Come Attributes (heading ++ q) (length heading) no_rows
unfolding heading_open rows_open position sheet_tag
heading_come q =
    let long : 4 ≤ length (heading ++ q) = omega (arith, length-append heading q, heading_size) in
    let h = heading_there q long in
    let turn = heading_turn (heading ++ q) 0 Start true no_rows 1 3 4 h.0 refl refl h.1 in
    record {
      phase = InRows Attributes;
      free = refl;
      stands = subst (λ (at : ℕ). Stands (heading ++ q) at (InRows Attributes) false no_rows) (sym heading_size)
          (stands_on (stands_start (heading ++ q)) (omega arith) _ turn _ refl);
    }

classes_next : {s : List ℕ} {at : ℕ} {x : Rows} → Come Attributes s at x → Come Classes s at x
classes_next c = record { phase = c.phase; free = always c.phase; stands = c.stands }
  where
    always : (phase : Phase) → rows_open phase Classes ≡ true
    always Start = unfold rows_open position in refl
    always (InRows Attributes) = unfold rows_open position in refl
    always (InRows Classes) = unfold rows_open position in refl

pub rows_read_back : (x : Rows) → ((t : TableId) → Sound t (rows_in t x)) → read_sheet (sheet_bytes (schema_from x)) ≡ sheet_out Read x
rows_read_back x sound = rw (sheet_of_lem x) (whole x.attributes x.classes (sound Attributes) (sound Classes))
  where
    whole : (a c : List (List ℕ)) → Sound Attributes a → Sound Classes c → read_sheet (heading ++ (written Attributes a ++ written Classes c))
        ≡ sheet_out Read (rows a c)
    whole a c sa sc =
        let u : List ℕ = written Attributes a in
        let v : List ℕ = written Classes c in
        let s : List ℕ = heading ++ (u ++ v) in
        let first : Come Attributes s (length (heading ++ u)) (rows a []) =
        subst (Come Attributes s (length (heading ++ u))) (all_attributes a [] [])
        (rows_come Attributes s a heading v no_rows refl (heading_come (u ++ v)) sa.fit.wide sa.formed sa.bytes (omega (arith, sa.fit.few))) in
        let second : Come Classes s (length ((heading ++ u) ++ v)) (rows a c) =
        subst (Come Classes s (length ((heading ++ u) ++ v))) (all_classes c a [])
        (rows_come Classes s c (heading ++ u) [] (rows a []) (simp (append_assoc, append-nil)) (classes_next first) sc.fit.wide sc.formed
        sc.bytes (omega (arith, sc.fit.few))) in
        stands_end second.stands (omega (arith, ap length (append_assoc heading u v)))
