-- An accepted sheet, field by field: the bytes read so far are those of the sheet that the rows so far are written as.
use Rattle.std.specs.Prelude.{Bool, ◌≡◌, eqb, get_or}
use Rattle.std.proofs.Math.Bool.{true, false}
use Rattle.std.proofs.lemmas.Bool.{false≢true}
use Rattle.std.proofs.Common.{true≢false, ◌∙◌, zero-add, arith}
use mathlib.Core.List.{List, [], ◌∷◌, ◌++◌}
use Rattle.std.proofs.Math.Path.{refl, sym, ap, ap₂, subst}
use Prim.Native.Nat.{ℕ, ◌+◌, ◌-◌, ◌≤◌}
use Rattle.std.proofs.Math.ListN.{length}
use Rattle.prelude.specs.SaysLaws.{says_and, says_eq}
use Rattle.prelude.specs.Part.{part, zeros, Bytes}
use Rattle.prelude.specs.PartLaws.{part_add, part_cons, part_none, part_all, zeros_length}
use Rattle.wire.specs.Wire.{field_at, field_bytes}
use Rattle.wire.specs.WireLaws.{field_is, field_back}
use Rattle.schema.specs.declared.number.TableId.{TableId}
use Rattle.schema.specs.declared.number.TableId.TheVariants.{Attributes, Classes}
use Rattle.schema.specs.Layout.{row_width}
use Rattle.rows_format.specs.declared.format.Format.{Format}
use Rattle.rows_format.specs.Columns.{write_by}
use Rattle.rows_format.specs.Formats.{columns_of}
use Rattle.rows_read.specs.Reading.{out}
use Rattle.rows_read.specs.RoundTripLaws.{row_read_written}
use Rattle.rows_read.specs.WellFormed.{stands_exactly}
use Rattle.sheet_read.specs.SheetRead.{Read}
use Rattle.sheet_read.specs.SheetTag.{Heading, Row}
use Rattle.sheet_read.specs.declared.read.Phase.{Phase}
use Rattle.sheet_read.specs.declared.read.Phase.TheVariants.{InRows}
use Rattle.sheet_read.specs.Reading.{Rows, plus, schema_from, sheet_tag, position, heading_open, rows_open, is_heading, no_rows}
use Rattle.sheet_read.specs.Reading.{row_out}
use Rattle.sheet_read.specs.Reading.{read_sheet}
use Rattle.sheet_read.specs.Stopping.{row_tag}
use Rattle.sheet_write.specs.Writing.{heading, row_field, sheet_bytes}
use Rattle.rows_read.specs.Stopping.{FieldStands}
use Rattle.sheet_round_trip.specs.Exact.{FieldsStand, none, ExactRow, ExactSheet}
use Rattle.sheet_round_trip.specs.ExactLaws.{says_exact_read}
use Rattle.sheet_round_trip.specs.FieldLaws.{fields_more, read_stands}
use Rattle.sheet_round_trip.specs.WalkLaws.{Goes, accepted_ends}
use Rattle.sheet_round_trip.specs.RowLaws.{sheet_more, bare_sheet}
use Rattle.wire.specs.FieldRead as fields
use Rattle.rows_read.specs.RowRead as row

-- ---- what holds between two fields

-- the heading was read: the bytes before the place are the sheet of the rows, and before the first class row there is no class
record Written (s : List ℕ) (at : ℕ) (phase : Phase) (x : Rows) : Type 0 where
  late : heading_open phase ≡ false
  same : part 0 at s ≡ sheet_bytes (schema_from x)
  bare : rows_open phase Attributes ≡ true → x.classes ≡ []

-- while it is missing, nothing was read, or it comes too late
abbrev State : List ℕ → ℕ → Phase → Bool → Rows → Type 0
State s at phase true x = heading_open phase ≡ true → (at ≡ 0) × (x ≡ no_rows)
State s at phase false x = Written s at phase x

-- and the place is behind whole fields
record Between (s : List ℕ) (at : ℕ) (phase : Phase) (missing : Bool) (x : Rows) : Type 0 where
  behind : FieldsStand s (length s) 0 at
  state : State s at phase missing x

-- the tags that are known
row_tag_lem : (t : TableId) (tag : ℕ) → sheet_tag tag ≡ Row t → tag ≡ row_tag t
unfolding sheet_tag row_tag
row_tag_lem t tag e = go (eqb tag 1) refl (eqb tag 32) refl (eqb tag 48) refl
  where
    go : (a : Bool) → eqb tag 1 ≡ a → (b : Bool) → eqb tag 32 ≡ b → (c : Bool) → eqb tag 48 ≡ c → tag ≡ row_tag t
    go true p b q c r = let no : ◌≡◌ {A = ℕ} 0 1 = cc in absurd (omega arith)
    go false p true q c r = let is : Attributes ≡ t = cc in rw (← is) ((says_eq tag 32).holds q)
    go false p false q true r = let is : Classes ≡ t = cc in rw (← is) ((says_eq tag 48).holds r)
    go false p false q false r = let no : ◌≡◌ {A = ℕ} 0 1 = cc in absurd (omega arith)

heading_tag : (tag : ℕ) → sheet_tag tag ≡ Heading → tag ≡ 1
unfolding sheet_tag
heading_tag tag e = go (eqb tag 1) refl (eqb tag 32) refl (eqb tag 48) refl
  where
    go : (a : Bool) → eqb tag 1 ≡ a → (b : Bool) → eqb tag 32 ≡ b → (c : Bool) → eqb tag 48 ≡ c → tag ≡ 1
    go true p b q c r = (says_eq tag 1).holds p
    go false p true q c r = let no : ◌≡◌ {A = ℕ} 0 1 = cc in absurd (omega arith)
    go false p false q true r = let no : ◌≡◌ {A = ℕ} 0 1 = cc in absurd (omega arith)
    go false p false q false r = let no : ◌≡◌ {A = ℕ} 0 1 = cc in absurd (omega arith)

-- ---- one field

module _ (s : List ℕ) (bytes : Bytes s) where
  -- the bytes up to the end of a field
  field_more : (at tag start stop : ℕ) (v : List ℕ) → field_at s at (length s) ≡ fields.Field tag start stop → v ≡ part start (stop - start) s
      → part 0 stop s ≡ part 0 at s ++ field_bytes tag v
  field_more at tag start stop v f e =
      let w = field_is s at (length s) tag start stop f in
      let next : stop ≡ at + (stop - at) = omega (arith, w.stop_is) in
      ap (λ (n : ℕ). part 0 n s) next ∙ part_add 0 at (stop - at) s ∙ ap (λ (n : ℕ). part 0 at s ++ part n (stop - at) s) (zero-add at)
      ∙ ap (λ (y : List ℕ). part 0 at s ++ y) (field_back s at (length s) tag start stop bytes (omega arith) f ∙ ap (field_bytes tag) (sym e))

  module _ (at : ℕ) (phase : Phase) (x : Rows) (tag start stop : ℕ) (f : field_at s at (length s) ≡ fields.Field tag start stop) where
    -- the heading
    heading_state : (missing : Bool) → sheet_tag tag ≡ Heading → heading_open phase ≡ true → is_heading s start stop ≡ true → State s at phase missing x
        → Written s stop (InRows Attributes) x
    unfolding heading_open position is_heading heading
    heading_state false known o h w = absurd (true≢false (sym o ∙ w.late))
    heading_state true known o h w =
        let q = (says_and (says_eq (stop - start) 1) (says_eq (get_or s start 0) 1)).holds h in
        let i = field_is s at (length s) tag start stop f in
        let value : 1 ∷ [] ≡ part start (stop - start) s =
        sym (ap (λ (n : ℕ). part start n s) q.0 ∙ part_cons start 0 s (omega (arith, i.within, q.0))
        ∙ ap₂ (λ (b : ℕ) (v : List ℕ). b ∷ v) q.1 (part_none (start + 1) s)) in
        let none : part 0 at s ≡ [] = ap (λ (n : ℕ). part 0 n s) (w o).0 ∙ part_none 0 s in
        record {
          late = refl;
          same = field_more at tag start stop (1 ∷ []) f value ∙ ap₂ (λ (y : List ℕ) (n : ℕ). y ++ field_bytes n (1 ∷ [])) none (heading_tag tag known)
              ∙ sym (ap (λ (y : Rows). sheet_bytes (schema_from y)) (w o).1 ∙ bare_sheet);
          bare = λ e. ap (λ (y : Rows). y.classes) (w o).1;
        }

    -- a row
    row_state : (t : TableId) (new : List ℕ) (missing : Bool) → sheet_tag tag ≡ Row t → rows_open phase t ≡ true
        → write_by (columns_of (Format.Row t)) new ≡ part start (stop - start) s → State s at phase missing x → State s stop (InRows t) missing (plus t new x)
    unfolding heading_open row_field
    row_state t new true known o v w = λ e. absurd (opened t e)
      where
        opened : (t : TableId) → heading_open (InRows t) ≡ true → ⊥
        opened Attributes e = unfold position in (false≢true e)
        opened Classes e = unfold position in (false≢true e)
    row_state t new false known o v w = record {
      late = closed t;
      same = field_more at tag start stop (write_by (columns_of (Format.Row t)) new) f v
          ∙ ap₂ (λ (y : List ℕ) (n : ℕ). y ++ field_bytes n (write_by (columns_of (Format.Row t)) new)) w.same (row_tag_lem t tag known)
          ∙ sheet_more t new x (λ q. w.bare (rw q at o));
      bare = bare t o w.bare;
    }
      where
        closed : (t : TableId) → heading_open (InRows t) ≡ false
        closed Attributes = unfold position in refl
        closed Classes = unfold position in refl

        bare : (t : TableId) → rows_open phase t ≡ true → (rows_open phase Attributes ≡ true → x.classes ≡ []) → rows_open (InRows t) Attributes ≡ true
            → (plus t new x).classes ≡ []
        bare Attributes p b q = b p
        bare Classes p b q = unfold rows_open position in (absurd (false≢true q))

-- ---- all fields

module _ (s : List ℕ) (bytes : Bytes s) (exact : ExactSheet s) where
  -- a row's value is what the row that was read is written as
  row_value : (t : TableId) (at tag start stop : ℕ) → field_at s at (length s) ≡ fields.Field tag start stop → sheet_tag tag ≡ Row t
      → FieldsStand s (length s) 0 at → row_out t s start stop ≡ out row.Read (row_out t s start stop).row
      → write_by (columns_of (Format.Row t)) (row_out t s start stop).row ≡ part start (stop - start) s
  unfolding stands_exactly row_tag
  row_value Classes at tag start stop f known b read =
      let w = field_is s at (length s) tag start stop f in
      row_read_written Classes s start stop (zeros (row_width Classes)) _ bytes w.within (omega (arith, zeros_length (row_width Classes))) read refl
  row_value Attributes at tag start stop f known b read =
      let w = field_is s at (length s) tag start stop f in
      let blank : List ℕ = zeros (row_width Attributes) in
      let fits : row_width Attributes ≤ length blank = omega (arith, zeros_length (row_width Attributes)) in
      let stands : FieldStands s (length s) at 32 stop =
      subst (λ (n : ℕ). FieldStands s (length s) at n stop) (row_tag_lem Attributes tag known) (read_stands s at (length s) tag start stop f) in
      let row-exact : ExactRow s start stop =
      subst (λ (n : ℕ). ExactRow s n stop) (sym w.start_is) (exact at stop (record { before = b; field = stands })) in
      row_read_written Attributes s start stop blank _ bytes w.within fits read
      ((says_exact_read s start stop blank _ bytes (omega (arith, w.start_is, w.stop_is)) w.within fits read).passes row-exact)

  goes : Goes s (Between s)
  goes = record {
    heading = λ at phase missing x tag start stop f known o h b. record {
      behind = fields_more b.behind (read_stands s at (length s) tag start stop f);
      state = heading_state s bytes at phase x tag start stop f missing known o h b.state;
    };
    row = λ at phase missing x tag start stop f t known o read b. record {
      behind = fields_more b.behind (read_stands s at (length s) tag start stop f);
      state = row_state s bytes at phase x tag start stop f t (row_out t s start stop).row missing known o
          (row_value t at tag start stop f known b.behind read) b.state;
    };
  }

  -- a sheet that was accepted is the sheet of the rows
  pub accepted_same : (read_sheet s).answer ≡ Read → sheet_bytes (schema_from (read_sheet s).rows) ≡ s
  accepted_same e =
      let last = accepted_ends s (Between s) goes (record { behind = none; state = λ e. (refl, refl) }) e in
      sym last.holds.state.same ∙ part_all (length s) s (omega arith)
