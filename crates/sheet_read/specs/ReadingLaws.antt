-- What reading a sheet gives: rows, each well-formed, at most as many as the tables hold.
use Rattle.std.proofs.Math.Bool.{Bool, cond, true}
use Rattle.std.specs.Prelude.{◌++◌, List, [], ◌∷◌, eqb, get_or, length, Some, Ok, Err}
use Rattle.std.proofs.Math.Path.{◌≡◌, refl}
use Rattle.std.proofs.Common.{ap, ◌∙◌, length-append}
use Prim.Native.Nat.{◌<◌, suc, zero, ℕ, ◌≤◌}
use native.Mathlib.Omega.{arith}
use Rattle.prelude.specs.Part.{Bytes, zeros}
use Rattle.prelude.specs.SaysLaws.{choose, says_eq, says_true}
use Rattle.prelude.specs.BytesLaws.{zeros_bytes}
use Rattle.prelude.specs.PartLaws.{zeros_length}
use Rattle.wire.specs.FieldRead.{FieldRead}
use Rattle.wire.specs.WireLaws.{field_is}
use Rattle.wire.specs.Wire.{field_at}
use Rattle.schema.specs.declared.number.TableId.TheVariants.{Attributes, Classes}
use Rattle.schema.specs.declared.number.TableId.{TableId}
use Rattle.schema.specs.Numbers.{limit}
use Rattle.schema.specs.Layout.{row_width}
use Rattle.tables.specs.FilledLaws.{wide_append}
use Rattle.rows_format.specs.declared.format.Format.{Format}
use Rattle.rows_read.specs.RowRead.{RowRead}
use Rattle.rows_read.specs.Reading.{Out, out}
use Rattle.rows_read.specs.RoundTripLaws.{row_read_formed, row_read_length}
use Rattle.rows_read.specs.WellFormed.{well_formed}
use Rattle.rows_read.specs.BytesLaws.{read_bytes}
use Rattle.sheet_read.specs.SheetTag.{SheetTag}
use Rattle.sheet_read.specs.SheetTag.{Heading, Row, Unknown}
use Rattle.sheet_read.specs.declared.read.Phase.{Phase}
use Rattle.sheet_read.specs.declared.read.Phase.TheVariants.{Start}
use Rattle.sheet_read.specs.Turn.{Turn}
use Rattle.sheet_read.specs.Reading.{onward, Rows, SheetOut, Step, ended, field_step, is_read, no_rows, plus, read_from, read_sheet, room_at}
use Rattle.sheet_read.specs.Reading.{room_step, row_out, take_table_row, rows_in, rows_open, rows_with, sheet_tag, take_field, take_tagged}
use Rattle.sheet_read.specs.Room.{Room}
use Rattle.sheet_read.specs.Held.{Fitting}
use Rattle.wire.specs.FieldRead as fields
use Rattle.rows_read.specs.RowRead as row
use Rattle.sheet_read.specs.Room as room

-- ---- one row more

-- what holds of the rows of a table, and of them with one row more, holds of both tables after the row is put last in one
pub plus_keeps : (P : TableId → List (List ℕ) → Type 0) (t : TableId) (new : List ℕ) (x : Rows) → ((u : TableId) → P u (rows_in u x))
    → P t (rows_in t x ++ (new ∷ []))
    → (u : TableId) → P u (rows_in u (plus t new x))
plus_keeps P Attributes new x h more Attributes = more
plus_keeps P Attributes new x h more Classes = h Classes
plus_keeps P Classes new x h more Attributes = h Attributes
plus_keeps P Classes new x h more Classes = more

-- ---- what holds of no rows, and goes on to hold with each row that is read, holds of the rows of a sheet

module _ (s : List ℕ) (P : Rows → Type 0) where
  -- a row that is read, where its table has room
  abbrev Grows : Type 0
  Grows =
      (t : TableId) (start stop : ℕ) (x : Rows) → stop ≤ length s → ¬ (length (rows_in t x) ≡ limit t)
      → row_out t s start stop ≡ out row.Read (row_out t s start stop).row → P x → P (plus t (row_out t s start stop).row x)

  module _ (grows : Grows) where
    row_step_keeps : (t : TableId) (start stop : ℕ) (missing : Bool) (x : Rows) → stop ≤ length s → ¬ (length (rows_in t x) ≡ limit t) → P x
        → P (take_table_row t s start stop missing x).rows
    unfolding take_table_row rows_with
    row_step_keeps t start stop missing x within free h = go (row_out t s start stop).answer refl
      where
        o : Out
        o = row_out t s start stop

        go : (r : RowRead) → o.answer ≡ r → P (cond (is_read r) (plus t o.row x) x)
        go row.Read e = grows t start stop x within free (λ i. record { answer = e i; row = o.row }) h
        go (Err bad) e = h

    tagged_keeps : (tag : SheetTag) (at : ℕ) (phase : Phase) (missing : Bool) (start stop : ℕ) (x : Rows) → stop ≤ length s → room_at tag x ≡ room.Free → P x
        → P (take_tagged tag s at phase missing start stop x).rows
    unfolding take_tagged room_at
    tagged_keeps Heading at phase missing start stop x within free h = h
    tagged_keeps Unknown at phase missing start stop x within free h = h
    tagged_keeps (Row t) at phase missing start stop x within free h =
        choose (λ (y : Step). P y.rows) (rows_open phase t) (λ e. row_step_keeps t start stop missing x within (not_full t x free) h) (λ e. h)
      where
        not_full : (t : TableId) (x : Rows) → cond (eqb (length (rows_in t x)) (limit t)) (room.Full t) room.Free ≡ room.Free
            → ¬ (length (rows_in t x) ≡ limit t)
        not_full t x q full =
            let z : room.Full t ≡ room.Free = rw (says_true (says_eq (length (rows_in t x)) (limit t)) full) at q in
            let no : ◌≡◌ {A = ℕ} 0 1 = cc in
            omega arith

    step_keeps : (at : ℕ) (phase : Phase) (missing : Bool) (x : Rows) → P x → P (take_field s at phase missing x).rows
    unfolding take_field room_step field_step
    step_keeps at phase missing x h = go (room_at (sheet_tag (get_or s at 0)) x) refl
      where
        field : room_at (sheet_tag (get_or s at 0)) x ≡ room.Free → (f : FieldRead) → field_at s at (length s) ≡ f → P (field_step f s at phase missing x).rows
        field free (Ok (Some f)) e =
            let w = field_is s at (length s) f.tag f.start f.end e in
            (tagged_keeps (sheet_tag f.tag) at phase missing f.start f.end x w.within (ap (λ (b : ℕ). room_at (sheet_tag b) x) w.tag_is ∙ free) h)
        field free fields.End e = h
        field free (Err bad) e = h

        go : (r : Room) → room_at (sheet_tag (get_or s at 0)) x ≡ r → P (room_step r x (field_step (field_at s at (length s)) s at phase missing x)).rows
        go (Err _) e = h
        go room.Free e = field e (field_at s at (length s)) refl

    from_keeps : (n at : ℕ) (phase : Phase) (missing : Bool) (x : Rows) → P x → P (read_from n s at phase missing x).rows
    unfolding read_from ended
    from_keeps zero at phase missing x h = choose (λ (o : SheetOut). P o.rows) (eqb at (length s)) (λ e. h) (λ d. h)
    from_keeps (suc n) at phase missing x h =
        choose (λ (o : SheetOut). P o.rows) (eqb at (length s)) (λ e. h)
        (λ d. onward_keeps (read_from n s) (from_keeps n) (take_field s at phase missing x).turn (step_keeps at phase missing x h))
      where
        onward_keeps : (rest : ℕ → Phase → Bool → Rows → SheetOut)
            → ((at : ℕ) (phase : Phase) (missing : Bool) (x : Rows) → P x → P (rest at phase missing x).rows)
            → (t : Turn) {y : Rows} → P y → P (onward rest t y).rows
        onward_keeps rest keeps (Ok p) {y} k = unfold onward in (keeps p.at p.phase p.missing y k)
        onward_keeps rest keeps (Err _) k = unfold onward in k

    pub read_keeps : P no_rows → P (read_sheet s).rows
    unfolding read_sheet
    read_keeps h = from_keeps (length s) 0 Start true no_rows h

-- ---- the rows of a sheet of bytes

-- each row passes a test, or has a property
abbrev pub AllRows : (List ℕ → Type 0) → List (List ℕ) → Type 0
AllRows P [] = Unit {0}
AllRows P (r ∷ list) = P r × AllRows P list

pub all_append : (P : List ℕ → Type 0) (list : List (List ℕ)) (new : List ℕ) → AllRows P list → P new → AllRows P (list ++ (new ∷ []))
all_append P [] new h e = (e, tt)
all_append P (r ∷ list) new h e = (h.0, all_append P list new h.1 e)

pub all_at : (P : List ℕ → Type 0) (list : List (List ℕ)) → AllRows P list → (k : ℕ) → k < length list → P (get_or list k [])
all_at P [] h k l = absurd (omega arith)
all_at P (r ∷ list) h zero l = h.0
all_at P (r ∷ list) h (suc k) l = all_at P list h.1 k (omega arith)

-- of a table: as many as fit, each of its width, well-formed and of bytes
pub record Sound (t : TableId) (list : List (List ℕ)) : Type 0 where
  pub fit : Fitting t list
  pub formed : AllRows (λ r. well_formed t r ≡ true) list
  pub bytes : AllRows Bytes list

pub no_rows_sound : (t : TableId) → Sound t (rows_in t no_rows)
no_rows_sound Attributes = record { fit = record { wide = tt; few = omega arith }; formed = tt; bytes = tt }
no_rows_sound Classes = record { fit = record { wide = tt; few = omega arith }; formed = tt; bytes = tt }

pub more_fit : (t : TableId) (list : List (List ℕ)) (new : List ℕ) → Fitting t list → ¬ (length list ≡ limit t) → length new ≡ row_width t
    → Fitting t (list ++ (new ∷ []))
more_fit t list new h free e =
    let few : length list ≤ limit t = h.few in
    record { wide = wide_append (row_width t) list new h.wide e; few = omega (arith, length-append list (new ∷ []), free) }

module _ (s : List ℕ) (bytes : Bytes s) where
  module _ (t : TableId) (start stop : ℕ) (within : stop ≤ length s) (e : row_out t s start stop ≡ out row.Read (row_out t s start stop).row) where
    fits : row_width t ≤ length (zeros (row_width t))
    fits = omega (arith, zeros_length (row_width t))

    pub row_out_wide : length (row_out t s start stop).row ≡ row_width t
    row_out_wide = row_read_length t s start stop (zeros (row_width t)) _ bytes within fits e ∙ zeros_length (row_width t)

    row_out_formed : well_formed t (row_out t s start stop).row ≡ true
    row_out_formed = row_read_formed t s start stop (zeros (row_width t)) _ bytes within fits e

    row_out_bytes : Bytes (row_out t s start stop).row
    row_out_bytes = read_bytes (Format.Row t) s start stop (zeros (row_width t)) bytes (zeros_bytes (row_width t))

  -- a sheet gives well-formed rows, at most as many as the tables hold, accepted or not
  pub sheet_sound : (t : TableId) → Sound t (rows_in t (read_sheet s).rows)
  sheet_sound = read_keeps s (λ x. (t : TableId) → Sound t (rows_in t x)) grows no_rows_sound
    where
      grows : Grows s (λ x. (t : TableId) → Sound t (rows_in t x))
      grows t start stop x within free e h =
          plus_keeps Sound t (row_out t s start stop).row x h
          (record {
            fit = more_fit t (rows_in t x) _ (h t).fit free (row_out_wide t start stop within e);
            formed = all_append (λ r. well_formed t r ≡ true) (rows_in t x) _ (h t).formed (row_out_formed t start stop within e);
            bytes = all_append Bytes (rows_in t x) _ (h t).bytes (row_out_bytes t start stop within e);
          })
