-- One field after the other: where reading stands, and what a turn brings.
use Rattle.std.specs.Prelude.{◌&&◌, Bool, cond, true, false, List, ◌≡◌, get_or, Some, Ok, Err}
use Rattle.std.proofs.Math.Path.{ap, refl}
use Rattle.std.proofs.Common.{subst, ◌∙◌, arith, eq-eqb, ne_eqb}
use Prim.Native.Nat.{◌+◌, ◌<◌, ◌≤◌, suc, zero, ℕ}
use Rattle.std.proofs.Math.ListN.{length}
use Rattle.prelude.specs.SaysLaws.{choose}
use Rattle.wire.specs.FieldRead.{FieldRead}
use Rattle.wire.specs.Wire.{field_at}
use Rattle.wire.specs.WireLaws.{field_is}
use Rattle.schema.specs.declared.number.TableId.TheVariants.{Attributes}
use Rattle.schema.specs.declared.number.TableId.{TableId}
use Rattle.schema.specs.Numbers.{limit}
use Rattle.rows_read.specs.RowRead.{RowRead}
use Rattle.rows_read.specs.Reading.{out}
use Rattle.sheet_read.specs.declared.read.Phase.{Phase}
use Rattle.sheet_read.specs.declared.read.Phase.TheVariants.{Start, InRows}
use Rattle.sheet_read.specs.Turn.{Turn}
use Rattle.sheet_read.specs.Turn.{On, Stop}
use Rattle.sheet_read.specs.Room.{Room}
use Rattle.sheet_read.specs.SheetTag.{SheetTag}
use Rattle.sheet_read.specs.SheetTag.{Heading, Row, Unknown}
use Rattle.sheet_read.specs.declared.read.SheetError.{SheetError}
use Rattle.sheet_read.specs.declared.read.Progress.{Progress}
use Rattle.sheet_read.specs.SheetRead.{Read, Bad}
use Rattle.sheet_read.specs.Reading.{onward, Rows, Step, step, ended, field_step, heading_open, take_heading, is_heading, no_rows, plus, read_from}
use Rattle.sheet_read.specs.Reading.{read_sheet, room_at, room_step, row_out, take_table_row, row_turn, rows_in, rows_open, rows_with, sheet_out, sheet_tag}
use Rattle.sheet_read.specs.Reading.{take_field, take_tagged}
use Rattle.wire.specs.FieldRead as fields
use Rattle.rows_read.specs.RowRead as row
use Rattle.sheet_read.specs.Room as room

-- ---- one turn goes on behind its place, within the sheet

abbrev pub Forward : List ℕ → ℕ → Turn → Type 0
Forward s at (Ok progress) = (at < progress.at) × (progress.at ≤ length s)
Forward s at (Err _) = Unit {0}

module _ (s : List ℕ) (at : ℕ) (phase : Phase) (missing : Bool) (x : Rows) where
  row_forward : (t : TableId) (stop : ℕ) → at < stop → stop ≤ length s → (r : RowRead) → Forward s at (row_turn t stop missing r)
  unfolding row_turn
  row_forward t stop on within row.Read = (on, within)
  row_forward t stop on within (Err bad) = tt

  tagged_forward : (tag : SheetTag) (start stop : ℕ) → at < stop → stop ≤ length s → Forward s at (take_tagged tag s at phase missing start stop x).turn
  unfolding take_tagged take_table_row take_heading
  tagged_forward Heading start stop on within = choose (Forward s at) (heading_open phase && is_heading s start stop) (λ e. (on, within)) (λ e. tt)
  tagged_forward (Row t) start stop on within =
      choose (λ (y : Step). Forward s at y.turn) (rows_open phase t) (λ e. row_forward t stop on within (row_out t s start stop).answer) (λ e. tt)
  tagged_forward Unknown start stop on within = tt

  field_forward : (f : FieldRead) → field_at s at (length s) ≡ f → Forward s at (field_step f s at phase missing x).turn
  unfolding field_step
  field_forward (Ok (Some f)) e =
      let w = field_is s at (length s) f.tag f.start f.end e in
      tagged_forward (sheet_tag f.tag) f.start f.end (omega (arith, w.stop_is)) w.within
  field_forward fields.End e = tt
  field_forward (Err bad) e = tt

  pub step_forward : Forward s at (take_field s at phase missing x).turn
  unfolding take_field
  step_forward = go (room_at (sheet_tag (get_or s at 0)) x)
    where
      go : (r : Room) → Forward s at (room_step r x (field_step (field_at s at (length s)) s at phase missing x)).turn
      go (Err _) = unfold room_step in tt
      go room.Free = unfold room_step in (field_forward (field_at s at (length s)) refl)

-- ---- where reading stands: what is left to read, with the rows so far, gives what the whole sheet gives

pub record Stands (s : List ℕ) (at : ℕ) (phase : Phase) (missing : Bool) (x : Rows) : Type 0 where
  pub within : at ≤ length s
  pub fuel : ℕ
  pub enough : length s ≤ at + fuel
  pub same : read_sheet s ≡ read_from fuel s at phase missing x

pub stands_start : (s : List ℕ) → Stands s 0 Start true no_rows
unfolding read_sheet
stands_start s = record { within = omega arith; fuel = length s; enough = omega arith; same = refl }

from_end : (n : ℕ) (s : List ℕ) (at : ℕ) (phase : Phase) (missing : Bool) (x : Rows) → at ≡ length s → read_from n s at phase missing x
    ≡ sheet_out (cond missing (Bad at) Read) x
unfolding read_from ended
from_end zero s at phase missing x e = rw (eq-eqb at (length s) e)
from_end (suc n) s at phase missing x e = rw (eq-eqb at (length s) e)

from_step : (n : ℕ) (s : List ℕ) (at : ℕ) (phase : Phase) (missing : Bool) (x : Rows) → at < length s
    → read_from (suc n) s at phase missing x ≡ onward (read_from n s) (take_field s at phase missing x).turn (take_field s at phase missing x).rows
unfolding read_from
from_step n s at phase missing x l = rw (ne_eqb at (length s) (λ e. omega arith))

-- the same with one step taken
record Rest (s : List ℕ) (at : ℕ) (phase : Phase) (missing : Bool) (x : Rows) : Type 0 where
  fuel : ℕ
  enough : length s ≤ at + suc fuel
  same : read_sheet s ≡ onward (read_from fuel s) (take_field s at phase missing x).turn (take_field s at phase missing x).rows

module _ {s : List ℕ} {at : ℕ} {phase : Phase} {missing : Bool} {x : Rows} (r : Stands s at phase missing x) where
  -- the end of the sheet
  pub stands_end : length s ≤ at → read_sheet s ≡ sheet_out (cond missing (Bad at) Read) x
  stands_end l = let w = r.within in r.same ∙ from_end r.fuel s at phase missing x (omega arith)

  rest : at < length s → Rest s at phase missing x
  rest l = go r.fuel r.enough r.same
    where
      go : (n : ℕ) → length s ≤ at + n → read_sheet s ≡ read_from n s at phase missing x → Rest s at phase missing x
      go zero h e = absurd (omega arith)
      go (suc n) h e = record { fuel = n; enough = h; same = e ∙ from_step n s at phase missing x l }

  module _ (l : at < length s) (y : Step) (is : take_field s at phase missing x ≡ y) where
    turned : read_sheet s ≡ onward (read_from (rest l).fuel s) y.turn y.rows
    turned = (rest l).same ∙ ap (λ (z : Step). onward (read_from (rest l).fuel s) z.turn z.rows) is

    -- a turn that stops
    pub stands_stop : (came : SheetError) → y.turn ≡ Stop came → read_sheet s ≡ sheet_out (Err came) y.rows
    unfolding onward
    stands_stop came e = turned ∙ ap (λ (z : Turn). onward (read_from (rest l).fuel s) z y.rows) e

    -- and one that goes on
    pub stands_forward : (progress : Progress) → y.turn ≡ Ok progress → (at < progress.at) × (progress.at ≤ length s)
    stands_forward progress e = subst (Forward s at) (ap (λ (z : Step). z.turn) is ∙ e) (step_forward s at phase missing x)

    pub stands_on : (progress : Progress) → y.turn ≡ Ok progress → Stands s progress.at progress.phase progress.missing y.rows
    unfolding onward
    stands_on progress e =
        let f = stands_forward progress e in
        let w : length s ≤ at + suc (rest l).fuel = (rest l).enough in
        record {
          within = f.1;
          fuel = (rest l).fuel;
          enough = omega (arith, f.0);
          same = turned ∙ ap (λ (z : Turn). onward (read_from (rest l).fuel s) z y.rows) e;
        }

-- ---- a turn where the field in front is the heading, or a row that can be read

module _ (s : List ℕ) (at : ℕ) (phase : Phase) (missing : Bool) (x : Rows) (tag start stop : ℕ)
    (there : field_at s at (length s) ≡ fields.Field tag start stop) where
  -- where there is room for what the tag announces
  pub tagged_is : (which : SheetTag) → sheet_tag tag ≡ which → room_at which x ≡ room.Free → take_field s at phase missing x
      ≡ take_tagged which s at phase missing start stop x
  unfolding take_field room_step field_step
  tagged_is which known free =
      let w = field_is s at (length s) tag start stop there in
      rw (← w.tag_is, there, known, free)

  pub heading_turn : sheet_tag tag ≡ Heading → heading_open phase ≡ true → is_heading s start stop ≡ true → take_field s at phase missing x
      ≡ step (On stop (InRows Attributes) false) x
  unfolding take_tagged take_heading room_at
  heading_turn known free is = tagged_is Heading known refl ∙ rw (free, is)

  pub row_turn_lem : (t : TableId) (new : List ℕ) → sheet_tag tag ≡ Row t → rows_open phase t ≡ true → length (rows_in t x) < limit t → row_out t s start stop
      ≡ out row.Read new
      → take_field s at phase missing x ≡ step (On stop (InRows t) missing) (plus t new x)
  unfolding take_tagged take_table_row row_turn rows_with room_at
  row_turn_lem t new known free few read = tagged_is (Row t) known (rw (ne_eqb (length (rows_in t x)) (limit t) (λ e. omega arith))) ∙ rw (free, read)
