-- An accepted sheet, field by field: what holds at its start, and goes on to hold behind the heading and behind each row that is read, holds at its end.
use Rattle.std.proofs.Math.Bool.{Bool, true, false}
use Rattle.std.specs.Prelude.{cond, ◌&&◌, List, ◌≡◌, eqb, length, get_or, Some, Ok, Err}
use Rattle.std.proofs.Math.Path.{refl, subst}
use Prim.Native.Nat.{ℕ, zero, suc}
use Rattle.std.proofs.Common.{arith}
use Rattle.prelude.specs.SaysLaws.{says_and, says_eq, says_test, choose}
use Rattle.wire.specs.FieldRead.{FieldRead}
use Rattle.wire.specs.Wire.{field_at}
use Rattle.schema.specs.declared.number.TableId.{TableId}
use Rattle.schema.specs.declared.number.TableId.TheVariants.{Attributes}
use Rattle.rows_read.specs.RowRead.{RowRead}
use Rattle.rows_read.specs.Reading.{Out, out}
use Rattle.sheet_read.specs.SheetRead.{Read, Bad}
use Rattle.sheet_read.specs.SheetTag.{SheetTag}
use Rattle.sheet_read.specs.SheetTag.{Heading, Row, Unknown}
use Rattle.sheet_read.specs.declared.read.Phase.{Phase}
use Rattle.sheet_read.specs.declared.read.Phase.TheVariants.{Start, InRows}
use Rattle.sheet_read.specs.Room.{Room}
use Rattle.sheet_read.specs.Turn.{Turn}
use Rattle.sheet_read.specs.declared.read.SheetError.{SheetError}
use Rattle.sheet_read.specs.Reading.{Rows, no_rows, plus, sheet_tag, heading_open, rows_open, is_heading, take_heading, is_read, row_out, row_turn, rows_with}
use Rattle.sheet_read.specs.Reading.{take_table_row, Step, step, take_tagged, field_step, room_at, room_step, take_field, SheetOut, onward, ended, read_from, read_sheet}
use Rattle.wire.specs.FieldRead as fields
use Rattle.rows_read.specs.RowRead as row
use Rattle.sheet_read.specs.Room as room

-- where reading has come to: the place, how far, whether the heading is missing, the rows so far
abbrev pub At : Type 1
At = ℕ → Phase → Bool → Rows → Type 0

-- it holds at the end of a sheet
pub record Ends (s : List ℕ) (P : At) (x : Rows) : Type 0 where
  pub phase : Phase
  pub holds : P (length s) phase false x

bad_refused : (at : ℕ) → ¬ (Bad at ≡ Read)
bad_refused at e = let no : ◌≡◌ {A = ℕ} 0 1 = cc in omega arith

error_refused : (error : SheetError) → ¬ (Err error ≡ Read)
error_refused error e = let no : ◌≡◌ {A = ℕ} 0 1 = cc in omega arith

module _ (s : List ℕ) (P : At) where
  -- a turn comes to such a place, or refuses the sheet
  abbrev After : Turn → Rows → Type 0
  After (Ok progress) x = P progress.at progress.phase progress.missing x
  After (Err error) x = ¬ (Err error ≡ Read)

  abbrev Fine : Step → Type 0
  Fine y = After y.turn y.rows

  -- behind the heading, and behind a row that is read
  pub record Goes : Type 0 where
    pub heading : (at : ℕ) (phase : Phase) (missing : Bool) (x : Rows) (tag start stop : ℕ) → field_at s at (length s) ≡ fields.Field tag start stop
        → sheet_tag tag ≡ Heading → heading_open phase ≡ true → is_heading s start stop ≡ true → P at phase missing x → P stop (InRows Attributes) false x
    pub row : (at : ℕ) (phase : Phase) (missing : Bool) (x : Rows) (tag start stop : ℕ) → field_at s at (length s) ≡ fields.Field tag start stop
        → (t : TableId) → sheet_tag tag ≡ Row t → rows_open phase t ≡ true → row_out t s start stop ≡ out row.Read (row_out t s start stop).row
        → P at phase missing x → P stop (InRows t) missing (plus t (row_out t s start stop).row x)

  module _ (goes : Goes) where
    module _ (at : ℕ) (phase : Phase) (missing : Bool) (x : Rows) (here : P at phase missing x) where
      module _ (tag start stop : ℕ) (f : field_at s at (length s) ≡ fields.Field tag start stop) where
        heading_after : sheet_tag tag ≡ Heading → Fine (step (take_heading s at start stop phase) x)
        unfolding take_heading
        heading_after known =
            choose (λ (t : Turn). Fine (step t x)) (heading_open phase && is_heading s start stop)
            (λ e. (let h = (says_and (says_test (heading_open phase)) (says_test (is_heading s start stop))).holds e in
            goes.heading at phase missing x tag start stop f known h.0 h.1 here))
            (λ e. bad_refused at)

        row_after : (t : TableId) → sheet_tag tag ≡ Row t → rows_open phase t ≡ true → Fine (take_table_row t s start stop missing x)
        unfolding take_table_row rows_with row_turn
        row_after t known o = go (row_out t s start stop).answer refl
          where
            y : Out
            y = row_out t s start stop

            go : (r : RowRead) → y.answer ≡ r → Fine (step (row_turn t stop missing r) (cond (is_read r) (plus t y.row x) x))
            go (Err bad) e = bad_refused bad.at
            go row.Read e = goes.row at phase missing x tag start stop f t known o (λ i. record { answer = e i; row = y.row }) here

        tagged_after : (which : SheetTag) → sheet_tag tag ≡ which → Fine (take_tagged which s at phase missing start stop x)
        unfolding take_tagged
        tagged_after Heading known = heading_after known
        tagged_after (Row t) known = choose Fine (rows_open phase t) (λ o. row_after t known o) (λ o. bad_refused at)
        tagged_after Unknown known = bad_refused at

      field_after : (r : FieldRead) → field_at s at (length s) ≡ r → Fine (field_step r s at phase missing x)
      unfolding field_step
      field_after fields.End e = bad_refused at
      field_after (Err bad) e = bad_refused at
      field_after (Ok (Some f)) e = tagged_after f.tag f.start f.end e (sheet_tag f.tag) refl

      step_after : Fine (take_field s at phase missing x)
      unfolding take_field room_step
      step_after = go (room_at (sheet_tag (get_or s at 0)) x)
        where
          go : (r : Room) → Fine (room_step r x (field_step (field_at s at (length s)) s at phase missing x))
          go (Err error) = error_refused error
          go room.Free = field_after (field_at s at (length s)) refl

    -- what reading comes to, if it accepts
    abbrev Came : SheetOut → Type 0
    Came o = o.answer ≡ Read → Ends s P o.rows

    end_came : (at : ℕ) (phase : Phase) (missing : Bool) (x : Rows) → P at phase missing x → at ≡ length s → Came (ended s at missing x)
    unfolding ended
    end_came at phase true x h e q = absurd (bad_refused at q)
    end_came at phase false x h e q = record { phase = phase; holds = subst (λ (n : ℕ). P n phase false x) e h }

    from_came : (n at : ℕ) (phase : Phase) (missing : Bool) (x : Rows) → P at phase missing x → Came (read_from n s at phase missing x)
    unfolding read_from
    from_came zero at phase missing x h =
        choose Came (eqb at (length s)) (λ e. end_came at phase missing x h ((says_eq at (length s)).holds e)) (λ d q. absurd (bad_refused at q))
    from_came (suc n) at phase missing x h =
        choose Came (eqb at (length s)) (λ e. end_came at phase missing x h ((says_eq at (length s)).holds e))
        (λ d. onward_came (read_from n s) (from_came n) (take_field s at phase missing x).turn (take_field s at phase missing x).rows
        (step_after at phase missing x h))
      where
        onward_came : (rest : ℕ → Phase → Bool → Rows → SheetOut)
            → ((at : ℕ) (phase : Phase) (missing : Bool) (x : Rows) → P at phase missing x → Came (rest at phase missing x))
            → (t : Turn) (y : Rows) → After t y → Came (onward rest t y)
        onward_came rest came (Ok p) y r = unfold onward in (came p.at p.phase p.missing y r)
        onward_came rest came (Err _) y r = unfold onward in (λ q. absurd (r q))

    pub accepted_ends : P 0 Start true no_rows → (read_sheet s).answer ≡ Read → Ends s P (read_sheet s).rows
    unfolding read_sheet
    accepted_ends h = from_came (length s) 0 Start true no_rows h
