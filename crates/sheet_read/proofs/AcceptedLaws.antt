-- Everything before a place is accepted: then reading comes to that place, in the phase that the fields before it bring about.
use Rattle.std.specs.Prelude.{Bool, false, true, List, ◌++◌, ◌∷◌, [], ◌↔◌, ◌≡◌, get_or}
use Rattle.std.proofs.lemmas.Bool.{false≢true}
use Rattle.std.proofs.Common.{⊎_elim, ap, ◌∙◌, arith}
use Rattle.std.proofs.Math.Path.{refl}
use Prim.Native.Nat.{ℕ, suc, ◌+◌, ◌-◌, ◌≤◌, ◌<◌}
use Rattle.std.proofs.Math.ListN.{length, length-append}
use Rattle.prelude.specs.Says.{Says}
use Rattle.prelude.specs.SaysLaws.{says_and, says_eq, says_false, says_iff, says_split}
use Rattle.schema.specs.declared.number.TableId.{TableId}
use Rattle.schema.specs.declared.number.TableId.TheVariants.{Attributes, Classes}
use Rattle.schema.specs.Numbers.{limit}
use Rattle.rows_format.specs.declared.format.Format.{Format}
use Rattle.rows_read.specs.RowRead.{RowRead}
use Rattle.rows_read.specs.Reading.{out}
use Rattle.rows_read.specs.StoppingLaws.{value_stops}
use Rattle.rows_read.specs.PlaceLaws.{field_stands}
use Rattle.sheet_read.specs.declared.read.Phase.{Phase}
use Rattle.sheet_read.specs.declared.read.Phase.TheVariants.{Start, InRows}
use Rattle.sheet_read.specs.SheetTag.{Heading, Row, Unknown}
use Rattle.sheet_read.specs.Reading.{Rows, heading_open, is_heading, no_rows, plus, position, row_out, rows_in, rows_open, sheet_tag}
use Rattle.sheet_read.specs.Stopping.{AcceptedTo, HeadingValue, RowStands, RowStops, Stands, row_tag, rows_given, rows_of}
use Rattle.sheet_read.proofs.TurnLaws.{heading_turn, row_turn_lem, stands_on, stands_start}
use Rattle.rows_read.specs.RowRead as row
use Rattle.sheet_read.proofs.TurnLaws as turns

-- ---- tags

-- what a tag stands for
pub data Kind (b : ℕ) : Type 0 where
  a_heading : b ≡ 0x01 → Kind b
  a_row : (t : TableId) → b ≡ row_tag t → Kind b
  neither : ¬ (b ≡ 0x01) → ((t : TableId) → ¬ (b ≡ row_tag t)) → Kind b

pub kind : (b : ℕ) → Kind b
unfolding row_tag
kind b = ⊎_elim (λ e. a_heading e.1) (λ e. rows e.1) (says_split (says_eq b 0x01))
  where
    rows : ¬ (b ≡ 0x01) → Kind b
    rows p =
        ⊎_elim (λ e. a_row Attributes e.1)
        (λ q. ⊎_elim (λ e. a_row Classes e.1) (λ r. neither p (elim [ Attributes ↦ q.1 | Classes ↦ r.1 ])) (says_split (says_eq b 0x30)))
        (says_split (says_eq b 0x20))

pub heading_tag : {b : ℕ} → b ≡ 0x01 → sheet_tag b ≡ Heading
unfolding sheet_tag
heading_tag e = rw e

pub row_tag_lem : (t : TableId) {b : ℕ} → b ≡ row_tag t → sheet_tag b ≡ Row t
unfolding sheet_tag row_tag
row_tag_lem Attributes e = rw e
row_tag_lem Classes e = rw e

pub unknown_tag : {b : ℕ} → ¬ (b ≡ 0x01) → ((t : TableId) → ¬ (b ≡ row_tag t)) → sheet_tag b ≡ Unknown
unfolding sheet_tag row_tag
unknown_tag {b} p q = rw (says_false (says_eq b 1) p, says_false (says_eq b 32) (q Attributes), says_false (says_eq b 48) (q Classes))

-- ---- the phase and the rows that the fields before a place bring about

pub record State (h a c : ℕ) (phase : Phase) (missing : Bool) (x : Rows) : Type 0 where
  pub lacking : Says missing (h ≡ 0)
  pub first : Says (heading_open phase) (h + a + c ≡ 0)
  pub early : Says (rows_open phase Attributes) (c ≡ 0)
  pub held : (t : TableId) → length (rows_in t x) ≡ rows_of t a c

pub start_state : State 0 0 0 Start true no_rows
unfolding heading_open rows_open position rows_of
start_state = record {
  lacking = record { holds = λ e. refl; passes = λ e. refl };
  first = record { holds = λ e. refl; passes = λ e. refl };
  early = record { holds = λ e. refl; passes = λ e. refl };
  held = elim [ Attributes ↦ refl | Classes ↦ refl ];
}

module _ {h a c : ℕ} {phase : Phase} {missing : Bool} {x : Rows} (o : State h a c phase missing x) where
  heading_state : a ≡ 0 → c ≡ 0 → State 1 0 0 (InRows Attributes) false x
  unfolding heading_open rows_open position rows_of
  heading_state p q = record {
    lacking = record { holds = λ e. absurd (false≢true e); passes = λ e. absurd (omega arith) };
    first = record { holds = λ e. absurd (false≢true e); passes = λ e. absurd (omega arith) };
    early = record { holds = λ e. refl; passes = λ e. refl };
    held = elim [ Attributes ↦ o.held Attributes ∙ p | Classes ↦ o.held Classes ∙ q ];
  }

  attribute_state : (new : List ℕ) → c ≡ 0 → State h (suc a) 0 (InRows Attributes) missing (plus Attributes new x)
  unfolding heading_open rows_open position rows_of
  attribute_state new q = record {
    lacking = o.lacking;
    first = record { holds = λ e. absurd (false≢true e); passes = λ e. absurd (omega arith) };
    early = record { holds = λ e. refl; passes = λ e. refl };
    held = elim [ Attributes ↦ more (o.held Attributes) | Classes ↦ o.held Classes ∙ q ];
  }
    where
      more : length x.attributes ≡ a → length (x.attributes ++ (new ∷ [])) ≡ suc a
      more e = omega (arith, length-append x.attributes (new ∷ []), e)

  class_state : (new : List ℕ) → State h a (suc c) (InRows Classes) missing (plus Classes new x)
  unfolding heading_open rows_open position rows_of
  class_state new = record {
    lacking = o.lacking;
    first = record { holds = λ e. absurd (false≢true e); passes = λ e. absurd (omega arith) };
    early = record { holds = λ e. absurd (false≢true e); passes = λ e. absurd (omega arith) };
    held = elim [ Attributes ↦ o.held Attributes | Classes ↦ more (o.held Classes) ];
  }
    where
      more : length x.classes ≡ c → length (x.classes ++ (new ∷ [])) ≡ suc c
      more e = omega (arith, length-append x.classes (new ∷ []), e)

pub classes_open : (phase : Phase) → rows_open phase Classes ≡ true
unfolding rows_open position
classes_open Start = refl
classes_open (InRows Attributes) = refl
classes_open (InRows Classes) = refl

-- "field 01 holding 01"
pub says_heading : (s : List ℕ) (at stop : ℕ) → at + 3 ≤ stop → Says (is_heading s (at + 3) stop) (HeadingValue s at stop)
unfolding is_heading
says_heading s at stop l = says_iff (says_and (says_eq (stop - (at + 3)) 1) (says_eq (get_or s (at + 3) 0) 1))
    ((λ e. (omega (arith, e.0), e.1)), λ e. (omega (arith, e.0), e.1))

-- ---- reading comes to a place

pub record Comes (s : List ℕ) (h a c at : ℕ) (x : Rows) : Type 0 where
  pub phase : Phase
  pub missing : Bool
  pub stands : turns.Stands s at phase missing x
  pub state : State h a c phase missing x

module _ (s : List ℕ) where
  pub row_stops : (t : TableId) {at stop : ℕ} → Stands s at (row_tag t) stop → (answer : RowRead)
      → ((row_out t s (at + 3) stop).answer ≡ answer) ↔ RowStops t s at stop answer
  row_stops t {at} {stop} f answer = value_stops (Format.Row t) s stop (at + 3) _ (omega (arith, f.ends)) answer

  heading_comes : {stop : ℕ} → Stands s 0 0x01 stop → HeadingValue s 0 stop → Comes s 1 0 0 stop no_rows
  heading_comes {stop} f v =
      let l : 0 < length s = omega (arith, f.header) in
      let turn = heading_turn s 0 Start true no_rows 0x01 3 stop (field_stands f) (heading_tag refl) (start_state.first.passes refl)
      ((says_heading s 0 stop (omega (arith, v.0))).passes v) in
      record {
        phase = InRows Attributes;
        missing = false;
        stands = stands_on (stands_start s) l _ turn _ refl;
        state = heading_state start_state refl refl;
      }

  module _ {h a c at : ℕ} {x : Rows} (o : Comes s h a c at x) {stop : ℕ} where
    row_comes : (t : TableId) → RowStands t s at stop → rows_open o.phase t ≡ true → rows_of t a c < limit t
        → turns.Stands s stop (InRows t) o.missing (plus t (row_out t s (at + 3) stop).row x)
    row_comes t r free few =
        let f = r.stands in
        let l : at < length s = omega (arith, f.header) in
        let read : (row_out t s (at + 3) stop).answer ≡ row.Read = (row_stops t f row.Read).1 r.reads in
        let turn = row_turn_lem s at o.phase o.missing x (row_tag t) (at + 3) stop (field_stands f) t (row_out t s (at + 3) stop).row
        (row_tag_lem t refl) free (omega (arith, o.state.held t))
        (ap (λ (y : RowRead). out y (row_out t s (at + 3) stop).row) read) in
        stands_on o.stands l _ turn _ refl

    attribute_comes : c ≡ 0 → a < limit Attributes → RowStands Attributes s at stop
        → Comes s h (suc a) 0 stop (plus Attributes (row_out Attributes s (at + 3) stop).row x)
    unfolding rows_of
    attribute_comes q few r = record {
      phase = InRows Attributes;
      missing = o.missing;
      stands = row_comes Attributes r (o.state.early.passes q) few;
      state = attribute_state o.state _ q;
    }

    class_comes : c < limit Classes → RowStands Classes s at stop → Comes s h a (suc c) stop (plus Classes (row_out Classes s (at + 3) stop).row x)
    unfolding rows_of
    class_comes few r = record {
      phase = InRows Classes;
      missing = o.missing;
      stands = row_comes Classes r (classes_open o.phase) few;
      state = class_state o.state _;
    }

  pub comes : {h a c at : ℕ} (p : AcceptedTo s h a c at) → Comes s h a c at (rows_given p)
  unfolding rows_given
  comes AcceptedTo.none = record { phase = Start; missing = true; stands = stands_start s; state = start_state }
  comes (AcceptedTo.heading f v) = heading_comes f v
  comes (AcceptedTo.attribute p few r) = attribute_comes (comes p) refl few r
  comes (AcceptedTo.class p few r) = class_comes (comes p) few r
