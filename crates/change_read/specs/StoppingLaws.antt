-- Reading a change comes to what `ChangeStops` says, and to nothing else.
use Rattle.std.specs.Prelude.{List, ◌↔◌, ◌≡◌, refl, ℕ, ◌+◌, ◌≤◌, ◌<◌, get_or, length, Some, None, Option, Err}
use Rattle.std.proofs.Common.{⊎_elim, subst, sym, ◌∙◌, arith}
use Rattle.std.proofs.Math.Path.{ap}
use Rattle.prelude.specs.BigEndian.{big_endian}
use Rattle.prelude.specs.SaysLaws.{says_eq, says_false, says_le, says_split, says_true}
use Rattle.wire.specs.Wire.{field_at}
use Rattle.wire.specs.WireLaws.{field_end}
use Rattle.wire.specs.FieldRead.{FieldRead}
use Rattle.rows_read.specs.PlaceLaws.{field_cut, field_stands}
use Rattle.rows_read.specs.RowRead.{RowRead}
use Rattle.rows_read.specs.ObjectClass.{read_row}
use Rattle.rows_read.specs.StoppingLaws.{value_stops}
use Rattle.rows_read.specs.Stopping.{FieldCut, FieldStands}
use Rattle.change_read.specs.declared.read.Change.{Change}
use Rattle.change_read.specs.ChangeRead.{ChangeRead}
use Rattle.change_read.specs.ChangeRead.{Read, Bad}
use Rattle.change_read.specs.Reading.{change_of, field_out, format_of, read_change, read_value, scratch, tagged_out, whole_read}
use Rattle.change_read.specs.TagLaws.{Kind, a_change, kind, none, tag_known}
use Rattle.change_read.specs.Stopping.{CarriedStops, ChangeStands, ChangeStops}
use Rattle.rows_read.specs.RowRead as rows

module _ (s : List ℕ) where
  -- ---- from the statement to the answer

  by_field : {f : FieldRead} → field_at s 0 (length s) ≡ f → (read_change s).answer ≡ (field_out f s).answer
  unfolding read_change
  by_field e = ap (λ (f : FieldRead). (field_out f s).answer) e

  by_tag : {tag stop : ℕ} → FieldStands s (length s) 0 tag stop → (t : Option Change) → change_of tag ≡ t → (read_change s).answer ≡ (tagged_out t s 3 stop).answer
  unfolding field_out
  by_tag {tag} {stop} f t e = by_field (field_stands f) ∙ ap (λ (t : Option Change). (tagged_out t s 3 stop).answer) e

  module _ (change : Change) {stop : ℕ} (f : ChangeStands s change stop) where
    abbrev carried : RowRead
    carried = (read_row (format_of change) s 3 stop scratch).answer

    carried_stops : (answer : RowRead) → (carried ≡ answer) ↔ CarriedStops s change stop answer
    carried_stops answer = value_stops (format_of change) s stop 3 scratch (omega (arith, f.ends)) answer

    by_value : (answer : RowRead) → CarriedStops s change stop answer → (read_change s).answer ≡ whole_read change s stop answer
    unfolding tagged_out read_value
    by_value answer c = by_tag f (Some change) (tag_known change) ∙ ap (whole_read change s stop) ((carried_stops answer).1 c)

  stops_read : {answer : ChangeRead} → ChangeStops s answer → (read_change s).answer ≡ answer
  unfolding field_out tagged_out whole_read
  stops_read (ChangeStops.read {change} f c) = by_value change f rows.Read c ∙ rw (says_true (says_eq (length s) (length s)) refl)
  stops_read (ChangeStops.empty e) = by_field (sym (field_end s 0 (length s) (sym e)))
  stops_read (ChangeStops.cut f) = by_field (field_cut f)
  stops_read (ChangeStops.unknown {tag} f d) = go (kind tag)
    where
      go : Kind tag → (read_change s).answer ≡ Bad 0
      go (a_change change e) = absurd (d change e)
      go (none e q) = by_tag f None e
  stops_read (ChangeStops.inside change {at = at} f c) = by_value change f (rows.Bad at) c
  stops_read (ChangeStops.leftover change {stop} f c l) =
      by_value change f rows.Read c ∙ rw (says_false (says_eq stop (length s)) (λ e. omega arith))

  -- ---- from the answer to the statement: one of the cases is there

  abbrev Stopping : Type 0
  Stopping = (answer : ChangeRead) × ChangeStops s answer

  value_here : (change : Change) {stop : ℕ} → ChangeStands s change stop → Stopping
  value_here change {stop} f = go (carried change f) ((carried_stops change f _).0 refl)
    where
      go : (answer : RowRead) → CarriedStops s change stop answer → Stopping
      go (Err bad) c = (Err bad, ChangeStops.inside change f c)
      go rows.Read c =
          ⊎_elim (λ e. (Read change, ChangeStops.read (rw e.1 at f) (rw e.1 at c)))
          (λ d. (let w = f.within in (Bad stop, ChangeStops.leftover change f c (omega (arith, d.1, w))))) (says_split (says_eq stop (length s)))

  field_here : {tag stop : ℕ} → Kind tag → FieldStands s (length s) 0 tag stop → Stopping
  field_here {tag} {stop} (a_change change e) f = value_here change (subst (λ (b : ℕ). FieldStands s (length s) 0 b stop) e f)
  field_here (none e d) f = (Bad 0, ChangeStops.unknown f d)

  stopping : Stopping
  stopping = ⊎_elim (λ e. (Bad 0, ChangeStops.empty e.1)) (λ d. first (omega (arith, d.1))) (says_split (says_eq (length s) 0))
    where
      stop : ℕ
      stop = 3 + big_endian 2 1 s

      whole : 3 ≤ length s → Stopping
      whole k =
          ⊎_elim
          (λ q. field_here {tag = get_or s 0 0} {stop = stop} (kind (get_or s 0 0)) (record { tagged = refl; header = k; ends = refl; within = q.1 }))
          (λ q. (Bad 0, ChangeStops.cut (FieldCut.value k (omega (arith, q.1)))))
          (says_split (says_le stop (length s)))

      first : 0 < length s → Stopping
      first l = ⊎_elim (λ e. whole e.1) (λ e. (Bad 0, ChangeStops.cut (FieldCut.header l (omega (arith, e.1))))) (says_split (says_le 3 (length s)))

  pub change_stops : (answer : ChangeRead) → ((read_change s).answer ≡ answer) ↔ ChangeStops s answer
  change_stops answer = (λ e. subst (ChangeStops s) (sym (stops_read stopping.1) ∙ e) stopping.1, stops_read)
