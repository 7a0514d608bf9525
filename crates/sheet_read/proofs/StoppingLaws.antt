-- Reading a sheet comes to what `SheetStops` says, and to nothing else.
use Rattle.std.specs.Prelude.{Bool, ◌&&◌, false, List, ◌↔◌, ◌⊎◌, ◌≡◌, refl, ℕ, suc, zero, ◌+◌, ◌≤◌, ◌<◌, get_or, Err}
use Rattle.std.proofs.Math.Bool.{cond, true}
use Rattle.std.proofs.Math.Logic.{inl, inr, ⊎_elim}
use Rattle.std.proofs.Math.Path.{ap}
use Rattle.std.proofs.Common.{subst, sym, ◌∙◌}
use native.Mathlib.Omega.{arith}
use Rattle.std.proofs.Math.Dec.{eqb}
use Rattle.std.proofs.Math.ListN.{length}
use Rattle.prelude.specs.BigEndian.{big_endian}
use Rattle.prelude.specs.SaysLaws.{says_and, says_eq, says_false, says_le, says_split, says_true}
use Rattle.wire.specs.Wire.{field_at}
use Rattle.wire.specs.FieldRead.{FieldRead}
use Rattle.schema.specs.declared.number.TableId.{TableId}
use Rattle.schema.specs.declared.number.TableId.TheVariants.{Attributes, Classes}
use Rattle.schema.specs.Numbers.{limit}
use Rattle.rows_read.specs.PlaceLaws.{field_cut, field_stands}
use Rattle.rows_read.specs.RowRead.{RowRead}
use Rattle.rows_read.specs.Stopping.{FieldCut}
use Rattle.sheet_read.specs.SheetRead.{SheetRead}
use Rattle.sheet_read.specs.declared.read.SheetError.{SheetError}
use Rattle.sheet_read.specs.SheetRead.{Read, Bad, Full}
use Rattle.sheet_read.specs.SheetTag.{SheetTag}
use Rattle.sheet_read.specs.SheetTag.{Heading, Row, Unknown}
use Rattle.sheet_read.specs.Turn.{Turn}
use Rattle.sheet_read.specs.Turn.{Stop}
use Rattle.sheet_read.specs.Reading.{Rows, SheetOut, Step, field_step, heading_open, is_heading, read_sheet, room_at, room_step, row_out}
use Rattle.sheet_read.specs.Reading.{row_turn, rows_in, rows_open, sheet_tag, take_field, take_heading, take_table_row, take_tagged}
use Rattle.sheet_read.specs.Stopping.{AcceptedTo, HeadingValue, NoRoom, RowStands, RowStops, SheetStops, Stands, Unacceptable, row_tag}
use Rattle.sheet_read.specs.Stopping.{rows_given, rows_of}
use Rattle.sheet_read.proofs.TurnLaws.{stands_end, stands_stop, tagged_is}
use Rattle.sheet_read.proofs.AcceptedLaws.{Comes, Kind, a_heading, a_row, classes_open, comes, heading_tag, kind, neither}
use Rattle.sheet_read.proofs.AcceptedLaws.{row_stops, row_tag_lem, says_heading, unknown_tag}
use Rattle.rows_read.specs.RowRead as row
use Rattle.sheet_read.specs.Room.{Room}
use Rattle.sheet_read.specs.Room as room
use Rattle.sheet_read.specs.declared.read.SheetError.TheVariants as error

module _ (s : List ℕ) where
  -- ---- from the statement to the answer: reading has come to a place, and what stands there ends it

  module _ {h a c at : ℕ} {x : Rows} (o : Comes s h a c at x) where
    abbrev turn : Turn
    turn = (take_field s at o.phase o.missing x).turn

    answered : {error : SheetError} → at < length s → turn ≡ Stop error → (read_sheet s).answer ≡ Err error
    answered {error} l e = ap (λ (x : SheetOut). x.answer) (stands_stop o.stands l _ refl error e)

    -- the end
    ended : (b : Bool) → o.missing ≡ b → at ≡ length s → (read_sheet s).answer ≡ cond b (Bad at) Read
    ended b m e = ap (λ (x : SheetOut). x.answer) (stands_end o.stands (omega arith)) ∙ ap (λ (m : Bool). cond m (Bad at) Read) m

    by_room : {r : Room} → room_at (sheet_tag (get_or s at 0)) x ≡ r
        → turn ≡ (room_step r x (field_step (field_at s at (length s)) s at o.phase o.missing x)).turn
    unfolding take_field
    by_room e = ap (λ (r : Room). (room_step r x (field_step (field_at s at (length s)) s at o.phase o.missing x)).turn) e

    -- the tag of a row for which there is no room
    no_room : (t : TableId) → NoRoom t s a c at → turn ≡ Stop (error.Full t)
    unfolding room_at room_step
    no_room t n =
        let is : eqb (length (rows_in t x)) (limit t) ≡ true =
        says_true (says_eq (length (rows_in t x)) (limit t)) (o.state.held t ∙ n.filled) in
        let full : room_at (sheet_tag (get_or s at 0)) x ≡ room.Full t =
        ap (λ (k : SheetTag). room_at k x) (row_tag_lem t n.tagged) ∙ ap (λ (b : Bool). cond b (room.Full t) room.Free) is in
        by_room full

    -- there is room
    module _ (free : (t : TableId) → ¬ (NoRoom t s a c at)) where
      has_room : at < length s → room_at (sheet_tag (get_or s at 0)) x ≡ room.Free
      unfolding room_at
      has_room l = go (kind (get_or s at 0))
        where
          by_tag : {which : SheetTag} → sheet_tag (get_or s at 0) ≡ which → room_at (sheet_tag (get_or s at 0)) x ≡ room_at which x
          by_tag e = ap (λ (k : SheetTag). room_at k x) e

          go : Kind (get_or s at 0) → room_at (sheet_tag (get_or s at 0)) x ≡ room.Free
          go (a_heading e) = by_tag (heading_tag e)
          go (neither p q) = by_tag (unknown_tag p q)
          go (a_row t e) =
              by_tag (row_tag_lem t e)
              ∙ ap (λ (b : Bool). cond b (room.Full t) room.Free)
              (says_false (says_eq (length (rows_in t x)) (limit t))
              (λ q. free t (record { before = l; tagged = e; filled = sym (o.state.held t) ∙ q })))

      -- a field that is cut
      cut_turn : FieldCut s (length s) at → at < length s → turn ≡ Stop (error.Bad at)
      unfolding room_step field_step
      cut_turn f l = by_room (has_room l) ∙ ap (λ (y : FieldRead). (field_step y s at o.phase o.missing x).turn) (field_cut f)

      -- a whole field
      whole_turn : {tag stop : ℕ} → Stands s at tag stop → (which : SheetTag) → sheet_tag tag ≡ which
          → turn ≡ (take_tagged which s at o.phase o.missing (at + 3) stop x).turn
      whole_turn {tag} {stop} f which known =
          ap (λ (y : Step). y.turn)
          (tagged_is s at o.phase o.missing x tag (at + 3) stop (field_stands f) which known
          (ap (λ (k : SheetTag). room_at k x) (sym (ap sheet_tag f.tagged ∙ known)) ∙ has_room (omega (arith, f.header))))

      -- a heading that may not come, or holds something else
      heading_stop : {stop : ℕ} → Stands s at 0x01 stop → (heading_open o.phase && is_heading s (at + 3) stop) ≡ false → turn ≡ Stop (error.Bad at)
      unfolding take_tagged take_heading
      heading_stop f e = whole_turn f Heading (heading_tag refl) ∙ rw e

      -- a row that may not come, or whose innermost field is refused
      late_stop : (t : TableId) {stop : ℕ} → Stands s at (row_tag t) stop → rows_open o.phase t ≡ false → turn ≡ Stop (error.Bad at)
      unfolding take_tagged
      late_stop t f e = whole_turn f (Row t) (row_tag_lem t refl) ∙ rw e

      row_stop : (t : TableId) {stop place : ℕ} → Stands s at (row_tag t) stop → rows_open o.phase t ≡ true → RowStops t s at stop (row.Bad place)
          → turn ≡ Stop (error.Bad place)
      unfolding take_tagged take_table_row row_turn
      row_stop t f e r = whole_turn f (Row t) (row_tag_lem t refl) ∙ rw (e, (row_stops s t f _).1 r)

      refused_turn : {place : ℕ} → Unacceptable s h a c at place → (at < length s) × (turn ≡ Stop (error.Bad place))
      unfolding take_tagged
      refused_turn (Unacceptable.cut f) = let l = before f in (l, cut_turn f l)
        where
          before : FieldCut s (length s) at → at < length s
          before (FieldCut.header l k) = l
          before (FieldCut.value l k) = omega arith
      refused_turn (Unacceptable.unknown f p q) = (omega (arith, f.header), whole_turn f Unknown (unknown_tag p q))
      refused_turn (Unacceptable.late_heading {stop} f l) = (
        omega (arith, f.header),
        heading_stop f (says_false (says_and o.state.first (says_heading s at stop (omega (arith, f.ends)))) (λ e. omega (arith, e.0))),
      )
      refused_turn (Unacceptable.wrong_heading {stop} f d) = (
        omega (arith, f.header),
        heading_stop f (says_false (says_and o.state.first (says_heading s at stop (omega (arith, f.ends)))) (λ e. d e.1)),
      )
      refused_turn (Unacceptable.late_attribute f l) = (omega (arith, f.header), late_stop Attributes f (says_false o.state.early (λ e. omega arith)))
      refused_turn (Unacceptable.in_attribute f e r) = (omega (arith, f.header), row_stop Attributes f (o.state.early.passes e) r)
      refused_turn (Unacceptable.in_class f r) = (omega (arith, f.header), row_stop Classes f (classes_open o.phase) r)

  stops_read : {answer : SheetRead} → SheetStops s answer → (read_sheet s).answer ≡ answer
  stops_read (SheetStops.read p) = let o = comes s p in ended o false (says_false o.state.lacking (λ e. omega arith)) refl
  stops_read (SheetStops.headless p) = let o = comes s p in ended o true (o.state.lacking.passes refl) refl
  stops_read (SheetStops.full {t = t} p n) = let o = comes s p in answered o n.before (no_room o t n)
  stops_read (SheetStops.refused p free u) = let o = comes s p in let e = refused_turn o free u in answered o e.0 e.1

  -- a sheet that is accepted to its end gives the rows of its fields
  pub sheet_rows_lem : {h a c : ℕ} (p : AcceptedTo s h a c (length s)) → (read_sheet s).rows ≡ rows_given p
  sheet_rows_lem p = ap (λ (o : SheetOut). o.rows) (stands_end (comes s p).stands (omega arith))

  -- ---- from the answer to the statement: at every place that reading comes to, one of the cases is there

  -- a sheet stops in some way
  abbrev Stopping : Type 0
  Stopping = (answer : SheetRead) × SheetStops s answer

  -- a heading is there or not, and the rows fit
  record Counts (h a c : ℕ) : Type 0 where
    headings : (h ≡ 0) ⊎ (h ≡ 1)
    few : (t : TableId) → rows_of t a c ≤ limit t

  counts : {h a c at : ℕ} → AcceptedTo s h a c at → Counts h a c
  unfolding rows_of
  counts AcceptedTo.none = record { headings = inl refl; few = elim [ Attributes ↦ omega arith | Classes ↦ omega arith ] }
  counts (AcceptedTo.heading f v) = record { headings = inr refl; few = elim [ Attributes ↦ omega arith | Classes ↦ omega arith ] }
  counts (AcceptedTo.attribute p l r) = record { headings = (counts p).headings; few = elim [ Attributes ↦ l | Classes ↦ omega arith ] }
  counts (AcceptedTo.class p l r) = record { headings = (counts p).headings; few = elim [ Attributes ↦ (counts p).few Attributes | Classes ↦ l ] }

  -- nothing is accepted yet only in front
  nothing_yet : {h a c at : ℕ} → AcceptedTo s h a c at → h + a + c ≡ 0 → at ≡ 0
  nothing_yet AcceptedTo.none e = refl
  nothing_yet (AcceptedTo.heading f v) e = absurd (omega arith)
  nothing_yet (AcceptedTo.attribute p l r) e = absurd (omega arith)
  nothing_yet (AcceptedTo.class p l r) e = absurd (omega arith)

  field_or_cut : (at : ℕ) → at < length s → ((stop : ℕ) × Stands s at (get_or s at 0) stop) ⊎ FieldCut s (length s) at
  field_or_cut at l = ⊎_elim (λ e. whole e.1) (λ e. inr (FieldCut.header l (omega (arith, e.1)))) (says_split (says_le (at + 3) (length s)))
    where
      stop : ℕ
      stop = at + 3 + big_endian 2 (at + 1) s

      whole : at + 3 ≤ length s → ((stop : ℕ) × Stands s at (get_or s at 0) stop) ⊎ FieldCut s (length s) at
      whole k =
          ⊎_elim (λ q. inl (stop, record { tagged = refl; header = k; ends = refl; within = q.1 })) (λ q. inr (FieldCut.value k (omega (arith, q.1))))
          (says_split (says_le stop (length s)))

  module _ {h a c at : ℕ} (p : AcceptedTo s h a c at) where
    ending : at ≡ length s → Stopping
    ending e = ⊎_elim (λ q. (Bad (length s), SheetStops.headless (here q))) (λ q. (Read, SheetStops.read (here q))) (counts p).headings
      where
        here : {n : ℕ} → h ≡ n → AcceptedTo s n a c (length s)
        here {n} q = rw (q, e) at p

    -- the field that stands here is looked at, and the rest behind it where it is accepted
    module _ (l : at < length s) (rest : (h a c stop : ℕ) → at < stop → AcceptedTo s h a c stop → Stopping) where
      module _ (free : (t : TableId) → ¬ (NoRoom t s a c at)) where
        refuse : {place : ℕ} → Unacceptable s h a c at place → Stopping
        refuse {place} u = (Bad place, SheetStops.refused p free u)

        module _ {stop : ℕ} where
          fits : (t : TableId) → Stands s at (row_tag t) stop → rows_of t a c < limit t
          fits t f =
              let d : ¬ (rows_of t a c ≡ limit t) = λ q. free t (record { before = l; tagged = f.tagged; filled = q }) in
              omega (arith, (counts p).few t, d)

          on : {tag : ℕ} → Stands s at tag stop → at < stop
          on f = omega (arith, f.ends)

          row_here : (t : TableId) → Stands s at (row_tag t) stop → ((place : ℕ) → RowStops t s at stop (row.Bad place) → Stopping)
              → (RowStands t s at stop → Stopping) → Stopping
          row_here t f bad good = go (row_out t s (at + 3) stop).answer ((row_stops s t f _).0 refl)
            where
              go : (r : RowRead) → RowStops t s at stop r → Stopping
              go row.Read e = good (record { stands = f; reads = e })
              go (Err b) e = bad b.at e

          attribute_here : Stands s at (row_tag Attributes) stop → Stopping
          unfolding rows_of
          attribute_here f = ⊎_elim (λ e. early e.1) (λ d. refuse (Unacceptable.late_attribute f (omega (arith, d.1)))) (says_split (says_eq c 0))
            where
              early : c ≡ 0 → Stopping
              early e =
                  row_here Attributes f (λ place r. refuse (Unacceptable.in_attribute f e r))
                  (λ r. rest _ _ _ _ (on f) (AcceptedTo.attribute (subst (λ (n : ℕ). AcceptedTo s h a n at) e p) (fits Attributes f) r))

          class_here : Stands s at (row_tag Classes) stop → Stopping
          unfolding rows_of
          class_here f = row_here Classes f (λ place r. refuse (Unacceptable.in_class f r)) (λ r. rest _ _ _ _ (on f) (AcceptedTo.class p (fits Classes f) r))

          heading_here : Stands s at 0x01 stop → Stopping
          heading_here f =
              ⊎_elim (λ e. first (nothing_yet p e.1)) (λ d. refuse (Unacceptable.late_heading f (omega (arith, d.1))))
              (says_split (says_eq (h + a + c) 0))
            where
              first : at ≡ 0 → Stopping
              first e =
                  let g : Stands s 0 0x01 stop = subst (λ (n : ℕ). Stands s n 0x01 stop) e f in
                  ⊎_elim (λ v. rest _ _ _ _ (on f) (AcceptedTo.heading g (subst (λ (n : ℕ). HeadingValue s n stop) e v.1)))
                  (λ d. refuse (Unacceptable.wrong_heading f d.1))
                  (says_split (says_heading s at stop (omega (arith, f.ends))))

          field_here : {tag : ℕ} → Kind tag → Stands s at tag stop → Stopping
          field_here (a_heading e) f = heading_here (subst (λ (b : ℕ). Stands s at b stop) e f)
          field_here (a_row Attributes e) f = attribute_here (subst (λ (b : ℕ). Stands s at b stop) e f)
          field_here (a_row Classes e) f = class_here (subst (λ (b : ℕ). Stands s at b stop) e f)
          field_here (neither q r) f = refuse (Unacceptable.unknown f q r)

        free_here : Stopping
        free_here = ⊎_elim (λ f. field_here (kind (get_or s at 0)) f.1) (λ f. refuse (Unacceptable.cut f)) (field_or_cut at l)

      -- "before any 4 there"
      here : Stopping
      here = ⊎_elim (λ n. (Full n.0, SheetStops.full p n.1)) free_here room_or_none
        where
          decide : (t : TableId) → NoRoom t s a c at ⊎ (¬ (NoRoom t s a c at))
          decide t = ⊎_elim (λ e. inl (record { before = l; tagged = e.1.0; filled = e.1.1 })) (λ d. inr (λ n. d.1 (n.tagged, n.filled)))
              (says_split (says_and (says_eq (get_or s at 0) (row_tag t)) (says_eq (rows_of t a c) (limit t))))

          room_or_none : ((t : TableId) × NoRoom t s a c at) ⊎ ((t : TableId) → ¬ (NoRoom t s a c at))
          room_or_none =
              ⊎_elim (λ n. inl (Attributes, n))
              (λ d. ⊎_elim (λ n. inl (Classes, n)) (λ e. inr (elim [ Attributes ↦ d | Classes ↦ e ])) (decide Classes))
              (decide Attributes)

  -- as many fields as bytes at the most
  stopping : (n : ℕ) {h a c at : ℕ} → length s ≤ at + n → AcceptedTo s h a c at → Stopping
  stopping zero {h} {a} {c} {at} k p = let w = (comes s p).stands.within in ending p (omega (arith, w))
  stopping (suc n) {h} {a} {c} {at} k p =
      let w = (comes s p).stands.within in
      ⊎_elim (λ e. ending p e.1) (λ d. here p (omega (arith, w, d.1)) (λ h a c stop l q. stopping n (omega arith) q)) (says_split (says_eq at (length s)))

  pub sheet_stops : (answer : SheetRead) → ((read_sheet s).answer ≡ answer) ↔ SheetStops s answer
  sheet_stops answer = (to, stops_read)
    where
      to : (read_sheet s).answer ≡ answer → SheetStops s answer
      to e = let x = stopping (length s) (omega arith) AcceptedTo.none in subst (SheetStops s) (sym (stops_read x.1) ∙ e) x.1
