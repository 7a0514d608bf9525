-- Reading a value stops where `ValueStops` says and as it says. Each turn of reading keeps what is known of the fields so far (`SoFar`), and its end is
-- one of the three cases; a value stops in one way only (OneStopLaws), so that what holds of a value is what reading comes to.
use Rattle.std.specs.Prelude.{Bool, true, false, Err, ◌||◌, ◌&&◌, ◌⊎◌, ◌↔◌, ◌≡◌, refl, ℕ, zero, suc, ◌+◌, ◌≤◌, ◌<◌, leb, length, drop}
use Rattle.std.proofs.Common.{true≢false, inl, inr, ⊎_elim, sym, ◌∙◌, add-one, arith}
use mathlib.Core.List.Memᴰ
use mathlib.Core.List.{List, [], ◌∷◌, Memᴰ}
use Rattle.std.proofs.Math.Decide.{ℕ_discrete, dec_lt}
use Rattle.prelude.specs.Below.{Some}
use Rattle.prelude.specs.BelowLaws.{last_or_less, says_any}
use Rattle.prelude.specs.Says.{Says}
use Rattle.prelude.specs.SaysLaws.{says_and, says_or, says_le, says_eq, says_test, says_split, says_iff, says_never, says_fails, neither, true_or_false}
use Rattle.wire.specs.Wire.{field_at}
use Rattle.schema.specs.declared.number.TableId.{TableId}
use Rattle.schema.specs.declared.number.TableId.TheVariants.{Attributes, Classes}
use Rattle.rows_format.specs.declared.column.Column.{Column}
use Rattle.rows_format.specs.declared.column.Presence.{Presence}
use Rattle.rows_format.specs.declared.column.Presence.TheVariants.{Required, Optional, Marked, Never}
use Rattle.rows_format.specs.declared.format.Format.{Format}
use Rattle.rows_format.specs.Columns.{required, takes}
use Rattle.rows_format.specs.declared.format.Format.TheVariants.{Row, NewRow}
use Rattle.rows_format.specs.Formats.{no_column, common_columns, attribute_columns, class_columns, own_columns, columns_of}
use Rattle.rows_format.proofs.FormatsLaws.{distinct, format_distinct}
use Rattle.rows_read.specs.Unfit.{UnfitField}
use Rattle.rows_read.specs.UnfitLaws.{unfit_field}
use Rattle.rows_read.specs.Turn.{Passed, Refused}
use Rattle.rows_read.specs.Reading.{Out, read_by, turn_of}
use Rattle.rows_read.specs.ReadingLaws.{turn_end, turn_bad, turn_other, turn_taken, turn_refused, stepped_refused, stepped_passed, stepped_taken}
use Rattle.rows_read.specs.ReadingLaws.{read_next, read_stop, read_leftover, read_missing, read_whole}
use Rattle.rows_read.specs.PlaceLaws.{Place, ends, is_cut_lem, stands, place}
use Rattle.rows_read.specs.OneStopLaws.{one_stop}
use Rattle.rows_read.specs.ObjectClass.{read_row, finish}
use Rattle.rows_read.specs.Stopping.{FieldStands, column_at, value_at, ColumnStands, After, AcceptedTo, Unacceptable, Needed, ValueStops}
use Rattle.rows_read.specs.Stopping.AcceptedTo.{none, more}
use Rattle.rows_read.specs.Stopping.Unacceptable.{cut, unknown, late, wrong}
use Rattle.rows_read.specs.Stopping.ValueStops.{read, missing, refused}
use Rattle.rows_read.specs.RowRead.{RowRead}
use Rattle.rows_read.specs.RowRead.{Read, Bad}
use Rattle.wire.specs.FieldRead as fields

-- ---- columns

-- the column of a tag, if there is one
column_of : (cs : List Column) (tag : ℕ) → Some (length cs) (λ j. (column_at cs j).tag ≡ tag) ⊎ ((j : ℕ) → j < length cs → ¬ ((column_at cs j).tag ≡ tag))
column_of cs tag = ⊎_elim (λ h. inl h.1) (λ h. inr (λ j l e. h.1 (record { at = j; below = l; is = e })))
    (says_split (says_any (length cs) {P = λ j. (column_at cs j).tag ≡ tag} (λ j l. says_eq (column_at cs j).tag tag)))

-- a column comes after all these, or after one of them not
after_or_not : (taken : List ℕ) (j : ℕ) → After taken j ⊎ ((i : ℕ) × Memᴰ i taken × (j ≤ i))
after_or_not [] j = inl (λ i m. absurd (Memᴰ.not-nil m))
after_or_not (k ∷ taken) j = go (dec_lt k j) (after_or_not taken j)
  where
    go : Dec (k < j) → After taken j ⊎ ((i : ℕ) × Memᴰ i taken × (j ≤ i)) → After (k ∷ taken) j ⊎ ((i : ℕ) × Memᴰ i (k ∷ taken) × (j ≤ i))
    go (no d) h = inr (k, Memᴰ.head refl, omega (arith, d))
    go (yes l) (inl h) = inl (λ i m. ⊎_elim (λ e. omega arith) (h i) (Memᴰ.cases_cons m))
    go (yes l) (inr h) = inr (h.0, Memᴰ.tail h.1, h.2)

-- a field that is required
says_required : (p : Presence) → Says (required p) (p ≡ Required)
unfolding required
says_required Required = record { holds = λ e. refl; passes = λ e. refl }
says_required Optional = says_iff says_never (λ n. absurd n, λ e. let no : ◌≡◌ {A = ℕ} 0 1 = cc in omega arith)
says_required Marked = says_iff says_never (λ n. absurd n, λ e. let no : ◌≡◌ {A = ℕ} 0 1 = cc in omega arith)
says_required Never = says_iff says_never (λ n. absurd n, λ e. let no : ◌≡◌ {A = ℕ} 0 1 = cc in omega arith)

-- ---- reading

module _ (cs : List Column) (s : List ℕ) (end start : ℕ) where
  -- a field that must be there, of the columns before k, and is not
  record Lacking (k : ℕ) (taken : List ℕ) : Type 0 where
    column : ℕ
    before : column < k
    needed : Needed cs column
    lacks : ¬ (Memᴰ column taken)

  -- what is known where the columns before k have had their turn
  record SoFar (k at : ℕ) (lacking : Bool) (taken : List ℕ) : Type 0 where
    within : at ≤ end
    accepted : AcceptedTo cs s end start at taken
    before : After taken k
    passed : (j stop : ℕ) → j < k → After taken j → ¬ (ColumnStands cs s end at j stop)
    lacks : lacking ≡ true → Lacking k taken
    has : lacking ≡ false → (j : ℕ) → j < k → Needed cs j → Memᴰ j taken

  -- a column's turn that leaves the field in front to the next
  so_passed : {k at : ℕ} {lacking : Bool} {taken : List ℕ} → SoFar k at lacking taken → k < length cs → ((stop : ℕ) → ¬ (ColumnStands cs s end at k stop))
      → SoFar (suc k) at (required (column_at cs k).presence || lacking) taken
  so_passed {k} {at} {lacking} {taken} h l d = record {
    within = h.within;
    accepted = h.accepted;
    before = λ i m. omega (arith, h.before i m);
    passed = λ j stop g a c. ⊎_elim (λ b. h.passed j stop b a c) (λ e. d stop (rw e at c)) (last_or_less g);
    lacks = λ e. ⊎_elim this (λ e. earlier (h.lacks e)) ((says_or required_is (says_test lacking)).holds e);
    has = λ e j g n. ⊎_elim (λ b. h.has (neither needs lacking e).1 j b n) (λ q. absurd (optional (neither needs lacking e).0 (rw q at n.1)))
        (last_or_less g);
  }
    where
      needs : Bool
      needs = required (column_at cs k).presence

      required_is : Says needs ((column_at cs k).presence ≡ Required)
      required_is = says_required (column_at cs k).presence

      optional : needs ≡ false → ¬ ((column_at cs k).presence ≡ Required)
      optional = says_fails required_is

      this : (column_at cs k).presence ≡ Required → Lacking (suc k) taken
      this e = record { column = k; before = omega arith; needed = (l, e); lacks = λ m. omega (arith, h.before k m) }

      earlier : Lacking k taken → Lacking (suc k) taken
      earlier f = record { column = f.column; before = omega (arith, f.before); needed = f.needed; lacks = f.lacks }

  -- one that takes it
  so_taken : {k at stop : ℕ} {lacking : Bool} {taken : List ℕ} → SoFar k at lacking taken → ColumnStands cs s end at k stop
      → ¬ (UnfitField (column_at cs k) (value_at s at stop)) → SoFar (suc k) stop lacking (k ∷ taken)
  so_taken {k} {at} {stop} {lacking} {taken} h c u = record {
    within = c.stands.within;
    accepted = more h.accepted h.before c u;
    before = λ i m. ⊎_elim (λ e. omega arith) (λ w. omega (arith, h.before i w)) (Memᴰ.cases_cons m);
    passed = λ j _ g a _. absurd (omega (arith, a k (Memᴰ.head refl)));
    lacks = λ e. earlier (h.lacks e);
    has = λ e j g n. ⊎_elim (λ b. Memᴰ.tail (h.has e j b n)) (λ q. Memᴰ.head q) (last_or_less g);
  }
    where
      earlier : Lacking k taken → Lacking (suc k) (k ∷ taken)
      earlier f = record {
        column = f.column;
        before = omega (arith, f.before);
        needed = f.needed;
        lacks = λ m. ⊎_elim (λ e. omega (arith, f.before)) f.lacks (Memᴰ.cases_cons m);
      }

  -- behind the last column: a field that is left over cannot be accepted
  leftover : {k at : ℕ} {lacking : Bool} {taken : List ℕ} → SoFar k at lacking taken → length cs ≤ k → ¬ (at ≡ end) → Unacceptable cs s end at taken
  leftover {k} {at} {lacking} {taken} h l d = go (place s end at h.within)
    where
      found : {tag stop : ℕ} → FieldStands s end at tag stop → Some (length cs) (λ j. (column_at cs j).tag ≡ tag) → Unacceptable cs s end at taken
      found {tag} {stop} f q =
          let c : ColumnStands cs s end at q.at stop =
          record { known = q.below; stands = record { tagged = f.tagged ∙ sym q.is; header = f.header; ends = f.ends; within = f.within } } in
          ⊎_elim (λ a. absurd (h.passed q.at stop (omega (arith, q.below)) a c)) (λ b. late c b.1 b.2) (after_or_not taken q.at)

      go : Place s end at → Unacceptable cs s end at taken
      go (ends e _) = absurd (d e)
      go (is_cut_lem c _) = cut c
      go (stands {tag} f _) = ⊎_elim (found f) (unknown f) (column_of cs tag)

  abbrev Stops : Out → Type 0
  Stops o = ValueStops cs s end start o.answer

  -- the last turn
  stops_last : (k at : ℕ) (lacking : Bool) (row taken : List ℕ) → length cs ≤ k → SoFar k at lacking taken → Stops (read_by s end (drop k cs) at lacking row)
  stops_last k at lacking row taken l h = go (ℕ_discrete at end) (true_or_false lacking)
    where
      lack : Lacking k taken → at ≡ end → ValueStops cs s end start (Bad end)
      lack f e = missing (rw e at h.accepted) f.needed f.lacks

      go : Dec (at ≡ end) → (lacking ≡ true) ⊎ (lacking ≡ false) → Stops (read_by s end (drop k cs) at lacking row)
      go (no d) m = rw (read_leftover cs no_column s end k at lacking row l d) (refused h.accepted (leftover h l d))
      go (yes e) (inl m) = rw (read_missing cs no_column s end k at lacking row l e m) (lack (h.lacks m) e)
      go (yes e) (inr m) = rw (read_whole cs no_column s end k at lacking row l e m)
          (read (rw e at h.accepted) (λ j n. h.has m j (omega (arith, n.0)) n))

  -- each turn
  stops_turn : (k at : ℕ) (lacking : Bool) (row taken : List ℕ) → k < length cs → SoFar k at lacking taken
      → ((at : ℕ) (lacking : Bool) (row taken : List ℕ) → SoFar (suc k) at lacking taken → Stops (read_by s end (drop (suc k) cs) at lacking row))
      → Stops (read_by s end (drop k cs) at lacking row)
  stops_turn k at lacking row taken l h rest = go (place s end at h.within)
    where
      r : Column
      r = column_at cs k

      pass : Passed ≡ turn_of s at r (field_at s at end) → ((stop : ℕ) → ¬ (ColumnStands cs s end at k stop)) → Stops (read_by s end (drop k cs) at lacking row)
      pass t d = rw (read_next cs no_column s end k at lacking row l refl (stepped_passed s r at end lacking row t refl) refl, add-one k)
          (rest _ _ _ _ (so_passed h l d))

      refuse : Refused at ≡ turn_of s at r (field_at s at end) → Unacceptable cs s end at taken → Stops (read_by s end (drop k cs) at lacking row)
      refuse t u = rw (read_stop cs no_column s end k at lacking row l refl (stepped_refused s r at end lacking row t refl) refl) (refused h.accepted u)

      own : {stop : ℕ} → ColumnStands cs s end at k stop → field_at s at end ≡ fields.Field r.tag (at + 3) stop
          → (takes r (value_at s at stop) ≡ true) ⊎ (takes r (value_at s at stop) ≡ false) → Stops (read_by s end (drop k cs) at lacking row)
      own {stop} c q (inl e) =
          let taken_is = stepped_taken s r at end lacking row (turn_taken s r at end refl q refl e) refl in
          rw (read_next cs no_column s end k at lacking row l refl taken_is refl, add-one k)
          (rest _ _ _ _ (so_taken h c (λ u. true≢false (sym e ∙ (unfit_field (value_at s at stop) r).1 u))))
      own {stop} c q (inr e) = refuse (turn_refused s r at end refl q refl e) (wrong c ((unfit_field (value_at s at stop) r).0 e))

      field : {tag stop : ℕ} → FieldStands s end at tag stop → field_at s at end ≡ fields.Field tag (at + 3) stop → Dec (tag ≡ r.tag)
          → Stops (read_by s end (drop k cs) at lacking row)
      field {tag} {stop} f q (yes e) = own (record { known = l; stands = rw e at f }) (rw e at q) (true_or_false (takes r (value_at s at stop)))
      field {tag} {stop} f q (no d) = pass (turn_other s r at end refl q d) (λ _ c. d (sym f.tagged ∙ c.stands.tagged))

      go : Place s end at → Stops (read_by s end (drop k cs) at lacking row)
      go (ends e q) = pass (turn_end s r at end refl q) (λ _ c. omega (arith, c.stands.header))
      go (is_cut_lem c q) = refuse (turn_bad s r at end refl q) (cut c)
      go (stands {tag} f q) = field f q (ℕ_discrete tag r.tag)

  stops_from : (n k at : ℕ) (lacking : Bool) (row taken : List ℕ) → n + k ≡ length cs → SoFar k at lacking taken
      → Stops (read_by s end (drop k cs) at lacking row)
  stops_from zero k at lacking row taken e h = stops_last k at lacking row taken (omega arith) h
  stops_from (suc n) k at lacking row taken e h =
      stops_turn k at lacking row taken (omega arith) h (λ at lacking row taken g. stops_from n (suc k) at lacking row taken (omega arith) g)

  reading_stops : (row : List ℕ) → start ≤ end → Stops (read_by s end cs start false row)
  reading_stops row l = stops_from (length cs) 0 start false row [] (omega arith) (record {
    within = l;
    accepted = none;
    before = λ i m. absurd (Memᴰ.not-nil m);
    passed = λ j stop b. absurd (omega arith);
    lacks = λ e. absurd (true≢false (sym e));
    has = λ e j b. absurd (omega arith);
  })

-- ---- reading a value stops so, and only so

-- for any table whose tags differ
pub table_stops : (cs : List Column) → distinct cs ≡ true → (s : List ℕ) (end start : ℕ) (row : List ℕ) → start ≤ end → (answer : RowRead)
    → ((read_by s end cs start false row).answer ≡ answer) ↔ ValueStops cs s end start answer
table_stops cs d s end start row l answer = let stops = reading_stops cs s end start row l in (λ e. rw e at stops, λ v. one_stop cs d s end start stops v)

-- what is made of the fields that were read is no part of the answer
finish_answer : (format : Format) (answer : RowRead) (row : List ℕ) → (finish format answer row).answer ≡ answer
unfolding finish
finish_answer format Read row = refl
finish_answer format (Err bad) row = refl

-- for the formats
pub value_stops : (format : Format) (s : List ℕ) (end start : ℕ) (row : List ℕ) → start ≤ end → (answer : RowRead)
    → ((read_row format s start end row).answer ≡ answer) ↔ ValueStops (columns_of format) s end start answer
unfolding read_row
value_stops format s end start row l answer =
    let o : Out = read_by s end (columns_of format) start false row in
    rw (finish_answer format o.answer o.row) (table_stops (columns_of format) (format_distinct format) s end start row l answer)

-- ---- the order of a row's fields

-- the tags of a table rise, the first at least low
rising : ℕ → List Column → Bool
rising low [] = true
rising low (r ∷ rs) = leb low r.tag && rising (suc r.tag) rs

rising_cons : (low : ℕ) (r : Column) (rs : List Column) → rising low (r ∷ rs) ≡ true → (low ≤ r.tag) × (rising (suc r.tag) rs ≡ true)
unfolding rising
rising_cons low r rs h = (says_and (says_le low r.tag) (says_test (rising (suc r.tag) rs))).holds h

rising_from : (low : ℕ) (cs : List Column) (j : ℕ) → rising low cs ≡ true → j < length cs → low ≤ (column_at cs j).tag
rising_from low [] j h l = absurd (omega arith)
rising_from low (r ∷ rs) zero h l = (rising_cons low r rs h).0
rising_from low (r ∷ rs) (suc j) h l =
    let t = rising_cons low r rs h in
    omega (arith, t.0, rising_from (suc r.tag) rs j t.1 (omega arith))

-- a column that comes after another has a larger tag
abbrev pub InTagOrder : List Column → Type 0
InTagOrder cs = (i j : ℕ) → i < j → j < length cs → (column_at cs i).tag < (column_at cs j).tag

in_tag_order : (low : ℕ) (cs : List Column) → rising low cs ≡ true → InTagOrder cs
in_tag_order low [] h i j l k = absurd (omega arith)
in_tag_order low (r ∷ rs) h zero zero l k = absurd (omega arith)
in_tag_order low (r ∷ rs) h (suc i) zero l k = absurd (omega arith)
in_tag_order low (r ∷ rs) h zero (suc j) l k = rising_from (suc r.tag) rs j (rising_cons low r rs h).1 (omega arith)
in_tag_order low (r ∷ rs) h (suc i) (suc j) l k = in_tag_order (suc r.tag) rs (rising_cons low r rs h).1 i j (omega arith) (omega arith)

-- "fields in rising tag order": in a row, the order of the columns is that of the tags
pub row_order : (t : TableId) → InTagOrder (columns_of (Row t)) × InTagOrder (columns_of (NewRow t))
unfolding rising columns_of own_columns common_columns attribute_columns class_columns
row_order Attributes = (in_tag_order 0 (columns_of (Row Attributes)) refl, in_tag_order 0 (columns_of (NewRow Attributes)) refl)
row_order Classes = (in_tag_order 0 (columns_of (Row Classes)) refl, in_tag_order 0 (columns_of (NewRow Classes)) refl)
