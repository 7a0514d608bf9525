-- Laws of reading by a table: what a column makes of each field in front, and a turn and the end of the way through a table.
use Rattle.std.specs.Prelude.{Bool, false, cond, ◌||◌, List, Some, None, Ok, Err, ◌≡◌, ℕ, ◌+◌, ◌-◌, ◌≤◌, ◌<◌, eqb, length, get_or, drop}
use Rattle.std.proofs.Math.Bool.{true}
use Rattle.std.proofs.Math.Path.{refl, ap}
use Rattle.std.proofs.Common.{sym, ◌∙◌, add-one, arith, drop_of_length-le}
use Rattle.std.proofs.Math.Seq.{drop-cons}
use borrow.Author.Tests.{eq-eqb, ne_eqb, eqb-true}
use Rattle.prelude.specs.Part.{part, splice, zeros}
use Rattle.wire.specs.Wire.{field_at}
use Rattle.wire.specs.WireLaws.{Whole, one_field, field_is}
use Rattle.wire.specs.FieldRead.{FieldRead}
use Rattle.wire.specs.declared.BadField.{BadField}
use Rattle.wire.specs.declared.Field.{Field}
use Rattle.rows_read.specs.declared.field.Progress.{Progress}
use Rattle.rows_format.specs.declared.column.Column.{Column}
use Rattle.rows_format.specs.Columns.{required, column_width, takes, cell_of}
use Rattle.rows_read.specs.RowRead.{Read, Bad}
use Rattle.rows_read.specs.Turn.{Turn, Taken, Passed, Refused}
use Rattle.rows_read.specs.Reading.{turn_of, Took, next, took_of, row_of, out, onward, read_by}
use Rattle.wire.specs.FieldRead as fields

-- ---- what a column makes of the field in front

module _ (s : List ℕ) (r : Column) (at end : ℕ) where
  abbrev pub turn : Turn
  turn = turn_of s at r (field_at s at end)

  pub turn_end : {f : FieldRead} → f ≡ field_at s at end → f ≡ fields.End → Passed ≡ turn
  unfolding turn_of
  turn_end e h = rw (← e, h)

  pub turn_bad : {f : FieldRead} {p : ℕ} → f ≡ field_at s at end → f ≡ fields.Bad p → Refused at ≡ turn
  unfolding turn_of
  turn_bad e h = rw (← e, h)

  pub turn_other : {f : FieldRead} {tag start stop : ℕ} → f ≡ field_at s at end → f ≡ fields.Field tag start stop → ¬ (tag ≡ r.tag) → Passed ≡ turn
  unfolding turn_of
  turn_other e h d = rw (← e, h, ne_eqb _ _ d)

  pub turn_taken : {f : FieldRead} {tag start stop : ℕ} → f ≡ field_at s at end → f ≡ fields.Field tag start stop → tag ≡ r.tag
      → takes r (part start (stop - start) s) ≡ true → Taken tag start stop ≡ turn
  unfolding turn_of
  turn_taken e h t k = rw (← e, h, eq-eqb _ _ t, k)

  pub turn_refused : {f : FieldRead} {tag start stop : ℕ} → f ≡ field_at s at end → f ≡ fields.Field tag start stop → tag ≡ r.tag
      → takes r (part start (stop - start) s) ≡ false → Refused at ≡ turn
  unfolding turn_of
  turn_refused e h t k = rw (← e, h, eq-eqb _ _ t, k)

  -- a field that is refused is told by its own place
  pub refused_here : {bad : BadField} → turn ≡ Err bad → bad.at ≡ at
  unfolding turn_of
  refused_here {bad} e = go (field_at s at end) e
    where
      place : ◌≡◌ {A = Turn} (Refused at) (Err bad) → bad.at ≡ at
      place q = let same : ◌≡◌ {A = BadField} (record { at = at }) bad = cc in sym (ap (λ (b : BadField). b.at) same)

      pass : (f : Field) (x y : Bool) → cond x (cond y (Ok (Some f)) (Refused at)) Passed ≡ Err bad → bad.at ≡ at
      pass f false y e = let no : ◌≡◌ {A = ℕ} 0 1 = cc in absurd (omega arith)
      pass f true false e = place e
      pass f true true e = let no : ◌≡◌ {A = ℕ} 0 1 = cc in absurd (omega arith)

      go : (f : FieldRead) → turn_of s at r f ≡ Err bad → bad.at ≡ at
      go (Ok None) e = let no : ◌≡◌ {A = ℕ} 0 1 = cc in absurd (omega arith)
      go (Err b) e = place e
      go (Ok (Some f)) e = pass f (eqb f.tag r.tag) (takes r (part f.start (f.end - f.start) s)) e

  -- what a field that was taken is
  pub record IsTaken (start stop : ℕ) : Type 0 where
    pub field : field_at s at end ≡ fields.Field r.tag start stop
    pub whole : Whole s at end r.tag start stop
    pub takes : takes r (part start (stop - start) s) ≡ true

  pub is_taken : (tag start stop : ℕ) → turn ≡ Taken tag start stop → IsTaken start stop
  unfolding turn_of
  is_taken of start stop e = go (field_at s at end) refl e
    where
      made : field_at s at end ≡ fields.Field r.tag start stop → takes r (part start (stop - start) s) ≡ true → IsTaken start stop
      made f t = record { field = f; whole = field_is s at end r.tag start stop f; takes = t }

      pass : (tag a b : ℕ) (x y : Bool) → eqb tag r.tag ≡ x → takes r (part a (b - a) s) ≡ y → field_at s at end ≡ fields.Field tag a b
          → cond x (cond y (Taken tag a b) (Refused at)) Passed ≡ Taken of start stop → IsTaken start stop
      pass tag a b false y p q f e = let no : ◌≡◌ {A = ℕ} 0 1 = cc in absurd (omega arith)
      pass tag a b true false p q f e = let no : ◌≡◌ {A = ℕ} 0 1 = cc in absurd (omega arith)
      pass tag a b true true p q f e =
          let same = one_field e in
          made (rw (eqb-true tag r.tag p, same.1, same.2) at f) (rw (same.1, same.2) at q)

      go : (f : FieldRead) → field_at s at end ≡ f → turn_of s at r f ≡ Taken of start stop → IsTaken start stop
      go (Ok None) p e = let no : ◌≡◌ {A = ℕ} 0 1 = cc in absurd (omega arith)
      go (Err bad) p e = let no : ◌≡◌ {A = ℕ} 0 1 = cc in absurd (omega arith)
      go (Ok (Some f)) p e = pass f.tag f.start f.end (eqb f.tag r.tag) (takes r (part f.start (f.end - f.start) s)) refl refl p e

-- ---- where reading goes on, and the row

module _ (s : List ℕ) (r : Column) (at end : ℕ) (missing : Bool) (row : List ℕ) where
  abbrev pub Stepped : Took → List ℕ → Type 0
  Stepped t row' = (t ≡ took_of r at missing (turn_of s at r (field_at s at end))) × (row' ≡ row_of s r row (turn_of s at r (field_at s at end)))

  pub stepped_refused : {t : Turn} {bad : BadField} → t ≡ turn_of s at r (field_at s at end) → t ≡ Err bad → Stepped (Err bad) row
  unfolding took_of row_of
  stepped_refused e h = (rw (← e, h), rw (← e, h))

  pub stepped_passed : {t : Turn} → t ≡ turn_of s at r (field_at s at end) → t ≡ Passed
      → Stepped (next at (required r.presence || missing)) (splice r.at (zeros (column_width r)) row)
  unfolding took_of row_of
  stepped_passed e h = (rw (← e, h), rw (← e, h))

  pub stepped_taken : {t : Turn} {tag start stop : ℕ} → t ≡ turn_of s at r (field_at s at end) → t ≡ Taken tag start stop
      → Stepped (next stop missing) (splice r.at (cell_of r (part start (stop - start) s)) row)
  unfolding took_of row_of
  stepped_taken e h = (rw (← e, h), rw (← e, h))

-- the next place is within the fields
pub took_within : (s : List ℕ) (r : Column) (at end : ℕ) (missing : Bool) {t : Took} {progress : Progress} → t
    ≡ took_of r at missing (turn_of s at r (field_at s at end)) → t ≡ Ok progress
    → at ≤ end → progress.at ≤ end
unfolding took_of
took_within s r at end missing {t} {progress} e h l = go (turn_of s at r (field_at s at end)) refl (sym e ∙ h)
  where
    place : {p : Progress} → ◌≡◌ {A = Took} (Ok p) (Ok progress) → p.at ≡ progress.at
    place {p} e = let same : p ≡ progress = cc in ap (λ (x : Progress). x.at) same

    go : (u : Turn) → turn_of s at r (field_at s at end) ≡ u → took_of r at missing u ≡ Ok progress → progress.at ≤ end
    go (Ok (Some f)) p q = omega (arith, place q, (is_taken s r at end f.tag f.start f.end p).whole.within)
    go (Ok None) p q = omega (arith, place q)
    go (Err bad) p q = let no : ◌≡◌ {A = ℕ} 0 1 = cc in absurd (omega arith)

-- and so is the way through the table that stops there
pub took_here : (s : List ℕ) (r : Column) (at end : ℕ) (missing : Bool) {t : Took} {bad : BadField} → t
    ≡ took_of r at missing (turn_of s at r (field_at s at end)) → t ≡ Err bad
    → bad.at ≡ at
unfolding took_of
took_here s r at end missing {t} {bad} e h = go (turn_of s at r (field_at s at end)) refl (sym e ∙ h)
  where
    go : (u : Turn) → turn_of s at r (field_at s at end) ≡ u → took_of r at missing u ≡ Err bad → bad.at ≡ at
    go (Ok (Some f)) p q = let no : ◌≡◌ {A = ℕ} 0 1 = cc in absurd (omega arith)
    go (Ok None) p q = let no : ◌≡◌ {A = ℕ} 0 1 = cc in absurd (omega arith)
    go (Err b) p q = let same : b ≡ bad = cc in ap (λ (x : BadField). x.at) (sym same) ∙ refused_here s r at end p

-- ---- a turn of the way through a table, and its end

module _ (table : List Column) (none : Column) (s : List ℕ) (end i at : ℕ) (missing : Bool) (row : List ℕ) where
  abbrev this : Column
  this = get_or table i none

  read_turn : i < length table → read_by s end (drop i table) at missing row
      ≡ onward (read_by s end (drop (i + 1) table)) (took_of this at missing (turn_of s at this (field_at s at end)))
      (row_of s this row (turn_of s at this (field_at s at end)))
  unfolding read_by
  read_turn h = rw (add-one i, drop-cons table i none h)

  pub read_next : {r : Column} {t : Took} {progress : Progress} {row' : List ℕ} → i < length table → r ≡ this
      → Stepped s r at end missing row t row' → t ≡ Ok progress
      → read_by s end (drop i table) at missing row ≡ read_by s end (drop (i + 1) table) progress.at progress.missing row'
  unfolding onward
  read_next h q e k = rw (read_turn h, ← q, ← e.0, ← e.1, k)

  pub read_stop : {r : Column} {t : Took} {bad : BadField} {row' : List ℕ} → i < length table → r ≡ this → Stepped s r at end missing row t row'
      → t ≡ Err bad → read_by s end (drop i table) at missing row ≡ out (Bad at) row'
  unfolding onward
  read_stop {r} {t} {bad} {row'} h q e k = go ∙ ap (λ (n : ℕ). out (Bad n) row') (took_here s r at end missing e.0 k)
    where
      go : read_by s end (drop i table) at missing row ≡ out (Err bad) row'
      go = rw (read_turn h, ← q, ← e.0, ← e.1, k)

  read_done : length table ≤ i → read_by s end (drop i table) at missing row ≡ out (cond (eqb at end) (cond missing (Bad end) Read) (Bad at)) row
  unfolding read_by
  read_done h = rw (drop_of_length-le table h)

  pub read_leftover : length table ≤ i → ¬ (at ≡ end) → read_by s end (drop i table) at missing row ≡ out (Bad at) row
  read_leftover h d = read_done h ∙ rw (ne_eqb at end d)

  pub read_missing : length table ≤ i → at ≡ end → missing ≡ true → read_by s end (drop i table) at missing row ≡ out (Bad end) row
  read_missing h e m = read_done h ∙ rw (eq-eqb at end e, m)

  pub read_whole : length table ≤ i → at ≡ end → missing ≡ false → read_by s end (drop i table) at missing row ≡ out Read row
  read_whole h e m = read_done h ∙ rw (eq-eqb at end e, m)
