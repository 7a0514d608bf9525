-- What the reader accepts is well-formed, and is written as the bytes that were read: by one way through the table, for any table.
use Rattle.std.specs.Prelude.{Bool, cond, ◌||◌, Some, None, Ok, Err, ◌≡◌, refl, eqb}
use Rattle.std.proofs.Math.Bool.{true, false}
use mathlib.Core.List.{List, [], ◌∷◌}
use Rattle.std.proofs.Math.Path.{sym, ap}
use Rattle.std.proofs.Common.{◌∙◌, eqb-true}
use Prim.Native.Nat.{ℕ, ◌+◌, ◌-◌, ◌≤◌}
use native.Mathlib.Omega.{arith}
use Rattle.std.proofs.Math.ListN.{length, take}
use Rattle.std.proofs.Math.Seq.{take-take}
use Rattle.prelude.specs.SaysLaws.{neither}
use Rattle.prelude.specs.FrontLaws.{front_part}
use Rattle.prelude.specs.Part.{part, splice, zeros, Bytes}
use Rattle.prelude.specs.PartLaws.{part_none, part_add, part_bytes, zeros_length}
use Rattle.prelude.specs.SpliceLaws.{splice_length, splice_before, part_splice_same}
use Rattle.wire.specs.Wire.{field_at}
use Rattle.wire.specs.WireLaws.{field_back}
use Rattle.rows_format.specs.declared.column.Column.{Column}
use Rattle.rows_format.specs.Columns.{required, column_width, cell_of, cell_at, has_value, value_of, well_formed_cell, well_formed_by, write_by, laid}
use Rattle.rows_format.proofs.ColumnsLaws.{Laid, laid_cons, laid_le, takes_accepts, cell_length, taken_cell, absent_value, absent_formed}
use Rattle.rows_format.proofs.ColumnsLaws.{formed_both, field_none, field_some}
use Rattle.wire.specs.FieldRead.{FieldRead}
use Rattle.wire.specs.FieldRead as fields
use Rattle.rows_read.specs.RowRead.{Read, Bad}
use Rattle.rows_read.specs.Reading.{turn_of, took_of, row_of, Out, out, onward, read_by}
use Rattle.rows_read.specs.ReadingLaws.{is_taken}

-- what is known of a row that the rest of a table, from place o of the row and place at of the value, has read to its end: nothing was missing before,
-- the row's first bytes are as they were, the rest of it is well-formed and is written as the rest of the value
pub record Back (s : List ℕ) (end : ℕ) (columns : List Column) (o at : ℕ) (m : Bool) (row new : List ℕ) : Type 0 where
  pub none : m ≡ false
  pub long : length new ≡ length row
  pub before : take o new ≡ take o row
  pub formed : well_formed_by columns new ≡ true
  pub written : write_by columns new ≡ part at (end - at) s

refused : (at : ℕ) (row new : List ℕ) → out (Bad at) row ≡ out Read new → ⊥
refused at row new e = let a : Bad at ≡ Read = ap (λ (x : Out). x.answer) e in let no : ◌≡◌ {A = ℕ} 0 1 = cc in omega arith

-- the end of the table
back_end : (s : List ℕ) (end o n at : ℕ) (m : Bool) (row new : List ℕ) → read_by s end [] at m row ≡ out Read new → Back s end [] o at m row new
unfolding read_by well_formed_by write_by
back_end s end o n at m row new e = go (eqb at end) m refl refl (ap (λ (x : Out). x.answer) e)
  where
    same : row ≡ new
    same = ap (λ (x : Out). x.row) e

    go : (x y : Bool) → eqb at end ≡ x → m ≡ y → cond x (cond y (Bad end) Read) (Bad at) ≡ Read → Back s end [] o at m row new
    go false y p q r = let no : ◌≡◌ {A = ℕ} 0 1 = cc in absurd (omega arith)
    go true true p q r = let no : ◌≡◌ {A = ℕ} 0 1 = cc in absurd (omega arith)
    go true false p q r =
        let here : at ≡ end = eqb-true at end p in
        let nothing : end - at ≡ 0 = omega arith in
        record { none = q; long = ap length (sym same); before = ap (take o) (sym same); formed = refl; written = rw nothing (sym (part_none at s)) }

module _ (s : List ℕ) (end : ℕ) (r : Column) (rs : List Column) (o n at : ℕ) (m : Bool) (row new : List ℕ) (l : Laid r rs o n) (fits : n ≤ length row) where
  -- the cell that the column wrote stands in the row at the end
  cell_stays : (cell : List ℕ) → length cell ≡ column_width r → take (o + column_width r) new ≡ take (o + column_width r) (splice r.at cell row)
      → length new ≡ length (splice r.at cell row)
      → (cell_at r new ≡ cell) × ((take o new ≡ take o row) × (length new ≡ length row))
  unfolding cell_at
  cell_stays cell k b ln =
      let inside : r.at + length cell ≤ length row = omega (arith, l.place, laid_le rs (o + column_width r) n l.rest) in
      let grown : o ≤ o + column_width r = omega arith in
      let shorter : take o new ≡ take o (splice r.at cell row) = sym (take-take o (o + column_width r) new grown) ∙ ap (take o) b
      ∙ take-take o (o + column_width r) (splice r.at cell row) grown in (
        front_part (o + column_width r) new (splice r.at cell row) (unfold part in b) r.at (column_width r) (omega (arith, l.place))
            ∙ part_splice_same r.at cell row inside (column_width r) (sym k),
        (shorter ∙ splice_before r.at cell row inside o (omega (arith, l.place)), ln ∙ splice_length r.at cell row inside),
      )

  -- a column that took nothing
  back_passed : Back s end rs (o + column_width r) at (required r.presence || m) (splice r.at (zeros (column_width r)) row) new
      → Back s end (r ∷ rs) o at m row new
  unfolding write_by
  back_passed b =
      let absent = neither (required r.presence) m b.none in
      let c = cell_stays (zeros (column_width r)) (zeros_length (column_width r)) b.before b.long in
      let none : has_value r.presence (cell_at r new) ≡ false = ap (has_value r.presence) c.0
      ∙ absent_value r.presence (column_width r) absent.0 in
      record {
        none = absent.1;
        long = c.1.1;
        before = c.1.0;
        formed = formed_both r rs new (ap (well_formed_cell r) c.0 ∙ absent_formed r (column_width r) absent.0) b.formed;
        written = rw (field_none r new none) b.written;
      }

  -- a column that took its field
  back_taken : (tag start stop : ℕ) → Bytes s → end ≤ length s → turn_of s at r (field_at s at end) ≡ fields.Field tag start stop
      → Back s end rs (o + column_width r) stop m (splice r.at (cell_of r (part start (stop - start) s)) row) new → Back s end (r ∷ rs) o at m row new
  unfolding write_by
  back_taken tag start stop bytes le t b =
      let v : List ℕ = part start (stop - start) s in
      let k = is_taken s r at end tag start stop t in
      let w = taken_cell r v l.sound (part_bytes start (stop - start) s bytes) k.takes in
      let c = cell_stays (cell_of r v) w.long b.before b.long in
      let has : has_value r.presence (cell_at r new) ≡ true = ap (has_value r.presence) c.0 ∙ w.has in
      let value : value_of r (cell_at r new) ≡ v = ap (value_of r) c.0 ∙ w.value in
      let all : end - at ≡ stop - at + (end - stop) = omega (arith, k.whole) in
      let past : at + (stop - at) ≡ stop = omega (arith, k.whole) in
      record {
        none = b.none;
        long = c.1.1;
        before = c.1.0;
        formed = formed_both r rs new (ap (well_formed_cell r) c.0 ∙ w.formed) b.formed;
        written = rw (
          field_some r new has,
          value,
          b.written,
          all,
          part_add at (stop - at) (end - stop) s,
          past,
          field_back s at end r.tag start
              stop bytes le k.field,
        );
      }

-- a turn: what the column made of the field in front decides
turn_by : (s : List ℕ) (end : ℕ) (r : Column) (rs : List Column) (o n at : ℕ) (m : Bool) (row new : List ℕ) → Laid r rs o n → n ≤ length row → Bytes s
    → end ≤ length s
    → ((at : ℕ) (m : Bool) (row new : List ℕ) → Bytes s → end ≤ length s → laid rs (o + column_width r) n ≡ true → n ≤ length row
    → read_by s end rs at m row ≡ out Read new → Back s end rs (o + column_width r) at m row new)
    → ((cell : List ℕ) → length cell ≡ column_width r → n ≤ length (splice r.at cell row))
    → read_by s end (r ∷ rs) at m row ≡ out Read new → Back s end (r ∷ rs) o at m row new
unfolding read_by onward took_of row_of
turn_by s end r rs o n at m row new l fits bytes le rest still e = go (turn_of s at r (field_at s at end)) refl e
  where
    go : (t : FieldRead) → turn_of s at r (field_at s at end) ≡ t → onward (read_by s end rs) (took_of r at m t) (row_of s r row t) ≡ out Read new
        → Back s end (r ∷ rs) o at m row new
    go (Err bad) p q = absurd (refused bad.at row new q)
    go (Ok None) p q = back_passed s end r rs o n at m row new l fits
        (rest at _ _ new bytes le l.rest (still (zeros (column_width r)) (zeros_length (column_width r))) q)
    go (Ok (Some f)) p q =
        let k = is_taken s r at end f.tag f.start f.end p in
        let v : List ℕ = part f.start (f.end - f.start) s in
        back_taken s end r rs o n at m row new l fits f.tag f.start f.end bytes le p
        (rest f.end m _ new bytes le l.rest (still (cell_of r v) (cell_length r v (takes_accepts r v k.takes))) q)

pub read_back : (s : List ℕ) (end : ℕ) (columns : List Column) (o n at : ℕ) (m : Bool) (row new : List ℕ) → Bytes s → end ≤ length s
    → laid columns o n ≡ true → n ≤ length row
    → read_by s end columns at m row ≡ out Read new → Back s end columns o at m row new
read_back s end [] o n at m row new bytes le h fits e = back_end s end o n at m row new e
read_back s end (r ∷ rs) o n at m row new bytes le h fits e = step (read_back s end rs (o + column_width r) n)
  where
    l : Laid r rs o n
    l = laid_cons r rs o n h

    -- the row that the column leaves is as long as before
    still : (cell : List ℕ) → length cell ≡ column_width r → n ≤ length (splice r.at cell row)
    still cell k = rw (splice_length r.at cell row (omega (arith, l.place, laid_le rs (o + column_width r) n l.rest))) fits

    step : ((at : ℕ) (m : Bool) (row new : List ℕ) → Bytes s → end ≤ length s → laid rs (o + column_width r) n ≡ true → n ≤ length row
        → read_by s end rs at m row ≡ out Read new → Back s end rs (o + column_width r) at m row new) → Back s end (r ∷ rs) o at m row new
    step rest = turn_by s end r rs o n at m row new l fits bytes le rest still e
