-- What a change that was read carries is well-formed: each cell, oMObjectClass, and nothing behind the cells.
use Rattle.std.specs.Prelude.{Bool, cond, ◌≡◌, ℕ, ◌+◌, ◌-◌, ◌≤◌, get_or, drop, Some, None, Ok, Err}
use Rattle.std.proofs.Math.Bool.{true, false}
use mathlib.Core.List.{List, [], ◌∷◌, ◌++◌}
use Rattle.std.proofs.Math.Path.{refl, ap}
use Rattle.std.proofs.Common.{sym, ◌∙◌, arith}
use Rattle.std.proofs.Math.Dec.{eqb}
use Rattle.std.proofs.Math.ListN.{length}
use Rattle.prelude.specs.Part.{part, splice, zeros, Bytes}
use Rattle.prelude.specs.PartLaws.{part_at, zeros_length}
use Rattle.prelude.specs.SpliceLaws.{splice_after, splice_length}
use Rattle.wire.specs.Wire.{field_at, field_bytes}
use Rattle.schema.specs.declared.number.TableId.{TableId}
use Rattle.schema.specs.declared.number.TableId.TheVariants.{Attributes, Classes}
use Rattle.schema.specs.Layout.{attribute_width, class_width, defunct_at, object_class_at, object_class_limit, row_width}
use Rattle.schema.specs.LayoutLaws.{common_narrow}
use Rattle.schema.specs.AttributeRow.{object_class_length, syntax_of}
use Rattle.schema.specs.ObjectClasses.{first_object_class}
use Rattle.schema.specs.ObjectClassesLaws.{first_short}
use Rattle.rows_format.specs.declared.column.Column.{Column}
use Rattle.rows_format.specs.declared.format.Format.{Format}
use Rattle.rows_format.specs.declared.format.Format.TheVariants.{Row, NewRow, Range, Name, Target, Entry}
use Rattle.rows_format.specs.Columns.{cell_at, cell_of, column_width, has_value, laid, mark, well_formed_by, well_formed_cell, write_by}
use Rattle.rows_format.proofs.ColumnsLaws.{Laid, cell_length, formed_both, formed_cons, laid_cons, laid_le, takes_accepts}
use Rattle.rows_format.specs.Encodings.{room}
use Rattle.rows_format.specs.Formats.{columns_of, common_columns, format_width, may_be_defunct, never_defunct, own_columns}
use Rattle.rows_format.proofs.FormatsLaws.{format_laid}
use Rattle.wire.specs.FieldRead.{FieldRead}
use Rattle.rows_read.specs.Reading.{onward, read_by, row_of, took_of, turn_of}
use Rattle.rows_read.specs.ReadingLaws.{is_taken}
use Rattle.rows_read.specs.ObjectClass.{finished, finished_row, is_object, object_class_cell, settled}
use Rattle.rows_read.specs.ObjectClassLaws.{cell_long}
use Rattle.rows_read.specs.RoundTripLaws.{added_row_formed, row_read_lem}
use Rattle.rows_read.specs.WellFormed.{well_formed}
use Rattle.rows_read.specs.WellFormedLaws.{finished_same, formed_parts}
use Rattle.change_read.specs.declared.read.Change.{Change}
use Rattle.change_read.specs.declared.read.Change.TheVariants.{Add, SetRange, Rename, Deactivate, Reactivate, AddEntry, RemoveEntry}
use Rattle.change_read.specs.Reading.{format_of, scratch}
use Rattle.change_read.specs.ChangeLaws.{Reads, Fields, change_bytes_lem, change_fields, change_length, change_parts}
use Rattle.change_read.specs.ChangeLaws.{change_whole, change_written, format_fits_row, scratch_length}
use Rattle.change_read.specs.AdditionLaws.{row_added}
use Rattle.change_read.specs.TagLaws.{known_named}
use Rattle.change_read.specs.Written.{WellFormedChange, change_bytes}
use Rattle.change_read.specs.WrittenLaws.{zeros_behind}

-- ---- reading leaves what stands behind the cells

-- as long as before, and the same from n on
record Rest (n : ℕ) (row new : List ℕ) : Type 0 where
  long : length new ≡ length row
  same : drop n new ≡ drop n row

put_rest : (at n : ℕ) (cell row : List ℕ) → at + length cell ≤ n → n ≤ length row → Rest n row (splice at cell row)
put_rest at n cell row l fits = record { long = splice_length at cell row (omega arith); same = splice_after at cell row (omega arith) n l }

then_rest : {n : ℕ} {a b c : List ℕ} → Rest n a b → Rest n b c → Rest n a c
then_rest h k = record { long = k.long ∙ h.long; same = k.same ∙ h.same }

module _ (s : List ℕ) (end : ℕ) where
  abbrev Leaves : List Column → ℕ → Type 0
  Leaves columns n = (at : ℕ) (m : Bool) (row : List ℕ) → n ≤ length row → Rest n row (read_by s end columns at m row).row

  turn_rest : (r : Column) (rs : List Column) (o n : ℕ) → Laid r rs o n → Leaves rs n → Leaves (r ∷ rs) n
  unfolding read_by onward took_of row_of
  turn_rest r rs o n l rest at m row fits = go (turn_of s at r (field_at s at end)) refl
    where
      put : (cell : List ℕ) → length cell ≡ column_width r → Rest n row (splice r.at cell row)
      put cell e = put_rest r.at n cell row (omega (arith, l.place, laid_le rs (o + column_width r) n l.rest)) fits

      on : (cell : List ℕ) → length cell ≡ column_width r → (at : ℕ) (m : Bool) → Rest n row (read_by s end rs at m (splice r.at cell row)).row
      on cell e at m = then_rest (put cell e) (rest at m (splice r.at cell row) (omega (arith, (put cell e).long)))

      go : (t : FieldRead) → turn_of s at r (field_at s at end) ≡ t → Rest n row (onward (read_by s end rs) (took_of r at m t) (row_of s r row t)).row
      go (Err bad) p = record { long = refl; same = refl }
      go (Ok None) p = on (zeros (column_width r)) (zeros_length (column_width r)) at _
      go (Ok (Some f)) p =
          let v : List ℕ = part f.start (f.end - f.start) s in
          on (cell_of r v) (cell_length r v (takes_accepts r v (is_taken s r at end f.tag f.start f.end p).takes)) f.end m

  fields_rest : (columns : List Column) (o n : ℕ) → laid columns o n ≡ true → Leaves columns n
  fields_rest [] o n h = λ at m row fits. (unfold read_by in (record { long = refl; same = refl }))
  fields_rest (r ∷ rs) o n h = let l = laid_cons r rs o n h in turn_rest r rs o n l (fields_rest rs (o + column_width r) n l.rest)

-- and so does finishing
settled_rest : (row : List ℕ) → attribute_width ≤ length row → Rest attribute_width row (settled row)
unfolding settled
settled_rest row fits = go (is_object row) (eqb (object_class_length row) 0)
  where
    put : (v : List ℕ) → length v ≤ object_class_limit → Rest attribute_width row (splice object_class_at (object_class_cell v) row)
    put v l = put_rest object_class_at attribute_width (object_class_cell v) row (omega (arith, cell_long v l)) fits

    go : (b z : Bool)
        → Rest attribute_width row (cond b (cond z (splice object_class_at (object_class_cell (first_object_class (syntax_of row))) row) row)
        (splice object_class_at (object_class_cell []) row))
    go true true = put (first_object_class (syntax_of row)) (first_short (syntax_of row))
    go true false = record { long = refl; same = refl }
    go false z = put [] (omega arith)

row_rest : (t : TableId) (row : List ℕ) → row_width t ≤ length row → Rest (row_width t) row (finished_row t row)
unfolding finished_row
row_rest Attributes row fits = settled_rest row fits
row_rest Classes row fits = record { long = refl; same = refl }

finished_rest : (format : Format) (row : List ℕ) → format_width format ≤ length row → Rest (format_width format) row (finished format row)
unfolding finished format_width
finished_rest (Row t) row fits = row_rest t row fits
finished_rest (NewRow t) row fits = row_rest t row fits
finished_rest Range row fits = record { long = refl; same = refl }
finished_rest Name row fits = record { long = refl; same = refl }
finished_rest Target row fits = record { long = refl; same = refl }
finished_rest Entry row fits = record { long = refl; same = refl }

-- ---- an active row of a table is one that an addition may carry

unmarked : (row : List ℕ) → eqb (get_or row defunct_at 0) 1 ≡ false → well_formed_cell may_be_defunct (cell_at may_be_defunct row) ≡ true
    → well_formed_cell never_defunct (cell_at never_defunct row) ≡ true
unfolding well_formed_cell has_value cell_at column_width mark room
unmarked row e q = rw (part_at defunct_at 1 row 0 (omega arith), e) at q

active_formed : (row : List ℕ) (rest : List Column) → eqb (get_or row defunct_at 0) 1 ≡ false → well_formed_by (common_columns may_be_defunct ++ rest) row ≡ true
    → well_formed_by (common_columns never_defunct ++ rest) row ≡ true
unfolding common_columns
active_formed row rest e f =
    let a = formed_cons _ _ row f in
    let b = formed_cons _ _ row a.1 in
    let c = formed_cons _ _ row b.1 in
    let d = formed_cons _ _ row c.1 in
    let g = formed_cons may_be_defunct rest row d.1 in
    formed_both _ _ row a.0
    (formed_both _ _ row b.0
    (formed_both _ _ row c.0 (formed_both _ _ row d.0 (formed_both never_defunct rest row (unmarked row e g.0) g.1))))

-- ---- what a change carries

module _ (s new : List ℕ) (bytes : Bytes s) where
  -- well-formed by the columns of its format, and finished
  abbrev Formed : Format → Type 0
  Formed format = (well_formed_by (columns_of format) new ≡ true) × (finished format new ≡ new)

  added_formed : (t : TableId) → Reads s (Add t) new → Formed (NewRow t)
  unfolding columns_of finished format_of format_width
  added_formed t e =
      let fits : row_width t ≤ class_width = format_fits_row (Add t) in
      let p = change_parts s (Add t) new e in
      let f : well_formed t new ≡ true =
      added_row_formed t s p.start (length s) scratch new bytes (omega arith) (omega (arith, scratch_length)) p.read in
      let active : eqb (get_or new defunct_at 0) 1 ≡ false =
      ap (λ (n : ℕ). eqb n 1) (sym (part_at 0 (row_width t) new defunct_at (omega (arith, common_narrow t)))) ∙ (row_added t s new bytes e).active in
      (active_formed new (own_columns t) active (formed_parts t new f).0, finished_same t new (omega (arith, change_length s (Add t) new bytes e)) f)

  -- what is kept as it was read
  kept_formed : (format : Format) → ((x : List ℕ) → finished format x ≡ x) → Fields format s new → Formed format
  kept_formed format same f = (rw (f.is ∙ same f.raw) f.formed, same new)

  carried_formed : (change : Change) → Reads s change new → Formed (format_of change)
  unfolding format_of finished
  carried_formed (Add t) e = added_formed t e
  carried_formed SetRange e = kept_formed Range (λ x. refl) (change_fields s SetRange new bytes e)
  carried_formed (Rename t) e = kept_formed Name (λ x. refl) (change_fields s (Rename t) new bytes e)
  carried_formed (Deactivate t) e = kept_formed Target (λ x. refl) (change_fields s (Deactivate t) new bytes e)
  carried_formed (Reactivate t) e = kept_formed Target (λ x. refl) (change_fields s (Reactivate t) new bytes e)
  carried_formed AddEntry e = kept_formed Entry (λ x. refl) (change_fields s AddEntry new bytes e)
  carried_formed RemoveEntry e = kept_formed Entry (λ x. refl) (change_fields s RemoveEntry new bytes e)

  module _ (change : Change) (e : Reads s change new) where
    behind : drop (format_width (format_of change)) new ≡ zeros (class_width - format_width (format_of change))
    behind =
        let format : Format = format_of change in
        let fits : format_width format ≤ class_width = format_fits_row change in
        let p = change_parts s change new e in
        let raw : List ℕ = (read_by s (length s) (columns_of format) p.start false scratch).row in
        let a : Rest (format_width format) scratch raw =
        fields_rest s (length s) (columns_of format) 0 (format_width format) (format_laid format) p.start false scratch (omega (arith, scratch_length)) in
        let b : Rest (format_width format) raw (finished format raw) = finished_rest format raw (omega (arith, scratch_length, a.long)) in
        ap (drop (format_width format)) (row_read_lem format s p.start (length s) scratch new p.read).1 ∙ b.same ∙ a.same
        ∙ zeros_behind (format_width format) class_width fits

    pub change_carried : WellFormedChange change new
    change_carried = record {
      bytes = change_bytes_lem s change new bytes e;
      wide = change_length s change new bytes e;
      formed = (carried_formed change e).0;
      settled = (carried_formed change e).1;
      bare = behind;
    }

    -- it is written as the bytes that were read, but where an added attribute's oMObjectClass was dropped or its default stored
    same_bytes_lem : ((x : List ℕ) → finished (format_of change) x ≡ x) → s ≡ change_bytes change new
    unfolding change_bytes
    same_bytes_lem same =
        change_written s change new bytes e (format_of change) refl same
        ∙ ap (λ (tag : ℕ). field_bytes tag (write_by (columns_of (format_of change)) new)) (known_named (get_or s 0 0) change (change_whole s change new bytes e).0)

  pub change_exact : (change : Change) → Reads s change new → ¬ (change ≡ Add Attributes) → s ≡ change_bytes change new
  unfolding format_of finished finished_row
  change_exact (Add Attributes) e d = absurd (d refl)
  change_exact (Add Classes) e d = same_bytes_lem (Add Classes) e (λ x. refl)
  change_exact SetRange e d = same_bytes_lem SetRange e (λ x. refl)
  change_exact (Rename t) e d = same_bytes_lem (Rename t) e (λ x. refl)
  change_exact (Deactivate t) e d = same_bytes_lem (Deactivate t) e (λ x. refl)
  change_exact (Reactivate t) e d = same_bytes_lem (Reactivate t) e (λ x. refl)
  change_exact AddEntry e d = same_bytes_lem AddEntry e (λ x. refl)
  change_exact RemoveEntry e d = same_bytes_lem RemoveEntry e (λ x. refl)
