-- Laws of a change that was read: it is the whole string, one field and nothing behind it; and what it carries is well-formed.
use Rattle.prelude.specs.BytesLaws.{zeros_bytes}
use Rattle.rows_read.specs.BytesLaws.{read_bytes}
use Rattle.std.specs.Prelude.{Bool, false, List, ◌⊎◌, ◌≡◌, refl, eqb, length, Some, None, Option, Err, Ok}
use Rattle.std.proofs.Math.Bool.{true}
use Rattle.std.proofs.Common.{inl, inr, sym, ap, ap₂, subst, ◌∙◌, arith}
use Prim.Native.Nat.{ℕ, ◌-◌, ◌≤◌}
use Rattle.std.proofs.Math.ListN.{get_or}
use Rattle.prelude.specs.SaysLaws.{says_eq, says_or}
use Rattle.prelude.specs.Part.{part, Bytes}
use Rattle.prelude.specs.PartLaws.{zeros_length, part_at, part_all, part_part}
use Rattle.wire.specs.FieldRead.{FieldRead}
use Rattle.wire.specs.Wire.{field_at, field_bytes}
use Rattle.wire.specs.WireLaws.{field_is, field_back}
use Rattle.schema.specs.declared.number.TableId.{TableId}
use Rattle.schema.specs.declared.number.TableId.TheVariants.{Attributes, Classes}
use Rattle.schema.specs.Layout.{name_limit, class_width}
use Rattle.rows_format.specs.declared.column.Test.TheVariants.{OpenList}
use Rattle.rows_format.specs.declared.column.Encoding.TheVariants.{Counted}
use Rattle.rows_format.specs.declared.format.Format.{Format}
use Rattle.rows_format.specs.declared.format.Format.TheVariants.{Row, NewRow, Range, Name, Target, Entry}
use Rattle.rows_format.specs.Encodings.{passes, room, holds}
use Rattle.rows_format.specs.Columns.{mark, column_width, cell_at, has_value, well_formed_cell, well_formed_by, write_by}
use Rattle.rows_format.proofs.ColumnsLaws.{formed_at}
use Rattle.rows_format.specs.Formats.{list_at, new_lower_at, new_upper_at, own_columns, common_columns, attribute_columns, range_columns, name_columns}
use Rattle.rows_format.specs.Formats.{entry_columns, columns_of, format_width, no_column}
use Rattle.rows_read.specs.RowRead.{RowRead}
use Rattle.rows_read.specs.Reading.{out, read_by, Out}
use Rattle.rows_read.specs.ObjectClass.{finished, read_row}
use Rattle.rows_read.specs.Stopping.{column_at}
use Rattle.rows_read.specs.WellFormedLaws.{finished_length}
use Rattle.rows_read.specs.RoundTripLaws.{fields_back, row_read_lem}
use Rattle.change_read.specs.declared.read.Change.{Change}
use Rattle.change_read.specs.declared.read.Change.TheVariants.{Add, SetRange, Rename, Deactivate, Reactivate, AddEntry, RemoveEntry}
use Rattle.change_read.specs.ChangeRead.{Read, Bad}
use Rattle.change_read.specs.Reading.{change_of, format_of, ChangeOut, change_out, scratch, whole_read, read_value, tagged_out, field_out, read_change}
use Rattle.change_read.specs.Carried.{open_list, list_tag, list_of, new_name, new_range}
use Rattle.wire.specs.FieldRead as fields
use Rattle.rows_read.specs.RowRead as rows

-- what any change carries has room in a row of a class
pub format_fits_row : (change : Change) → format_width (format_of change) ≤ class_width
unfolding format_of format_width
format_fits_row (Add Attributes) = omega arith
format_fits_row (Add Classes) = omega arith
format_fits_row SetRange = omega arith
format_fits_row (Rename t) = omega arith
format_fits_row (Deactivate t) = omega arith
format_fits_row (Reactivate t) = omega arith
format_fits_row AddEntry = omega arith
format_fits_row RemoveEntry = omega arith

pub scratch_length : length scratch ≡ class_width
scratch_length = zeros_length class_width

-- ---- a change that was read, taken apart

-- the bytes s are read as a change that leaves a scratch row
abbrev pub Reads : List ℕ → Change → List ℕ → Type 0
Reads s change new = read_change s ≡ change_out (Read change) new

pub record Parts (s : List ℕ) (change : Change) (new : List ℕ) : Type 0 where
  pub tag : ℕ
  pub start : ℕ
  pub known : change_of tag ≡ Some change
  pub field : field_at s 0 (length s) ≡ fields.Field tag start (length s)
  pub read : read_row (format_of change) s start (length s) scratch ≡ out rows.Read new

-- a reading that was refused is not one that was not
refused_read : {at : ℕ} {w : List ℕ} {change : Change} {new : List ℕ} → change_out (Bad at) w ≡ change_out (Read change) new → ⊥
refused_read {at} {w} {change} q = let a : Bad at ≡ Read change = ap (λ (x : ChangeOut). x.answer) q in let no : ◌≡◌ {A = ℕ} 0 1 = cc in omega arith

pub change_parts : (s : List ℕ) (change : Change) (new : List ℕ) → Reads s change new → Parts s change new
unfolding read_change field_out tagged_out read_value whole_read
change_parts s change new e = front (field_at s 0 (length s)) refl e
  where
    whole : (tag start stop : ℕ) → field_at s 0 (length s) ≡ fields.Field tag start stop → (c : Change) → change_of tag ≡ Some c → (a : RowRead) (w : List ℕ)
        → read_row (format_of c) s start stop scratch ≡ out a w → (b : Bool) → eqb stop (length s) ≡ b → change_out (whole_read c s stop a) w
        ≡ change_out (Read change) new
        → Parts s change new
    whole tag start stop f c k (Err bad) w r b p q = absurd (refused_read q)
    whole tag start stop f c k rows.Read w r false p q = absurd (refused_read (rw p at q))
    whole tag start stop f c k rows.Read w r true p q =
        let a : Read c ≡ Read change = ap (λ (x : ChangeOut). x.answer) (rw p at q) in
        let is : c ≡ change = cc in
        let end : stop ≡ length s = (says_eq stop (length s)).holds p in
        record {
          tag = tag;
          start = start;
          known = k ∙ ap Some is;
          field = f ∙ ap (fields.Field tag start) end;
          read = ap₂ (λ (x : Change) (n : ℕ). read_row (format_of x) s start n scratch) (sym is) (sym end) ∙ r
              ∙ ap (out rows.Read) (ap (λ (x : ChangeOut). x.row) q);
        }

    tagged : (tag start stop : ℕ) → field_at s 0 (length s) ≡ fields.Field tag start stop → (t : Option Change) → change_of tag ≡ t
        → tagged_out t s start stop ≡ change_out (Read change) new → Parts s change new
    tagged tag start stop f None k q = absurd (refused_read q)
    tagged tag start stop f (Some c) k q =
        let o = read_row (format_of c) s start stop scratch in
        whole tag start stop f c k o.answer o.row refl (eqb stop (length s)) refl q

    front : (f : FieldRead) → field_at s 0 (length s) ≡ f → field_out f s ≡ change_out (Read change) new → Parts s change new
    front fields.End p q = absurd (refused_read q)
    front (Err bad) p q = absurd (refused_read q)
    front (Ok (Some f)) p q = tagged f.tag f.start f.end p (change_of f.tag) refl q

-- ---- one field, and nothing behind it

pub change_whole : (s : List ℕ) (change : Change) (new : List ℕ) → Bytes s → Reads s change new
    → (change_of (get_or s 0 0) ≡ Some change) × (s ≡ field_bytes (get_or s 0 0) (part 3 (length s - 3) s))
change_whole s change new bytes e =
    let p = change_parts s change new e in
    let w = field_is s 0 (length s) p.tag p.start (length s) p.field in
    let b = field_back s 0 (length s) p.tag p.start (length s) bytes (omega arith) p.field in (
      ap change_of (sym w.tag_is) ∙ p.known,
      sym (part_all (length s - 0) s (omega arith)) ∙ b ∙ ap₂ (λ (t k : ℕ). field_bytes t (part k (length s - k) s)) w.tag_is w.start_is,
    )

-- ---- what it carries, as its fields were read and before it was finished

pub record Fields (format : Format) (s new : List ℕ) : Type 0 where
  pub raw : List ℕ
  pub long : length raw ≡ class_width
  pub formed : well_formed_by (columns_of format) raw ≡ true
  pub written : write_by (columns_of format) raw ≡ part 3 (length s - 3) s
  pub is : new ≡ finished format raw

format_finished_length : (format : Format) (row : List ℕ) → format_width format ≤ length row → length (finished format row) ≡ length row
unfolding finished format_width
format_finished_length (Row t) row h = finished_length t row h
format_finished_length (NewRow t) row h = finished_length t row h
format_finished_length Range row h = refl
format_finished_length Name row h = refl
format_finished_length Target row h = refl
format_finished_length Entry row h = refl

-- each of the three is the tag of the list that it stands for
open_tag : (x : ℕ) → (x ≡ 21) ⊎ ((x ≡ 23) ⊎ (x ≡ 25)) → x ≡ list_tag (open_list x)
unfolding open_list list_tag
open_tag x (inl e) = rw e
open_tag x (inr (inl e)) = rw e
open_tag x (inr (inr e)) = rw e

module _ (s : List ℕ) (change : Change) (new : List ℕ) (bytes : Bytes s) (e : Reads s change new) where
  pub change_fields : Fields (format_of change) s new
  change_fields =
      let p = change_parts s change new e in
      let format : Format = format_of change in
      let raw : List ℕ = (read_by s (length s) (columns_of format) p.start false scratch).row in
      let r = row_read_lem format s p.start (length s) scratch new p.read in
      let b = fields_back format s p.start (length s) scratch raw bytes (omega arith) (omega (arith, format_fits_row change, scratch_length)) r.0 in
      let w = field_is s 0 (length s) p.tag p.start (length s) p.field in
      record {
        raw = raw;
        long = b.0 ∙ scratch_length;
        formed = b.1.0;
        written = b.1.1 ∙ ap (λ (k : ℕ). part k (length s - k) s) w.start_is;
        is = r.1;
      }

  -- the scratch row keeps its length
  pub change_length : length new ≡ class_width
  change_length =
      let f = change_fields in
      ap length f.is ∙ format_finished_length (format_of change) f.raw (omega (arith, f.long, format_fits_row change)) ∙ f.long

  -- and holds bytes
  pub change_bytes_lem : Bytes new
  change_bytes_lem =
      let p = change_parts s change new e in
      subst Bytes (ap (λ (o : Out). o.row) p.read) (read_bytes (format_of change) s p.start (length s) scratch bytes (zeros_bytes class_width))

  -- what is kept as it was read, and that is all but an added attribute's oMObjectClass, is well-formed by its columns
  module _ (format : Format) (is : format_of change ≡ format) (same : (x : List ℕ) → finished format x ≡ x) where
    kept_fields : Fields format s new
    kept_fields = subst (λ (k : Format). Fields k s new) is change_fields

    kept : well_formed_by (columns_of format) new ≡ true
    kept = rw (kept_fields.is ∙ same kept_fields.raw) kept_fields.formed

    -- and written again it is the change that was read
    pub change_written : s ≡ field_bytes (get_or s 0 0) (write_by (columns_of format) new)
    change_written =
        (change_whole s change new bytes e).1
        ∙ ap (field_bytes (get_or s 0 0)) (sym (ap (write_by (columns_of format)) (kept_fields.is ∙ same kept_fields.raw) ∙ kept_fields.written))

  -- ---- a name: a cell that both tables take, of at most 64 bytes

  name_held : format_of change ≡ Name → holds (Counted 0 name_limit) (new_name new) ≡ true
  unfolding columns_of name_columns cell_at column_width mark room well_formed_cell has_value finished
  name_held is = formed_at (columns_of Name) no_column new 1 (kept Name is (λ x. refl)) (omega arith)

  pub name_formed : format_of change ≡ Name → (t : TableId) → well_formed_cell (column_at (columns_of (Row t)) 0) (new_name new) ≡ true
  unfolding columns_of common_columns well_formed_cell has_value mark
  name_formed is t = name_held is

  -- ---- a range: two cells that the attribute table takes

  range_cells : (part 0 5 (new_range new) ≡ part new_lower_at 5 new) × (part 5 5 (new_range new) ≡ part new_upper_at 5 new)
  range_cells = (part_part new_lower_at 10 new 0 5 (omega arith), part_part new_lower_at 10 new 5 5 (omega arith))

  pub range_formed : format_of change ≡ Range
      → (well_formed_cell (column_at (columns_of (Row Attributes)) 9) (part 0 5 (new_range new)) ≡ true)
      × (well_formed_cell (column_at (columns_of (Row Attributes)) 10) (part 5 5 (new_range new)) ≡ true)
  unfolding columns_of own_columns range_columns common_columns attribute_columns cell_at column_width mark room well_formed_cell has_value finished
  range_formed is =
      let k : well_formed_by (columns_of Range) new ≡ true = kept Range is (λ x. refl) in
      rw (range_cells.0, range_cells.1) (
        formed_at (columns_of Range) no_column new 1 k (omega arith),
        formed_at (columns_of Range) no_column new 2 k
            (omega arith),
      )

  -- ---- an entry: its list's tag is one of the three

  list_passes : format_of change ≡ Entry → passes OpenList (part list_at 1 new) ≡ true
  unfolding columns_of entry_columns cell_at column_width mark room well_formed_cell has_value holds finished
  list_passes is = formed_at (columns_of Entry) no_column new 1 (kept Entry is (λ x. refl)) (omega arith)

  pub list_tag_lem : format_of change ≡ Entry → get_or new list_at 0 ≡ list_tag (list_of new)
  unfolding passes
  list_tag_lem is =
      let x : ℕ = get_or (part list_at 1 new) 0 0 in
      let q : x ≡ get_or new list_at 0 = part_at list_at 1 new 0 (omega arith) in
      rw q at (open_tag x ((says_or (says_eq x 21) (says_or (says_eq x 23) (says_eq x 25))).holds (list_passes is)))
