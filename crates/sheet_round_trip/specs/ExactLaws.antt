-- "08 stands exactly where oMSyntax is 127": what is said of the bytes of an attribute row is what is so of the fields as they are read from them.
use Rattle.std.specs.Prelude.{true, false, ◌≡◌}
use Rattle.std.proofs.lemmas.Bool.{false≢true}
use mathlib.Core.List.{List}
use Rattle.std.proofs.Math.Path.{refl, sym, ap}
use Rattle.std.proofs.Common.{◌∙◌, add-zero, arith}
use Prim.Native.Nat.{ℕ, ◌+◌, ◌-◌, ◌≤◌, ◌<◌}
use Rattle.std.proofs.Math.Decide.{ℕ_discrete}
use Rattle.std.proofs.Math.ListN.{length, get_or}
use Rattle.prelude.specs.Says.{Says}
use Rattle.prelude.specs.SaysLaws.{says_eq, says_false, says_not_test, says_true}
use Rattle.prelude.specs.Part.{part, is_zero, Bytes}
use Rattle.prelude.specs.PartLaws.{part_at, part_length, says_zero, zeros_at}
use Rattle.schema.specs.declared.number.TableId.TheVariants.{Attributes}
use Rattle.schema.specs.Layout.{object_class_limit, om_syntax_at, object_class_at, attribute_width, row_width}
use Rattle.schema.specs.AttributeRow.{om_syntax_of, object_class_length}
use Rattle.rows_format.specs.declared.column.Encoding.TheVariants.{Counted}
use Rattle.rows_format.specs.declared.column.Presence.TheVariants.{Optional}
use Rattle.rows_format.specs.declared.format.Format.TheVariants.{Row}
use Rattle.rows_format.specs.Encodings.{room, stored}
use Rattle.rows_format.specs.EncodingsLaws.{says_holds}
use Rattle.rows_format.specs.Columns.{mark, column_width, cell_at, has_value, value_of, well_formed_cell, well_formed_by, write_by}
use Rattle.rows_format.proofs.ColumnsLaws.{formed_at}
use Rattle.rows_format.specs.Formats.{column, common_columns, attribute_columns, own_columns, columns_of, format_width, no_column}
use Rattle.rows_read.specs.RowRead.{Read}
use Rattle.rows_read.specs.Reading.{out, read_by}
use Rattle.rows_read.specs.ObjectClass.{object_class_width, read_row}
use Rattle.rows_read.specs.RoundTripLaws.{fields_back, row_read_lem}
use Rattle.rows_read.specs.WellFormed.{stands_exactly}
use Rattle.rows_read.specs.Stopping.{value_at}
use Rattle.sheet_round_trip.specs.Exact.{HasObjectClass, HasObjectSyntax, ExactRow}
use Rattle.sheet_round_trip.specs.FieldLaws.{Found, value_in, field_column, column_field}

module _ (s : List ℕ) (start end : ℕ) (raw : List ℕ) (from : start ≤ end) (within : end ≤ length s) (fits : attribute_width ≤ length raw)
    (formed : well_formed_by (columns_of (Row Attributes)) raw ≡ true) (is : write_by (columns_of (Row Attributes)) raw ≡ part start (end - start) s) where
  -- ---- 08, the eighth column

  abbrev class : List ℕ
  class = part object_class_at object_class_width raw

  counted : get_or class 0 0 ≡ object_class_length raw
  counted = part_at object_class_at object_class_width raw 0 (omega arith)

  class_formed : well_formed_cell (column Optional 8 (Counted 1 object_class_limit) object_class_at) class ≡ true
  unfolding columns_of own_columns common_columns attribute_columns cell_at column_width mark room
  class_formed = formed_at (columns_of (Row Attributes)) no_column raw 7 formed (omega arith)

  class_some : is_zero class ≡ false → ¬ (object_class_length raw ≡ 0)
  unfolding well_formed_cell has_value mark
  class_some z e = omega (arith, counted, ((says_holds (Counted 1 object_class_limit) class).holds (rw z at class_formed)).0)

  class_zero : ¬ (object_class_length raw ≡ 0) → is_zero class ≡ false
  class_zero d = says_false (says_zero class) (λ e. d (sym counted ∙ ap (λ (x : List ℕ). get_or x 0 0) e ∙ zeros_at (length class) 0))

  stands_class : HasObjectClass s start end → ¬ (object_class_length raw ≡ 0)
  unfolding columns_of own_columns common_columns attribute_columns cell_at column_width mark room has_value
  stands_class h = class_some ((says_not_test (is_zero class)).holds
      (field_column (Row Attributes) raw s start end from within is 7 (omega arith) h.at h.stop h.stands).0)

  class_stands : ¬ (object_class_length raw ≡ 0) → HasObjectClass s start end
  unfolding columns_of own_columns common_columns attribute_columns cell_at column_width mark room has_value
  class_stands d =
      let f : Found s start end 8 (value_in (columns_of (Row Attributes)) 7 raw) =
      column_field (Row Attributes) raw s start end from within is 7 (omega arith) ((says_not_test (is_zero class)).passes (class_zero d)) in
      record { at = f.at; stop = f.stop; stands = f.stands }

  -- ---- 07, the seventh

  first_byte : (at n : ℕ) → 0 < n → get_or (part at n s) 0 0 ≡ get_or s at 0
  first_byte at n l = part_at at n s 0 l ∙ ap (λ (k : ℕ). get_or s k 0) (add-zero at)

  stands_object : HasObjectSyntax s start end → om_syntax_of raw ≡ 127
  unfolding columns_of own_columns common_columns attribute_columns cell_at column_width mark room has_value value_of stored
  stands_object h =
      let value : part om_syntax_at 1 raw ≡ value_at s h.at h.stop =
      (field_column (Row Attributes) raw s start end from within is 6 (omega arith) h.at h.stop h.stands).1 in
      let one : h.stop - (h.at + 3) ≡ 1 = omega (arith, h.one) in
      sym (part_at om_syntax_at 1 raw 0 (omega arith)) ∙ ap (λ (x : List ℕ). get_or x 0 0) value ∙ first_byte (h.at + 3) (h.stop - (h.at + 3)) (omega arith)
      ∙ h.object

  object_stands : om_syntax_of raw ≡ 127 → HasObjectSyntax s start end
  unfolding columns_of own_columns common_columns attribute_columns cell_at column_width mark room has_value value_of stored
  object_stands e =
      let f : Found s start end 7 (part om_syntax_at 1 raw) = column_field (Row Attributes) raw s start end from within is 6 (omega arith) refl in
      let field = f.stands.field in
      let n : ℕ = f.stop - (f.at + 3) in
      let wide : length (value_at s f.at f.stop) ≡ n = part_length (f.at + 3) n s (omega (arith, field.ends, field.within)) in
      let one : n ≡ 1 = sym wide ∙ ap length f.value ∙ part_length om_syntax_at 1 raw (omega arith) in
      record {
        at = f.at;
        stop = f.stop;
        stands = f.stands;
        one = omega (arith, field.ends);
        object = sym (first_byte (f.at + 3) n (omega arith)) ∙ ap (λ (x : List ℕ). get_or x 0 0) f.value ∙ part_at om_syntax_at 1 raw 0 (omega arith) ∙ e;
      }

  -- ---- both

  says_exact_row : Says (stands_exactly Attributes raw) (ExactRow s start end)
  unfolding stands_exactly
  says_exact_row = go (ℕ_discrete (om_syntax_of raw) 127) (ℕ_discrete (object_class_length raw) 0)
    where
      go : Dec (om_syntax_of raw ≡ 127) → Dec (object_class_length raw ≡ 0) → Says (stands_exactly Attributes raw) (ExactRow s start end)
      go (yes e) (yes z) = rw (says_true (says_eq (om_syntax_of raw) 127) e, says_true (says_eq (object_class_length raw) 0) z)
          (record { holds = λ q. absurd (false≢true q); passes = λ h. absurd (stands_class (h.1 (object_stands e)) z) })
      go (yes e) (no d) = rw (says_true (says_eq (om_syntax_of raw) 127) e, says_false (says_eq (object_class_length raw) 0) d)
          (record { holds = λ q. (λ h. object_stands e, λ h. class_stands d); passes = λ h. refl })
      go (no d) (yes z) = rw (says_false (says_eq (om_syntax_of raw) 127) d, says_true (says_eq (object_class_length raw) 0) z)
          (record { holds = λ q. (λ h. absurd (stands_class h z), λ h. absurd (d (stands_object h))); passes = λ h. refl })
      go (no d) (no c) = rw (says_false (says_eq (om_syntax_of raw) 127) d, says_false (says_eq (object_class_length raw) 0) c)
          (record { holds = λ q. absurd (false≢true q); passes = λ h. absurd (d (stands_object (h.0 (class_stands c)))) })

-- so of every attribute row that is read: the statement on its bytes holds exactly if the test of its fields as they were read passes
module _ (s : List ℕ) (start end : ℕ) (row new : List ℕ) (bytes : Bytes s) (from : start ≤ end) (within : end ≤ length s)
    (fits : row_width Attributes ≤ length row) (read : read_row (Row Attributes) s start end row ≡ out Read new) where
  abbrev fields_read : List ℕ
  fields_read = (read_by s end (columns_of (Row Attributes)) start false row).row

  pub says_exact_read : Says (stands_exactly Attributes fields_read) (ExactRow s start end)
  unfolding format_width
  says_exact_read =
      let back = fields_back (Row Attributes) s start end row fields_read bytes within fits (row_read_lem (Row Attributes) s start end row new read).0 in
      says_exact_row s start end fields_read from within (omega (arith, back.0)) back.1.0 back.1.1
