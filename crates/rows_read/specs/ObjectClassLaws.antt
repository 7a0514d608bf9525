-- Laws of the default of oMObjectClass: each case of it, for the code; and that a settled row is left as it is.
use Rattle.std.specs.Prelude.{Bool, true, false, cond, List, [], Err, ◌≡◌, refl, ℕ, ◌+◌, ◌≤◌, eqb, length}
use Rattle.std.proofs.Common.{arith}
use Rattle.prelude.specs.Part.{splice, zeros, padded}
use Rattle.prelude.specs.PartLaws.{padded_length}
use Rattle.prelude.specs.SpliceLaws.{splice_length}
use Rattle.prelude.specs.SaysLaws.{says_eq, says_true, says_false}
use Rattle.schema.specs.ObjectClasses.{first_object_class}
use Rattle.schema.specs.ObjectClassesLaws.{first_short}
use Rattle.schema.specs.Layout.{object_class_at, object_class_limit}
use Rattle.schema.specs.AttributeRow.{syntax_of, om_syntax_of, object_class_length}
use Rattle.rows_format.specs.Encodings.{image}
use Rattle.rows_format.specs.declared.format.Format.{Format}
use Rattle.rows_format.specs.Formats.{columns_of}
use Rattle.wire.specs.declared.BadField.{BadField}
use Rattle.rows_read.specs.RowRead.{RowRead}
use Rattle.rows_read.specs.RowRead.{Read}
use Rattle.rows_read.specs.Reading.{Out, read_by}
use Rattle.rows_read.specs.ObjectClass.{object_class_width, is_object, object_class_cell, settled, finished, finish, read_row}

-- ---- the three cases

pub no_cell : object_class_cell [] ≡ zeros object_class_width
unfolding object_class_cell image padded zeros
no_cell = refl

pub settled_none : (row : List ℕ) → ¬ (om_syntax_of row ≡ 127) → settled row ≡ splice object_class_at (zeros object_class_width) row
unfolding settled
settled_none row d = rw (says_false (says_eq (om_syntax_of row) 127) d, no_cell)

pub settled_first : (row : List ℕ) → om_syntax_of row ≡ 127 → object_class_length row ≡ 0
    → settled row ≡ splice object_class_at (object_class_cell (first_object_class (syntax_of row))) row
unfolding settled
settled_first row e z = rw (says_true (says_eq (om_syntax_of row) 127) e, says_true (says_eq (object_class_length row) 0) z)

pub settled_given : (row : List ℕ) → om_syntax_of row ≡ 127 → ¬ (object_class_length row ≡ 0) → settled row ≡ row
unfolding settled
settled_given row e d = rw (says_true (says_eq (om_syntax_of row) 127) e, says_false (says_eq (object_class_length row) 0) d)

-- ---- the cell

pub cell_long : (v : List ℕ) → length v ≤ object_class_limit → length (object_class_cell v) ≡ object_class_width
unfolding object_class_cell image
cell_long v h = omega (arith, padded_length 16 v h)

pub settled_length : (row : List ℕ) → object_class_at + object_class_width ≤ length row → length (settled row) ≡ length row
unfolding settled
settled_length row h = go (is_object row) (eqb (object_class_length row) 0)
  where
    put : (v : List ℕ) → length v ≤ object_class_limit → length (splice object_class_at (object_class_cell v) row) ≡ length row
    put v l = splice_length object_class_at (object_class_cell v) row (omega (arith, h, cell_long v l))

    go : (b z : Bool)
        → length (cond b (cond z (splice object_class_at (object_class_cell (first_object_class (syntax_of row))) row) row)
        (splice object_class_at (object_class_cell []) row)) ≡ length row
    go true true = put (first_object_class (syntax_of row)) (first_short (syntax_of row))
    go true false = refl
    go false z = put [] (omega arith)

-- ---- what a reading comes to

module _ (format : Format) (s : List ℕ) (start end : ℕ) (row : List ℕ) where
  abbrev fields_read : Out
  fields_read = read_by s end (columns_of format) start false row

  pub finish_bad : {a : RowRead} {bad : BadField} {row' : List ℕ} → (a ≡ fields_read.answer) × (row' ≡ fields_read.row) → a ≡ Err bad
      → (Err bad ≡ (read_row format s start end row).answer) × (row' ≡ (read_row format s start end row).row)
  unfolding read_row finish
  finish_bad e h = (rw (← e.0, h), rw (← e.0, h) e.1)

  pub finish_read : {a : RowRead} {row' new : List ℕ} → (a ≡ fields_read.answer) × (row' ≡ fields_read.row) → a ≡ Read → new ≡ finished format row'
      → (Read ≡ (read_row format s start end row).answer) × (new ≡ (read_row format s start end row).row)
  unfolding read_row finish
  finish_read e h q = (rw (← e.0, h), rw (← e.0, h, ← e.1) q)
