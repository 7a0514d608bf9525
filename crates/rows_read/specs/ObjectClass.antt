-- oMObjectClass. Document 01, rule 27: "Absent, the first is stored. With any other oMSyntax it is read and dropped."
use Rattle.std.specs.Prelude.{Bool, false, cond, not, ◌||◌, List, [], Err, ℕ, ◌+◌, eqb, length}
use Rattle.prelude.specs.Part.{splice}
use Rattle.schema.specs.Layout.{object_class_limit, object_class_at}
use Rattle.schema.specs.ObjectClasses.{first_object_class}
use Rattle.schema.specs.AttributeRow.{syntax_of, om_syntax_of, object_class_length}
use Rattle.schema.specs.declared.number.TableId.{TableId}
use Rattle.schema.specs.declared.number.TableId.TheVariants.{Attributes, Classes}
use Rattle.rows_format.specs.declared.column.Encoding.TheVariants.{Counted}
use Rattle.rows_format.specs.declared.format.Format.{Format}
use Rattle.rows_format.specs.declared.format.Format.TheVariants.{Row, NewRow, Range, Name, Target, Entry}
use Rattle.rows_format.specs.Encodings.{image}
use Rattle.rows_format.specs.Formats.{columns_of}
use Rattle.rows_read.specs.RowRead.{RowRead}
use Rattle.rows_read.specs.RowRead.{Read}
use Rattle.rows_read.specs.Reading.{Out, out, read_by}

-- oMSyntax 127
abbrev pub is_object : List ℕ → Bool
is_object row = eqb (om_syntax_of row) 127

-- how wide its cell is: a count and the bytes
abbrev pub object_class_width : ℕ
object_class_width = object_class_limit + 1

-- the cell of an oMObjectClass of given bytes
unfoldable pub object_class_cell : List ℕ → List ℕ
object_class_cell v = image (Counted 1 object_class_limit) v

-- an attribute row, its fields read: with oMSyntax 127 the bytes given, or where absent the first of its syntax; with any other none
unfoldable pub settled : List ℕ → List ℕ
settled row =
    cond (is_object row)
    (cond (eqb (object_class_length row) 0) (splice object_class_at (object_class_cell (first_object_class (syntax_of row))) row) row)
    (splice object_class_at (object_class_cell []) row)

-- the row is one that this leaves as it is
unfoldable pub is_settled : List ℕ → Bool
is_settled row =
    cond (is_object row)
    (not (eqb (object_class_length row) 0) || eqb (length (first_object_class (syntax_of row))) 0)
    (eqb (object_class_length row) 0)

-- ---- rows

-- what is made of the fields of a row that was read
unfoldable pub finished_row : TableId → List ℕ → List ℕ
finished_row Attributes row = settled row
finished_row Classes row = row

-- and of any value
unfoldable pub finished : Format → List ℕ → List ℕ
finished (Row t) row = finished_row t row
finished (NewRow t) row = finished_row t row
finished Range row = row
finished Name row = row
finished Target row = row
finished Entry row = row

unfoldable pub finish : Format → RowRead → List ℕ → Out
finish format Read row = out Read (finished format row)
finish format (Err bad) row = out (Err bad) row

-- the value s[start..end) read as a row of a format
unfoldable pub read_row : Format → List ℕ → ℕ → ℕ → List ℕ → Out
read_row format s start end row =
    finish format (read_by s end (columns_of format) start false row).answer (read_by s end (columns_of format) start false row).row
