-- The shape of one row. Document 01: "*Shape*: .. every field one that the reader could have stored". The reader stores a row as its cells, each one that
-- its column can leave, and in an attribute row oMObjectClass given the other fields (docs/DECISIONS.md, R20: with oMSyntax other than 127 empty, with
-- 127 and a syntax that has a first value not empty). Padding, and the value of what is absent, is zero; flags are 0 or 1.
use Rattle.std.specs.Prelude.{Bool, true, not, cond, ◌&&◌, List, ℕ, eqb}
use Rattle.schema.specs.declared.number.TableId.{TableId}
use Rattle.schema.specs.declared.number.TableId.TheVariants.{Attributes, Classes}
use Rattle.schema.specs.AttributeRow.{object_class_length}
use Rattle.rows_format.specs.declared.format.Format.TheVariants.{Row}
use Rattle.rows_format.specs.Formats.{columns_of}
use Rattle.rows_format.specs.Columns.{well_formed_by}
use Rattle.rows_read.specs.ObjectClass.{is_object, is_settled}

-- oMObjectClass is as the other fields of the row ask; a class row has none
unfoldable pub is_finished : TableId → List ℕ → Bool
is_finished Attributes row = is_settled row
is_finished Classes row = true

unfoldable pub well_formed : TableId → List ℕ → Bool
well_formed t row = well_formed_by (columns_of (Row t)) row && is_finished t row

-- "08 stands exactly where oMSyntax is 127", said of the fields as they were read
unfoldable pub stands_exactly : TableId → List ℕ → Bool
stands_exactly Attributes row = cond (is_object row) (not (eqb (object_class_length row) 0)) (eqb (object_class_length row) 0)
stands_exactly Classes row = true
