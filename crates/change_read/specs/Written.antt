-- A change, written. Document 01: "A change is one field"; what it carries stands in a row of cells, as the reader leaves it (`scratch`).
use Rattle.std.specs.Prelude.{true, List, ◌≡◌, ℕ, ◌-◌, length, drop}
use Rattle.prelude.specs.Part.{Bytes, zeros}
use Rattle.wire.specs.Wire.{field_bytes}
use Rattle.schema.specs.Layout.{class_width}
use Rattle.rows_format.specs.Columns.{well_formed_by, write_by}
use Rattle.rows_format.specs.Formats.{columns_of, format_width}
use Rattle.rows_read.specs.ObjectClass.{finished}
use Rattle.change_read.specs.declared.read.Change.{Change}
use Rattle.change_read.specs.Reading.{format_of}
use Rattle.change_read.specs.Stopping.{change_tag}

-- one field: what the change carries, by the columns of its format
unfoldable pub change_bytes : Change → List ℕ → List ℕ
change_bytes change carried = field_bytes (change_tag change) (write_by (columns_of (format_of change)) carried)

-- what a change may carry: bytes, as many as a class row has; each cell of its format one that the reader could have stored; in an added attribute row
-- oMObjectClass as the other fields ask (rule 27); and nothing behind the cells
pub record WellFormedChange (change : Change) (carried : List ℕ) : Type 0 where
  pub bytes : Bytes carried
  pub wide : length carried ≡ class_width
  pub formed : well_formed_by (columns_of (format_of change)) carried ≡ true
  pub settled : finished (format_of change) carried ≡ carried
  pub bare : drop (format_width (format_of change)) carried ≡ zeros (class_width - format_width (format_of change))
