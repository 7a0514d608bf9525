-- Columns: one field each, and the cell of a row that holds it. A row is read, written and checked by a table of columns.
use Rattle.std.specs.Prelude.{Bool, true, false, not, cond, ◌&&◌, List, [], ◌∷◌, ◌++◌, ◌≡◌, ℕ, ◌+◌, ◌≤◌, eqb, get_or, drop}
use Rattle.prelude.specs.Part.{part, is_zero}
use Rattle.wire.specs.Wire.{field_bytes}
use Rattle.rows_format.specs.Encodings.{accepts, image, room, stored, holds, sound, skippable}
use Rattle.rows_format.specs.declared.column.Encoding.{Encoding}
use Rattle.rows_format.specs.declared.column.Presence.{Presence}
use Rattle.rows_format.specs.declared.column.Presence.TheVariants.{Required, Optional, Marked, Never}
use Rattle.rows_format.specs.declared.column.Column.{Column}

-- what stands before a stored value: the present byte, where there is one
unfoldable pub lead : Presence → List ℕ
lead Required = []
lead Optional = []
lead Marked = 1 ∷ []
lead Never = []

-- how many bytes these are
unfoldable pub mark : Presence → ℕ
mark Required = 0
mark Optional = 0
mark Marked = 1
mark Never = 0

-- a field that is not there is missing
unfoldable pub required : Presence → Bool
required Required = true
required Optional = false
required Marked = false
required Never = false

-- a field may be there
unfoldable pub possible : Presence → Bool
possible Required = true
possible Optional = true
possible Marked = true
possible Never = false

-- how wide the cell of a column is
unfoldable pub column_width : Column → ℕ
column_width r = mark r.presence + room r.encoding

-- v is a value that the column's field may have
unfoldable pub takes : Column → List ℕ → Bool
takes r v = possible r.presence && accepts r.encoding v

-- the cell of a field with the value v. That of an absent field is zero
unfoldable pub cell_of : Column → List ℕ → List ℕ
cell_of r v = lead r.presence ++ image r.encoding v

-- the cell of a column in a row
unfoldable pub cell_at : Column → List ℕ → List ℕ
cell_at r row = part r.at (column_width r) row

-- the cell has a value
unfoldable pub has_value : Presence → List ℕ → Bool
has_value Required cell = true
has_value Optional cell = not (is_zero cell)
has_value Marked cell = eqb (get_or cell 0 0) 1
has_value Never cell = false

-- the value that it has
unfoldable pub value_of : Column → List ℕ → List ℕ
value_of r cell = stored r.encoding (drop (mark r.presence) cell)

-- the cell is one that the reader could have stored: a value's, or zero
unfoldable pub well_formed_cell : Column → List ℕ → Bool
well_formed_cell r cell = cond (has_value r.presence cell) (holds r.encoding (drop (mark r.presence) cell)) (is_zero cell)

-- each cell of a row is
unfoldable pub well_formed_by : List Column → List ℕ → Bool
well_formed_by [] row = true
well_formed_by (r ∷ rs) row = well_formed_cell r (cell_at r row) && well_formed_by rs row

-- the field of a column, written: nothing where its cell has no value
unfoldable pub field_of : Column → List ℕ → List ℕ
field_of r row = cond (has_value r.presence (cell_at r row)) (field_bytes r.tag (value_of r (cell_at r row))) []

-- the fields of a row, in the order of the table
unfoldable pub write_by : List Column → List ℕ → List ℕ
write_by [] row = []
write_by (r ∷ rs) row = field_of r row ++ write_by rs row

-- ---- sound columns, and tables of them

-- an encoding may be optional with no mark only if no value of it is stored as zeros
unfoldable pub clear : Presence → Encoding → Bool
clear Required encoding = true
clear Optional encoding = skippable encoding
clear Marked encoding = true
clear Never encoding = true

-- what every column of the tables has
unfoldable pub sound_column : Column → Bool
sound_column r = sound r.encoding && clear r.presence r.encoding

pub record Sound (r : Column) : Type 0 where
  pub encoding : sound r.encoding ≡ true
  pub absent : clear r.presence r.encoding ≡ true

-- the columns are sound, and their cells stand side by side from o up to n
unfoldable pub laid : List Column → ℕ → ℕ → Bool
laid [] o n = eqb o n
laid (r ∷ rs) o n = eqb r.at o && (sound_column r && laid rs (o + column_width r) n)

-- a column whose cell lies within a row of n bytes
pub record Fits (n : ℕ) (r : Column) : Type 0 where
  pub within : r.at + column_width r ≤ n
  pub sound : Sound r
