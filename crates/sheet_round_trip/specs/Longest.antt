-- How long a sheet can be. A row has at most one field for each column of its table, and a field at most its header and the longest value that its
-- column's cell can hold.
use Rattle.std.specs.Prelude.{ℕ, ◌+◌, ◌*◌}
use Rattle.schema.specs.declared.number.TableId.{TableId}
use Rattle.schema.specs.declared.number.TableId.TheVariants.{Attributes, Classes}
use Rattle.schema.specs.Numbers.{limit}

-- the longest field of a row
abbrev pub longest_row : TableId → ℕ
longest_row Attributes = 224
longest_row Classes = 2761

-- the heading, and as many such rows of each table as it can hold
abbrev pub longest_sheet : ℕ
longest_sheet = 4 + longest_row Attributes * limit Attributes + longest_row Classes * limit Classes
