-- Whether the row that a tag announces has room in its table, by names for the two cases.
use Rattle.std.specs.Prelude.{Result, Ok, Err}
use Rattle.schema.specs.declared.number.TableId.{TableId}
use Rattle.sheet_read.specs.declared.read.SheetError.{SheetError}
use Rattle.sheet_read.specs.declared.read.SheetError.TheVariants as error

abbrev pub Room : Type 0
Room = Result (Unit {0}) SheetError

pattern abbrev pub Free : Room
Free = Ok tt

pattern abbrev pub Full : TableId → Room
Full t = Err (error.Full t)
