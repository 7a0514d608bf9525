-- What reading a sheet comes to, by names for its three cases: all of it is read; the place of the first field that cannot be accepted, or of the end where the
-- heading is missing; or a table that has no free row.
use Rattle.std.specs.Prelude.{ℕ, Result, Ok, Err}
use Rattle.schema.specs.declared.number.TableId.{TableId}
use Rattle.sheet_read.specs.declared.read.SheetError.{SheetError}
use Rattle.sheet_read.specs.declared.read.SheetError.TheVariants as error

abbrev pub SheetRead : Type 0
SheetRead = Result (Unit {0}) SheetError

pattern abbrev pub Read : SheetRead
Read = Ok tt

pattern abbrev pub Bad : ℕ → SheetRead
Bad at = Err (error.Bad at)

pattern abbrev pub Full : TableId → SheetRead
Full t = Err (error.Full t)
