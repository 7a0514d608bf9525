-- What a turn comes to, by names for its two cases: reading goes on, or stops.
use Rattle.std.specs.Prelude.{ℕ, Bool, Result, Ok, Err}
use Rattle.sheet_read.specs.declared.read.Phase.{Phase}
use Rattle.sheet_read.specs.declared.read.Progress.{Progress}
use Rattle.sheet_read.specs.declared.read.SheetError.{SheetError}

abbrev pub Turn : Type 0
Turn = Result Progress SheetError

abbrev pub On : ℕ → Phase → Bool → Turn
On at phase missing = Ok (record { at = at; phase = phase; missing = missing })

pattern abbrev pub Stop : SheetError → Turn
Stop error = Err error
