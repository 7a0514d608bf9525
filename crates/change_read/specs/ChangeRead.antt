-- What reading a change comes to, by names for its two cases: what it asks for, or the place of the first field that cannot be accepted, of a missing field or
-- of leftover bytes.
use Rattle.std.specs.Prelude.{ℕ, Result, Ok, Err}
use Rattle.wire.specs.declared.BadField.{BadField}
use Rattle.change_read.specs.declared.read.Change.{Change}

abbrev pub ChangeRead : Type 0
ChangeRead = Result Change BadField

pattern abbrev pub Read : Change → ChangeRead
Read change = Ok change

abbrev pub Bad : ℕ → ChangeRead
Bad at = Err (record { at = at })
