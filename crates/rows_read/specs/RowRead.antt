-- What reading a value comes to, by names for its two cases: all of it is read, or the place of the first field that cannot be accepted, or of the end
-- where one is missing.
use Rattle.std.specs.Prelude.{ℕ, Result, Ok, Err}
use Rattle.wire.specs.declared.BadField.{BadField}

abbrev pub RowRead : Type 0
RowRead = Result (Unit {0}) BadField

pattern abbrev pub Read : RowRead
Read = Ok tt

abbrev pub Bad : ℕ → RowRead
Bad at = Err (record { at = at })
