-- What a column makes of the field in front, by names for its three cases: it takes its own, leaves that of another column, and refuses one that cannot be
-- accepted.
use Rattle.std.specs.Prelude.{ℕ, None, Ok}
use Rattle.wire.specs.FieldRead.{FieldRead}
use Rattle.wire.specs.FieldRead as fields

abbrev pub Turn : Type 0
Turn = FieldRead

abbrev pub Taken : ℕ → ℕ → ℕ → Turn
Taken tag start stop = fields.Field tag start stop

pattern abbrev pub Passed : Turn
Passed = Ok None

abbrev pub Refused : ℕ → Turn
Refused at = fields.Bad at
