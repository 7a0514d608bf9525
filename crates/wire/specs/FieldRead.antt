-- What reading a field comes to, by names for its three cases: a whole field, nothing left, and a field that is bad at its tag.
use Rattle.std.specs.Prelude.{ℕ, Option, Some, None, Result, Ok, Err}
use Rattle.wire.specs.declared.BadField.{BadField}
use Rattle.wire.specs.declared.Field as declared

abbrev pub FieldRead : Type 0
FieldRead = Result (Option declared.Field) BadField

abbrev pub Field : ℕ → ℕ → ℕ → FieldRead
Field tag start stop = Ok (Some (record { tag = tag; start = start; end = stop }))

pattern abbrev pub End : FieldRead
End = Ok None

abbrev pub Bad : ℕ → FieldRead
Bad at = Err (record { at = at })
