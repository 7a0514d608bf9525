-- What a reader meets at its place. Document 01: "One reader carries the lent sheet and its place."
use Rattle.std.specs.Prelude.{List, Some, None, Ok, Err, ℕ, eqb, get_or, length}
use Rattle.wire.specs.Wire.{field_at}
use Rattle.wire.specs.FieldRead.{FieldRead}
use Rattle.reader.specs.declared.Step.{Step}

-- the place past a field that was read, and the same place where none was
unfoldable pub past_read : ℕ → FieldRead → ℕ
past_read at (Ok (Some field)) = field.end
past_read at (Ok None) = at
past_read at (Err bad) = at

-- the place past the field that stands at a place
unfoldable pub past_field : List ℕ → ℕ → ℕ
past_field s at = past_read at (field_at s at (length s))

-- what a reader at a place of the bytes meets
unfoldable pub step_at : List ℕ → ℕ → Step
step_at s at = record {
  ended = eqb at (length s);
  tag = get_or s at 0;
  field = field_at s at (length s);
  next = past_field s at;
  last = eqb (past_field s at) (length s);
}
