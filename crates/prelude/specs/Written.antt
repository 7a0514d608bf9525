-- Bytes written at a place of an output.
use Rattle.std.specs.Prelude.{List, ◌≡◌, ℕ, ◌+◌, length}
use Rattle.prelude.specs.Part.{splice}

-- they stand there, and nothing else has changed: the place after them, and every byte of the output
pub record WrittenAt (new : List ℕ) (at next : ℕ) (before after : List ℕ) : Type 0 where
  pub place : next ≡ at + length new
  pub bytes : after ≡ splice at new before
