-- What a caller of `step_at` takes from it.
use Rattle.std.specs.Prelude.{List, ◌≡◌, ℕ, get_or, length}
use Rattle.std.proofs.Common.{sym, ◌∙◌}
use Rattle.std.proofs.Math.Path.{ap}
use Rattle.std.proofs.Math.Dec.{eqb}
use Rattle.wire.specs.Wire.{field_at}
use Rattle.wire.specs.FieldRead.{FieldRead, Field}
use Rattle.reader.specs.declared.Step.{Step}
use Rattle.reader.specs.Reader.{past_read, past_field, step_at}

module _ (s : List ℕ) (at : ℕ) (step : Step) (is : step ≡ step_at s at) where
  -- it has come to the end where the place is that
  pub step_ended : step.ended ≡ eqb at (length s)
  unfolding step_at
  step_ended = ap (λ (x : Step). x.ended) is

  -- the tag is the byte at the place
  pub step_tag : step.tag ≡ get_or s at 0
  unfolding step_at
  step_tag = ap (λ (x : Step). x.tag) is

  -- the field is the one at the place, up to the end of the bytes
  pub step_field : step.field ≡ field_at s at (length s)
  unfolding step_at
  step_field = ap (λ (x : Step). x.field) is

  -- past a whole field the reader stands where its value ends
  pub step_next : (tag start stop : ℕ) → step.field ≡ Field tag start stop → step.next ≡ stop
  unfolding step_at past_field past_read
  step_next tag start stop e = ap (λ (x : Step). x.next) is ∙ ap (past_read at) (sym step_field ∙ e)

  -- behind a whole field the bytes end where its value does
  pub step_last : (tag start stop : ℕ) → step.field ≡ Field tag start stop → step.last ≡ eqb stop (length s)
  unfolding step_at past_field past_read
  step_last tag start stop e =
      ap (λ (x : Step). x.last) is ∙ ap (λ (f : FieldRead). eqb (past_read at f) (length s)) (sym step_field ∙ e)
