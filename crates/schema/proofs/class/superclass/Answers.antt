use mathlib.Core.Path.{ap, ◌∙◌}
use Rattle.schema.specs.Numbers.{class_read}
use Rattle.schema.proofs.class.superclass.Goals as goal

pub returns : goal.returns
returns c =
    c.new.ensures ∙ ap class_read c.byte_at.ensures
