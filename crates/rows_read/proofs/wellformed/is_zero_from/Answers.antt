use mathlib.Core.Path.{ap, ◌∙◌}
use Rattle.prelude.specs.Part.{is_zero}
use Rattle.rows_read.proofs.Checking.{rest_of}
use Rattle.rows_read.proofs.wellformed.is_zero_from.Goals as goal

pub returns : goal.returns
returns c =
    c.is_zero.ensures ∙ ap is_zero (rest_of c.args.at c.args.cell.now)
