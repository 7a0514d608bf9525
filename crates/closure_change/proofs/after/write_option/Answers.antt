use mathlib.Core.Path.{◌∙◌, ap, refl}
use Rattle.closure_change.proofs.Joining.{option_written}
use Rattle.prelude.specs.Part.{zeros}
use Rattle.closure_change.proofs.after.write_option.Goals as goal

pub returns : goal.returns
unfolding zeros
returns c =
    option_written c.args.b.0 refl c.insert.ensures (c.clear.ensures ∙ ap zeros c.requires) c.put_bytes.ensures
