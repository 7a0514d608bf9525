use mathlib.Core.Path.{◌∙◌, ap}
use Rattle.closure_change.specs.Kept.{joined_into}
use Rattle.closure_change.proofs.after.join_option.Goals as goal

pub returns : goal.returns
returns c =
    c.join_all.ensures ∙ ap (λ more. joined_into c.args.n c.args.k.0 more c.args.closure.now) c.write_option.ensures
