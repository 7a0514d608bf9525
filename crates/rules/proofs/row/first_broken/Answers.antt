use Rattle.rules.specs.Rules.{numbered}
use Rattle.rules.proofs.row.first_broken.Goals as goal

pub returns : goal.returns
unfolding numbered
returns c =
    c.first_by.ensures
