use Rattle.change_read.proofs.Cases.{no_change}
use Rattle.change_read.proofs.read.change_of.Goals as goal

pub returns-in_default : goal.returns-in_default
returns-in_default c =
    no_change _ c.in_default.in_default-own.rest
