use Rattle.std.proofs.Common.{rules}
use Rattle.replay.specs.Hash.{mixed}
use Rattle.replay.proofs.hash.mix.Goals as goal

pub returns : goal.returns
unfolding mixed
returns c =
    search rules
