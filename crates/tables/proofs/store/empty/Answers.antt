use Rattle.tables.proofs.Written.{lent_cleared_front}
use Rattle.tables.proofs.store.empty.Goals as goal

pub returns : goal.returns
returns c =
    lent_cleared_front c.args.n c.args.store.now _
    c.requires c.clear.ensures
