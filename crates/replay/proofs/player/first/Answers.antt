use Rattle.replay.proofs.Filling.{first_filled}
use Rattle.replay.proofs.player.first.Goals as goal

pub returns : goal.returns
returns c =
    first_filled _ _ _ _ c.new-bytes.ensures c.fill_up.ensures c.fill_up-2.ensures
