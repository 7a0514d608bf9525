use Rattle.replay.proofs.Filling.{resized_filled}
use Rattle.replay.proofs.player.resize.Goals as goal

pub returns : goal.returns
returns c =
    resized_filled _ _ _ _ _ c.bytes-n.ensures.value c.truncate.ensures.items c.fill_up.ensures
