use Rattle.std.proofs.Common.{◌∙◌, ap, length}
use Rattle.arrayvec.proofs.ArrayVecLemmas.{items-with_items}
use Rattle.replay.proofs.Filling.{past_filled}
use Rattle.replay.proofs.player.Player.write.Goals as goal

pub returns-clause-output : goal.returns-clause-output
returns-clause-output c =
    let past = past_filled _ _ _ _ c.bytes.ensures.value c.clear.ensures c.fill_up.ensures in
    rw (items-with_items c.fill_up.new.bytes c.write.new.out (c.write.auto.out ∙ ap length c.as_mut_slice.ensures.value))
    (c.write.ensures ∙ rw (
      c.as_slice.ensures.value,
      c.as_slice-2.ensures.value,
      c.as_slice-3.ensures.value,
      c.as_mut_slice.ensures.value,
      past,
    ))
