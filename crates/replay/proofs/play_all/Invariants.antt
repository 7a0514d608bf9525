use Rattle.std.proofs.Common.{length}
use Rattle.replay.proofs.play_all.Given as goal

abbrev pub decreases-loop-step : goal.decreases-loop-step
decreases-loop-step g l = length l.rest
