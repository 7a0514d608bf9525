use Rattle.std.proofs.Common.{◌+◌, ◌-◌, ◌*◌}
use Rattle.graph.proofs.Visit.{unvisited_count}
use Rattle.graph.proofs.reach.+visit_walk.Given as goal

abbrev pub decreases-visit : goal.decreases-visit
decreases-visit l = unvisited_count l.seen.bits * 256

abbrev pub decreases-walk : goal.decreases-walk
decreases-walk l = unvisited_count l.seen.bits * 256 + (128 - l.start)
