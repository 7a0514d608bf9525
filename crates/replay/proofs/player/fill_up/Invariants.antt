use Rattle.std.proofs.Common.{◌≡◌, ◌-◌, ◌≤◌, ◌++◌, length, replicate}
use Rattle.replay.proofs.player.fill_up.Given as goal

abbrev pub invariant-loop-bytes : goal.invariant-loop-bytes
invariant-loop-bytes l = (length l.initial.bytes.items ≤ length l.bytes.items)
    × (length l.bytes.items - length l.initial.bytes.items ≤ l.n - length l.initial.bytes.items)
    × (l.bytes.items ≡ l.initial.bytes.items ++ replicate (length l.bytes.items - length l.initial.bytes.items) l.byte)

abbrev pub decreases-loop-bytes : goal.decreases-loop-bytes
decreases-loop-bytes l = l.n - length l.bytes.items
