use Rattle.std.proofs.Common.{◌≡◌, ◌++◌}
use Rattle.prelude.specs.Concat.{concat_below}
use Rattle.list_text.specs.Listing.{arc_text}
use Rattle.list_text.proofs.class.put_identifier.Given as goal

abbrev pub invariant-loop-k : goal.invariant-loop-k
invariant-loop-k l = l.text ≡ l.initial.text ++ concat_below l.k (arc_text l.row)
