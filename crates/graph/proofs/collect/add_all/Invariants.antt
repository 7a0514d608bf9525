use mathlib.Core.Path.{◌≡◌}
use lib.ListN.{length}
use Rattle.sets.specs.Sets.{member}
use Rattle.schema.specs.Layout.{attribute_set}
use Rattle.schema.specs.Store.{table_in}
use Rattle.schema.specs.declared.number.TableId.TheVariants.{Classes}
use Rattle.graph.proofs.Gather.{Added}
use Rattle.graph.proofs.collect.add_all.Given as goal

abbrev pub invariant-loop-k : goal.invariant-loop-k
invariant-loop-k l = (length l.out ≡ attribute_set) × Added (table_in Classes l.classes) (member l.chosen.bits) l.at l.k l.initial.out l.out
