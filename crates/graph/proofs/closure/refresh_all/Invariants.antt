use Rattle.graph.specs.Stages.{stage_rows}
use Rattle.prelude.specs.Part.{splice}
use lib.ListN.{length}
use mathlib.Core.Path.{◌≡◌}
use Rattle.schema.specs.declared.number.TableId.TheVariants.{Classes}
use Rattle.schema.specs.Store.{table_in}
use Rattle.graph.proofs.closure.refresh_all.Given as goal

abbrev pub invariant-loop-k : goal.invariant-loop-k
invariant-loop-k l = (length l.closure ≡ length l.initial.closure) × (l.closure ≡ splice 0 (stage_rows (table_in Classes l.classes) l.k) l.initial.closure)
