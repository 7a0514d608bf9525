use mathlib.Core.Path.{◌≡◌}
use lib.ListN.{length}
use Rattle.schema.specs.Store.{table_in}
use Rattle.schema.specs.declared.number.TableId.TheVariants.{Classes}
use Rattle.closure_change.proofs.Joining.{Named}
use Rattle.schema.specs.Layout.{closure_width}
use Rattle.closure_change.proofs.added.write_named.Given as goal

abbrev pub invariant-loop-y : goal.invariant-loop-y
invariant-loop-y l = (length l.out ≡ closure_width) × Named (table_in Classes l.classes) l.closure l.n.0 l.y l.out
