use Rattle.std.proofs.Common.{ap, ◌∙◌, not}
use Rattle.prelude.specs.Part.{same_bytes}
use Rattle.graph.proofs.demand.demand_differs.Goals as goal

pub returns : goal.returns
returns c =
    ap not (c.same.ensures ∙ ap (same_bytes c.args.before.now) c.write_demanded.ensures)
