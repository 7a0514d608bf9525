use Rattle.std.proofs.Common.{◌∙◌, ap, ap₂, length, not, arith}
use Rattle.closure_change.proofs.Holding.{demanded_long}
use Rattle.sets.specs.Sets.{subset}
use Rattle.closure_change.proofs.after.auxiliary_demands.Goals as goal

pub is_subset-requires : goal.is_subset-requires
is_subset-requires c =
    omega (
      arith,
      ap length c.demanded.ensures,
      demanded_long c.args.closure.now c.requires.0 c.args.a.0 c.requires.1,
      ap length c.demanded-2.ensures,
      demanded_long c.args.closure.now c.requires.0 c.args.k.0 c.requires.2,
    )

pub returns : goal.returns
returns c =
    ap not (c.is_subset.ensures ∙ ap₂ subset c.demanded.ensures c.demanded-2.ensures)
