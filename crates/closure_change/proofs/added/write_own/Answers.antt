use Rattle.closure_change.proofs.Joining.{second_fits, third_fits, own_written}
use Rattle.prelude.specs.Part.{zeros}
use mathlib.Core.Path.{◌∙◌, ap, refl}
use lib.ListN.{length}
use Rattle.prelude.specs.PartLaws.{part_length}
use Rattle.schema.specs.Layout.{attribute_set, fixed_optional_at, open_optional_at}
use native.Mathlib.Omega.{arith}
use Rattle.closure_change.proofs.added.write_own.Goals as goal

pub write_union-requires : goal.write_union-requires
write_union-requires c = (
  ap length c.fixed_optional.ensures ∙ part_length fixed_optional_at attribute_set c.args.row.now (omega (arith, c.requires.0)),
  ap length c.open_optional.ensures ∙ part_length open_optional_at attribute_set c.args.row.now (omega (arith, c.requires.0)),
)

pub put_bytes-allowed-requires : goal.put_bytes-allowed-requires
unfolding zeros
put_bytes-allowed-requires c =
    second_fits c.args.n.0 c.args.row.now c.args.out.now c.requires.1 c.requires.0 refl c.insert.ensures
    c.mandatory.ensures c.fixed_optional.ensures c.open_optional.ensures c.write_union.ensures
    c.put_bytes-demanded.ensures

pub put_bytes-requires : goal.put_bytes-requires
unfolding zeros
put_bytes-requires c =
    third_fits c.args.n.0 c.args.row.now c.args.out.now c.requires.1 c.requires.0 refl c.insert.ensures
    c.mandatory.ensures c.fixed_optional.ensures c.open_optional.ensures c.write_union.ensures
    c.put_bytes-demanded.ensures c.put_bytes-allowed.ensures

pub returns : goal.returns
unfolding zeros
returns c =
    own_written c.args.n.0 c.args.row.now c.args.out.now c.requires.1 c.requires.0 refl c.insert.ensures
    c.mandatory.ensures c.fixed_optional.ensures c.open_optional.ensures c.write_union.ensures
    c.put_bytes-demanded.ensures c.put_bytes-allowed.ensures c.put_bytes.ensures
