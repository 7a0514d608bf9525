use native.Mathlib.Omega.{arith}
use Rattle.schema.specs.Layout.{attribute_set, mandatory_at, fixed_optional_at, open_optional_at}
use Rattle.rules_class.proofs.Bytewise.{in_part}
use Rattle.rules_class.proofs.live.names_no_attribute.Goals as goal

pub is_blank-requires : goal.is_blank-requires
is_blank-requires c = (
  in_part mandatory_at attribute_set c.args.row.now c.mandatory.ensures (omega (arith, c.requires.0)) c.requires.1,
  in_part fixed_optional_at attribute_set c.args.row.now c.fixed_optional.ensures (omega (arith, c.requires.0)) c.requires.1,
)

pub byte_at-requires : goal.byte_at-requires
byte_at-requires c =
    in_part open_optional_at attribute_set c.args.row.now c.open_optional.ensures (omega (arith, c.requires.0)) c.requires.1
