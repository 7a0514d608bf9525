use native.Mathlib.Omega.{arith}
use Rattle.schema.specs.Layout.{class_set, fixed_auxiliary_at, open_auxiliary_at, fixed_superior_at, open_superior_at}
use Rattle.rules_class.proofs.Bytewise.{in_part}
use Rattle.rules_class.proofs.live.names_no_class.Goals as goal

pub is_blank-requires : goal.is_blank-requires
is_blank-requires c = (
  in_part fixed_auxiliary_at class_set c.args.row.now c.fixed_auxiliary.ensures (omega (arith, c.requires.0)) c.requires.1,
  in_part open_auxiliary_at class_set c.args.row.now c.open_auxiliary.ensures (omega (arith, c.requires.0)) c.requires.1,
)

pub is_blank-requires-then-is_blank : goal.is_blank-requires-then-is_blank
is_blank-requires-then-is_blank c = (
  in_part fixed_superior_at class_set c.args.row.now c.fixed_superior.ensures (omega (arith, c.requires.0)) c.requires.1,
  in_part open_superior_at class_set c.args.row.now c.open_superior.ensures (omega (arith, c.requires.0)) c.requires.1,
)
