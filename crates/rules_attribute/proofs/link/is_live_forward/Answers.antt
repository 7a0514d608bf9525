use Rattle.std.proofs.Common.{arith}
use Rattle.schema.specs.StoreLaws.{table_row_wide}
use Rattle.schema.specs.declared.number.TableId.TheVariants.{Attributes}
use Rattle.rules_attribute.proofs.link.is_live_forward.Goals as goal

pub is_forward_of-requires : goal.is_forward_of-requires
is_forward_of-requires c = (
  c.requires.1,
  table_row_wide Attributes c.args.attributes.now c.attribute_row.result.now c.args.j.0 c.requires.0.long
      (omega (arith, c.requires.0.few, c.requires.2)) c.attribute_row.ensures,
)
