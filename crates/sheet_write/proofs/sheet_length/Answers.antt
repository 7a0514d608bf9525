use native.Mathlib.Omega.{arith}
use Rattle.schema.specs.declared.number.TableId.TheVariants.{Attributes, Classes}
use Rattle.schema.specs.Store.{table_in, schema_in}
use Rattle.sheet_write.proofs.Rows.{all_short, sheet_size}
use Rattle.sheet_write.proofs.sheet_length.Goals as goal

pub overflow_add-result-2 : goal.overflow_add-result-2
overflow_add-result-2 c =
    omega
    (arith, c.row_fields_length-before.ensures, all_short Attributes (table_in Attributes c.args.attributes.now) c.requires.0.few)

pub overflow_add-result-3 : goal.overflow_add-result-3
overflow_add-result-3 c =
    omega (
      arith,
      c.row_fields_length-before.ensures,
      c.row_fields_length-behind.ensures,
      all_short Attributes (table_in Attributes c.args.attributes.now)
          c.requires.0.few,
      all_short Classes (table_in Classes c.args.classes.now) c.requires.1.few,
    )

pub returns : goal.returns
returns c =
    omega (
      arith,
      c.row_fields_length-before.ensures,
      c.row_fields_length-behind.ensures,
      sheet_size
          (schema_in c.args.attributes.now c.args.classes.now),
    )
