use Rattle.graph.proofs.Firsts.{part_fits, copied_set}
use Rattle.graph.specs.Graph.{lists_mandatory}
use Rattle.schema.specs.ClassRow.{mandatory_of}
use Rattle.schema.specs.Layout.{attribute_set, mandatory_at}
use Rattle.sets.specs.Sets.{member, set_of}
use Prim.Native.Nat.{ℕ}
use mathlib.Core.Path.{refl, ap, ◌∙◌}
use mathlib.Core.List.{List}
use Rattle.schema.specs.declared.number.TableId.TheVariants.{Classes}
use Rattle.schema.specs.StoreLaws.{table_row_wide}
use native.Mathlib.Omega.{arith}
use Rattle.graph.proofs.stages.write_own_mandatory.Goals as goal

pub class_row-requires : goal.class_row-requires
class_row-requires c =
    (c.requires.0.long, omega (arith, c.requires.0.few, c.requires.1))

pub mandatory-requires : goal.mandatory-requires
mandatory-requires c =
    table_row_wide Classes c.args.classes.now c.class_row.result.now c.args.c.0 c.requires.0.long (omega
    (arith, c.requires.0.few, c.requires.1)) c.class_row.ensures

pub copy_padded-requires : goal.copy_padded-requires
copy_padded-requires c =
    part_fits attribute_set mandatory_at c.class_row.result.now c.args.out.now (omega (
      arith,
      table_row_wide Classes
          c.args.classes.now c.class_row.result.now c.args.c.0 c.requires.0.long (omega (arith, c.requires.0.few, c.requires.1))
          c.class_row.ensures,
    )) c.requires.2 c.mandatory.ensures refl

pub returns : goal.returns
unfolding lists_mandatory
returns c =
    copied_set attribute_set mandatory_at c.class_row.result.now c.args.out.now (omega (
      arith,
      table_row_wide Classes
          c.args.classes.now c.class_row.result.now c.args.c.0 c.requires.0.long (omega (arith, c.requires.0.few, c.requires.1))
          c.class_row.ensures,
    )) c.requires.2 c.mandatory.ensures c.copy_padded.ensures (λ i. (c.slice_known-2-1.given i).fits) ∙ ap (λ
    (row : List ℕ). set_of attribute_set (member (mandatory_of row))) c.class_row.ensures
