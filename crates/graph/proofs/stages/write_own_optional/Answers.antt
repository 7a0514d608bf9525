use Rattle.graph.proofs.Firsts.{union_is}
use Rattle.graph.specs.Graph.{lists_optional}
use Rattle.schema.specs.ClassRow.{fixed_optional_of, open_optional_of}
use Rattle.schema.specs.Layout.{attribute_set, fixed_optional_at, open_optional_at}
use Rattle.sets.specs.Sets.{member, set_of, union}
use Rattle.prelude.specs.PartLaws.{part_length}
use Rattle.std.proofs.Common.{List, ℕ, ap, ap₂, sym, ◌∙◌, ◌||◌, length, arith}
use Rattle.schema.specs.declared.number.TableId.TheVariants.{Classes}
use Rattle.schema.specs.StoreLaws.{table_row_wide}
use Rattle.graph.proofs.stages.write_own_optional.Goals as goal

pub class_row-row-requires : goal.class_row-row-requires
class_row-row-requires c =
    (c.requires.0.long, omega (arith, c.requires.0.few, c.requires.1))

pub fixed_optional-requires : goal.fixed_optional-requires
fixed_optional-requires c =
    table_row_wide Classes c.args.classes.now c.class_row-row.result.now c.args.c.0 c.requires.0.long (omega
    (arith, c.requires.0.few, c.requires.1)) c.class_row-row.ensures

pub open_optional-requires : goal.open_optional-requires
open_optional-requires c =
    table_row_wide Classes c.args.classes.now c.class_row-row.result.now c.args.c.0 c.requires.0.long (omega
    (arith, c.requires.0.few, c.requires.1)) c.class_row-row.ensures

pub write_union-requires : goal.write_union-requires
write_union-requires c =
    let row = c.class_row-row.result.now in
    let wide = table_row_wide Classes c.args.classes.now row c.args.c.0 c.requires.0.long (omega arith) c.class_row-row.ensures in (
      ap length c.fixed_optional.ensures ∙ part_length fixed_optional_at attribute_set row (omega (arith, wide)) ∙ sym c.requires.2,
      ap length c.open_optional.ensures ∙ part_length open_optional_at attribute_set row (omega (arith, wide)) ∙ sym c.requires.2,
    )

pub returns : goal.returns
unfolding lists_optional
returns c =
    let row = c.class_row-row.result.now in
    let wide = table_row_wide Classes c.args.classes.now row c.args.c.0 c.requires.0.long (omega arith) c.class_row-row.ensures in
    c.write_union.ensures ∙ ap₂ union c.fixed_optional.ensures c.open_optional.ensures
    ∙ union_is attribute_set fixed_optional_at open_optional_at row (omega (arith, wide))
    ∙ ap (λ (row : List ℕ). set_of attribute_set (λ b. member (fixed_optional_of row) b || member (open_optional_of row) b)) c.class_row-row.ensures
