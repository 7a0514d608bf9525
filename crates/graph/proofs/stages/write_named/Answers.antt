use Rattle.graph.proofs.Firsts.{named_written, union_is, lists_wide}
use Rattle.schema.specs.ClassRow.{superclass_of, fixed_auxiliary_of, open_auxiliary_of}
use Rattle.schema.specs.Layout.{class_set, fixed_auxiliary_at, open_auxiliary_at}
use Rattle.sets.specs.Sets.{member, set_of, union}
use Rattle.std.proofs.Common.{List, ℕ, ap, ap₂, sym, ◌∙◌, ◌||◌, length, arith, rules}
use Rattle.schema.specs.Store.{table_in}
use Rattle.schema.specs.declared.number.TableId.TheVariants.{Classes}
use Rattle.schema.specs.StoreLaws.{table_row_wide}
use Rattle.graph.proofs.stages.write_named.Goals as goal

pub class_row-row-requires : goal.class_row-row-requires
class_row-row-requires c =
    (c.requires.0.long, omega (arith, c.requires.0.few, c.requires.1))

pub fixed_auxiliary-requires : goal.fixed_auxiliary-requires
fixed_auxiliary-requires c =
    table_row_wide Classes c.args.classes.now c.class_row-row.result.now c.args.c.0 c.requires.0.long (omega
    (arith, c.requires.0.few, c.requires.1)) c.class_row-row.ensures

pub open_auxiliary-requires : goal.open_auxiliary-requires
open_auxiliary-requires c =
    table_row_wide Classes c.args.classes.now c.class_row-row.result.now c.args.c.0 c.requires.0.long (omega
    (arith, c.requires.0.few, c.requires.1)) c.class_row-row.ensures

pub write_union-requires : goal.write_union-requires
write_union-requires c =
    let wide = lists_wide _ (table_row_wide Classes c.args.classes.now _ c.args.c.0 c.requires.0.long (omega arith) c.class_row-row.ensures) in (
      ap length c.fixed_auxiliary.ensures ∙ wide.0 ∙ sym c.requires.2,
      ap length c.open_auxiliary.ensures ∙ wide.1 ∙ sym c.requires.2,
    )

pub insert_superclass-requires : goal.insert_superclass-requires
insert_superclass-requires c = (
  table_row_wide Classes c.args.classes.now c.class_row-row.result.now c.args.c.0 c.requires.0.long (omega
      (arith, c.requires.0.few, c.requires.1)) c.class_row-row.ensures,
  search rules,
)

pub returns : goal.returns
returns c =
    let row = c.class_row-row.result.now in
    let wide = table_row_wide Classes c.args.classes.now row c.args.c.0 c.requires.0.long (omega arith) c.class_row-row.ensures in
    named_written (table_in Classes c.args.classes.now) c.args.c.0 c.requires.1 _ _ _ _ _ _
    (ap superclass_of c.class_row-row.ensures) c.row_count.ensures
    (c.write_union.ensures ∙ ap₂ union c.fixed_auxiliary.ensures c.open_auxiliary.ensures
    ∙ union_is class_set fixed_auxiliary_at open_auxiliary_at row (omega (arith, wide))
    ∙ ap (λ (row : List ℕ). set_of class_set (λ k. member (fixed_auxiliary_of row) k || member (open_auxiliary_of row) k)) c.class_row-row.ensures)
    c.insert_superclass.ensures c.keep_below.ensures c.insert.ensures
