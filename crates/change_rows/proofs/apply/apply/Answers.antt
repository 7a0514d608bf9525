use mathlib.Core.Path.{◌∙◌, ap, sym}
use Rattle.prelude.specs.PartLaws.{part_length}
use Rattle.schema.specs.Layout.{row_width}
use Rattle.schema.specs.LayoutLaws.{narrow_row}
use Rattle.change_rows.specs.Rows.{table_for}
use Rattle.change_rows.proofs.Applying.{added_store, edited_back, lent_wide, row_inside, row_target, target_start}
use native.Mathlib.Omega.{arith}
use Rattle.change_rows.proofs.apply.apply.Goals as goal

pub added_row-requires : goal.added_row-requires
added_row-requires c =
    rw (c.table_for-table.ensures, c.requires.0.carried) (narrow_row (table_for c.args.change))

pub push_row-requires : goal.push_row-requires
push_row-requires c =
    let ok = c.requires.0 in
    let t = table_for c.args.change in
    rw (c.added_row.ensures, c.table_for-table.ensures) (
      ok.long,
      ok.room (sym c.is_addition.ensures ∙ c.if-is_addition.true),
      part_length 0 (row_width t) c.args.scratch.now (omega (arith, ok.carried, narrow_row t)),
    )

pub row_start-at-requires : goal.row_start-at-requires
row_start-at-requires c =
    let change = c.args.change in
    let r = c.args.scratch.now in
    let s = c.args.store.now in
    let ok = c.requires.0 in
    let fixed = sym c.is_addition.ensures ∙ c.if-is_addition.false in
    let is = row_target change r s fixed c.requires.1 in
    rw is.0 (omega (arith, is.1, ok.within fixed))

pub overflow_add-end : goal.overflow_add-end
overflow_add-end c =
    let change = c.args.change in
    let r = c.args.scratch.now in
    let s = c.args.store.now in
    let ok = c.requires.0 in
    let fixed = sym c.is_addition.ensures ∙ c.if-is_addition.false in
    let wide = c.row_width.ensures ∙ ap row_width c.table_for-table.ensures in
    let begins = target_start change r s fixed c.requires.1 c.row_start-at.ensures in
    omega (arith, row_inside change r s ok fixed c.row_width.result c.row_start-at.result wide begins, c.well_formed)

pub slice_bounds-edit_row-end : goal.slice_bounds-edit_row-end
slice_bounds-edit_row-end c =
    let change = c.args.change in
    let r = c.args.scratch.now in
    let s = c.args.store.now in
    let ok = c.requires.0 in
    let fixed = sym c.is_addition.ensures ∙ c.if-is_addition.false in
    let wide = c.row_width.ensures ∙ ap row_width c.table_for-table.ensures in
    let begins = target_start change r s fixed c.requires.1 c.row_start-at.ensures in
    row_inside change r s ok fixed c.row_width.result c.row_start-at.result wide begins

pub edit_row-requires : goal.edit_row-requires
edit_row-requires c =
    let change = c.args.change in
    let r = c.args.scratch.now in
    let s = c.args.store.now in
    let ok = c.requires.0 in
    let fixed = sym c.is_addition.ensures ∙ c.if-is_addition.false in
    let wide = c.row_width.ensures ∙ ap row_width c.table_for-table.ensures in
    let begins = target_start change r s fixed c.requires.1 c.row_start-at.ensures in
    (fixed, ok.carried, lent_wide change r s ok fixed c.row_width.result c.row_start-at.result wide begins)

pub returns-then-is_addition : goal.returns-then-is_addition
returns-then-is_addition c =
    added_store c.args.change c.args.scratch.now c.args.store.now (sym c.is_addition.ensures ∙ c.if-is_addition.true)
    c.table_for-table.ensures c.added_row.ensures c.push_row.ensures

pub returns-else-is_addition : goal.returns-else-is_addition
returns-else-is_addition c =
    let change = c.args.change in
    let r = c.args.scratch.now in
    let s = c.args.store.now in
    let ok = c.requires.0 in
    let fixed = sym c.is_addition.ensures ∙ c.if-is_addition.false in
    let wide = c.row_width.ensures ∙ ap row_width c.table_for-table.ensures in
    let begins = target_start change r s fixed c.requires.1 c.row_start-at.ensures in
    edited_back change r s ok fixed c.row_width.result c.row_start-at.result wide begins c.edit_row.new.row c.edit_row.ensures
