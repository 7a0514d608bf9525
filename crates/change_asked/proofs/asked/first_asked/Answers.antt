use Rattle.std.proofs.Common.{rules}
use Rattle.std.specs.Result.{result_ok}
use mathlib.Core.Path.{◌≡◌, ◌∙◌, ap, sym}
use Rattle.schema.specs.Refused.{outcome_number}
use Rattle.schema.specs.Refusals.{no_such_row}
use Rattle.change_asked.proofs.Asking.{addition_found, beyond_count, table_target, target_found, target_past, target_there}
use Rattle.change_asked.specs.AskedLaws.{asked_absent}
use Rattle.schema.specs.NumbersLaws.{number_beyond, number_is}
use Rattle.schema.specs.Store.{schema_in}
use Rattle.tables.specs.ShapedLaws.{shaped_table}
use Rattle.change_rows.specs.Rows.{table_for}
use Rattle.change_asked.proofs.asked.first_asked.Goals as goal

pub addition_asked-requires : goal.addition_asked-requires
addition_asked-requires c =
    (c.requires.1, rw (c.store_of-store.ensures, c.table_for-table.ensures) (shaped_table (table_for c.args.change) c.requires.0).long)

pub returns-then-is_addition : goal.returns-then-is_addition
returns-then-is_addition c =
    c.addition_asked.ensures ∙ addition_found c.args.change c.args.scratch.now c.args.attributes.now
    c.args.classes.now c.table_for-table.ensures c.store_of-store.ensures (sym c.is_addition.ensures ∙ c.if-is_addition.true)

pub returns-in_err-id : goal.returns-in_err-id
returns-in_err-id c =
    let told : outcome_number c.from_residual.result ≡ no_such_row = search rules in
    told ∙ sym (asked_absent c.args.change c.args.scratch.now (schema_in c.args.attributes.now c.args.classes.now) (sym
    c.is_addition.ensures ∙ c.if-is_addition.false) (beyond_count c.args.change c.args.scratch.now c.requires.0
    c.table_for-table.ensures c.target_of.ensures
    (number_beyond c.table_for-table.result c.target_of.result (sym c.number_read.ensures ∙ c.ok_or.ensures.ok_part ∙ ap result_ok c.in_err-id.was))))

pub row_count-requires : goal.row_count-requires
row_count-requires c =
    rw (c.store_of-store.ensures, c.table_for-table.ensures) (shaped_table (table_for c.args.change) c.requires.0).long

pub returns-then-row_count-number_of : goal.returns-then-row_count-number_of
returns-then-row_count-number_of c =
    sym (asked_absent c.args.change c.args.scratch.now (schema_in c.args.attributes.now c.args.classes.now) (sym
    c.is_addition.ensures ∙ c.if-is_addition.false) (target_past c.args.change c.args.scratch.now c.args.attributes.now
    c.args.classes.now c.table_for-table.ensures c.store_of-store.ensures c.target_of.ensures (number_is
    c.table_for-table.result c.target_of.result (sym c.number_read.ensures ∙ c.ok_or.ensures.ok_part ∙ ap result_ok c.in_ok-id.was)).0 c.number_of.ensures
    c.row_count.ensures c.if-row_count-number_of.true))

pub target_asked-requires : goal.target_asked-requires
target_asked-requires c = (
  c.requires.0,
  c.requires.1,
  table_target c.args.change c.args.scratch.now c.args.attributes.now
      c.args.classes.now c.table_for-table.ensures c.store_of-store.ensures c.target_of.ensures (number_is c.table_for-table.result
      c.target_of.result (sym c.number_read.ensures ∙ c.ok_or.ensures.ok_part ∙ ap result_ok c.in_ok-id.was)).0 c.number_of.ensures c.row_count.ensures,
  target_there c.args.change c.args.scratch.now c.args.attributes.now c.args.classes.now
      c.table_for-table.ensures c.store_of-store.ensures c.target_of.ensures (number_is c.table_for-table.result
      c.target_of.result (sym c.number_read.ensures ∙ c.ok_or.ensures.ok_part ∙ ap result_ok c.in_ok-id.was)).0 c.number_of.ensures
      c.row_count.ensures c.if-row_count-number_of.false,
)

pub returns : goal.returns
returns c =
    c.target_asked.ensures ∙ target_found c.args.change c.args.scratch.now c.args.attributes.now
    c.args.classes.now c.table_for-table.ensures c.store_of-store.ensures c.target_of.ensures (number_is c.table_for-table.result
    c.target_of.result (sym c.number_read.ensures ∙ c.ok_or.ensures.ok_part ∙ ap result_ok c.in_ok-id.was)).0 c.number_of.ensures c.row_count.ensures (sym
    c.is_addition.ensures ∙ c.if-is_addition.false) c.if-row_count-number_of.false
