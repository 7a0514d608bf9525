use mathlib.Core.Path.{◌∙◌, ap, ap₂, sym}
use mathlib.Core.Bool.{cond}
use Rattle.std.specs.Option.{unwrap_or}
use Rattle.schema.specs.Store.{count_in}
use Rattle.schema.specs.Numbers.{number_read, row_id}
use Rattle.change_read.specs.Carried.{target_of}
use Rattle.change_rows.specs.Rows.{table_for}
use Rattle.change_rows.proofs.Applying.{target_read}
use native.Mathlib.Omega.{arith}
use Rattle.change_rows.proofs.apply.row_changed.Goals as goal

pub row_count-requires : goal.row_count-requires
row_count-requires c =
    rw c.table_for-table.ensures c.requires.long

pub row_id-requires : goal.row_id-requires
row_id-requires c =
    let add = sym c.is_addition.ensures ∙ c.if-is_addition.true in
    rw c.table_for-table.ensures
    (omega (arith, c.row_count.ensures ∙ ap (λ t. count_in t c.args.store.now) c.table_for-table.ensures, c.requires.room add))

pub returns-then-is_addition : goal.returns-then-is_addition
returns-then-is_addition c =
    let s = c.args.store.now in
    let add = sym c.is_addition.ensures ∙ c.if-is_addition.true in
    let count = c.row_count.ensures ∙ ap (λ t. count_in t s) c.table_for-table.ensures in
    c.row_id.ensures ∙ ap₂ row_id c.table_for-table.ensures (count
    ∙ sym (ap (λ b. cond b (count_in (table_for c.args.change) s) (target_of c.args.scratch.now)) add))

pub returns : goal.returns
returns c =
    let fixed = sym c.is_addition.ensures ∙ c.if-is_addition.false in
    let r = c.args.scratch.now in
    let s = c.args.store.now in
    let t = table_for c.args.change in
    let read = c.number_read.ensures ∙ ap₂ number_read c.table_for-table.ensures c.target_of.ensures in
    c.unwrap_or.ensures ∙ ap (λ o. unwrap_or o c.row_id-2.result) read ∙ target_read c.args.change r s c.requires fixed c.row_id-2.result
    ∙ ap (row_id t) (sym (ap (λ b. cond b (count_in t s) (target_of r)) fixed))
