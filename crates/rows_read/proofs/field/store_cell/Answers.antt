use mathlib.Core.Path.{sym, ◌∙◌}
use Prim.Native.Nat.{◌≤◌}
use native.Mathlib.Omega.{arith}
use lib.ListN.{length, length-set}
use Rattle.rows_format.specs.Columns.{column_width}
use Rattle.rows_format.proofs.ColumnsLaws.{takes_bool}
use Rattle.rows_read.proofs.Storing.{rest_long, marked_cell, bare_cell, marked_stored}
use Rattle.rows_read.proofs.field.store_cell.Goals as goal

pub bounds-cell-0 : goal.bounds-cell-0
unfolding column_width
bounds-cell-0 c =
    let m = (marked_cell c.args.column c.args.v.now c.in-Marked.is).1 in omega arith

pub slice_bounds-store_value-count : goal.slice_bounds-store_value-count
unfolding column_width
slice_bounds-store_value-count c =
    let m = (marked_cell c.args.column c.args.v.now c.in-Marked.is).1 in simp length-set (omega arith)

pub slice_bounds-store_value-start : goal.slice_bounds-store_value-start
unfolding column_width
slice_bounds-store_value-start c =
    let m = (marked_cell c.args.column c.args.v.now c.in-Marked.is).1 in simp length-set (omega arith)

pub store_value-requires : goal.store_value-requires
unfolding column_width
store_value-requires c =
    let cell = c.args.cell.now in
    let m = (marked_cell c.args.column c.args.v.now c.in-Marked.is).1 in let l : 1 ≤ length cell = omega arith in let k = rest_long 1 cell l in
    (c.requires.0.encoding, takes_bool c.args.column c.args.v.now c.requires.1, k ∙ omega arith)

pub store_value-requires-in_default : goal.store_value-requires-in_default
unfolding column_width
store_value-requires-in_default c =
    let column = c.args.column in
    let v = c.args.v.now in
    let m = bare_cell column v c.in_default.not-Marked in (c.requires.0.encoding, takes_bool column v c.requires.1, omega arith)

pub returns-in-Marked : goal.returns-in-Marked
unfolding column_width
returns-in-Marked c =
    let m = marked_cell c.args.column c.args.v.now c.in-Marked.is in
    marked_stored c.args.cell.now c.store_value.new.cell _ (omega arith) c.store_value.auto.cell c.store_value.ensures ∙ sym m.0

pub returns-in_default : goal.returns-in_default
returns-in_default c =
    c.store_value-in_default.ensures ∙ sym (bare_cell c.args.column c.args.v.now c.in_default.not-Marked).0
