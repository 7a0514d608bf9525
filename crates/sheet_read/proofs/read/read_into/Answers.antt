use Rattle.std.specs.Prelude.{Err}
use mathlib.Core.Path.{ap, sym, ◌∙◌}
use Rattle.std.proofs.lemmas.Result.{err_from_is_err_and}
use Prim.Native.Nat.{◌-◌}
use lib.ListN.{length, drop}
use Rattle.prelude.specs.PartLaws.{zeros_length}
use Rattle.schema.specs.Layout.{row_width}
use Rattle.rows_format.specs.Formats.{format_width}
use Rattle.sheet_read.proofs.Steps.{front_within, front_zeros, front_back, front_room, read_in_yes, read_in_no}
use native.Mathlib.Omega.{arith}
use Rattle.sheet_read.proofs.read.read_into.Goals as goal

pub slice_bounds-read_row-end : goal.slice_bounds-read_row-end
slice_bounds-read_row-end c =
    omega (arith, front_within c.args.table _ c.args.scratch.now c.row_width-width.ensures c.requires.start_le_stop.2)

pub read_row-requires : goal.read_row-requires
unfolding format_width
read_row-requires c = (
  c.requires.start_le_stop.0,
  c.requires.start_le_stop.1,
  omega (
    arith,
    ap length (front_zeros c.args.table _ c.args.scratch.now c.row_width-width.ensures
        c.requires.start_le_stop.2),
    zeros_length (row_width c.args.table),
  ),
)

pub returns-in_err-read_row : goal.returns-in_err-read_row
returns-in_err-read_row c =
    let row = c.read_row.new.row in
    let p = err_from_is_err_and c.from_residual.result c.from_residual.ensures.1 in
    let w = read_in_no c.args.table c.args.s.now c.args.start c.args.stop c.row_width-width.result c.args.scratch.now
    c.row_width-width.ensures c.requires.start_le_stop.2 c.read_row.result row c.read_row.ensures.0
    c.read_row.ensures.1 _ c.in_err-read_row.was c.args.store.now in
    (p.1 ∙ ap Err p.2 ∙ sym c.in_err-read_row.was ∙ w.0, w.1)

pub slice_bounds-push_row-end : goal.slice_bounds-push_row-end
slice_bounds-push_row-end c =
    let scratch = c.args.scratch.now in
    let row = c.read_row.new.row in
    front_room c.args.table c.row_width-width.result scratch c.row_width-width.ensures c.requires.start_le_stop.2 row c.read_row.auto.row
    (drop (c.row_width-width.result - 0) scratch)

pub returns : goal.returns
returns c =
    let table = c.args.table in
    let scratch = c.args.scratch.now in
    let row = c.read_row.new.row in
    let w = read_in_yes table c.args.s.now c.args.start c.args.stop c.row_width-width.result scratch c.row_width-width.ensures
    c.requires.start_le_stop.2 c.read_row.result row c.read_row.ensures.0 c.read_row.ensures.1
    c.in_ok-read_row.was c.args.store.now _ c.push_row.new.store (front_back table c.row_width-width.result scratch
    c.row_width-width.ensures c.requires.start_le_stop.2 row c.read_row.auto.row
    (drop (c.row_width-width.result - 0) scratch)) c.push_row.ensures in
    (sym c.in_ok-read_row.was ∙ w.0, w.1)
