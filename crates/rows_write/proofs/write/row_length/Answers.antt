use mathlib.Core.List.{List}
use Rattle.rows_format.specs.declared.column.Column.{Column}
use Rattle.rows_format.specs.Columns.{write_by}
use mathlib.Core.Path.{refl, ap}
use native.Mathlib.Omega.{arith}
use lib.ListN.{get_or, length}
use Rattle.rows_format.specs.Formats.{no_column}
use Rattle.rows_format.proofs.FormatsLaws.{zero_column, fits_item, format_few}
use Rattle.rows_write.specs.WritingLaws.{length_next, write_done}
use Rattle.rows_write.proofs.Writing.{field_short, formed_item}
use Rattle.rows_write.proofs.write.row_length.Goals as goal

pub field_length-n-requires : goal.field_length-n-requires
field_length-n-requires c =
    let format = c.args.format in
    let items = c.columns-column-items.result.now in
    let l = c.loop-column-test.true in let k = fits_item format items c.loop-column.column-index zero_column c.columns-column-items.ensures l c.requires.0 in let f = formed_item format items c.loop-column.column-index zero_column c.args.row.now c.columns-column-items.ensures l c.requires.1 in (k, f)

pub overflow_add-n : goal.overflow_add-n
overflow_add-n c =
    let format = c.args.format in
    let items = c.columns-column-items.result.now in
    let l = c.loop-column-test.true in let k = fits_item format items c.loop-column.column-index zero_column c.columns-column-items.ensures l c.requires.0 in let s = field_short (get_or items c.loop-column.column-index zero_column) c.args.row.now k in omega
    (arith, c.loop-column.invariant.small, c.field_length-n.ensures, format_few format, ap length c.columns-column-items.ensures, c.loop-column-test.true)

pub loop-column-preserved : goal.loop-column-preserved
loop-column-preserved c =
    let format = c.args.format in
    let items = c.columns-column-items.result.now in
    let row = c.args.row.now in
    let l = c.loop-column-test.true in let k = fits_item format items c.loop-column.column-index zero_column c.columns-column-items.ensures l c.requires.0 in let s = field_short (get_or items c.loop-column.column-index zero_column) row k in let e = length_next items zero_column c.loop-column.column-index row l refl in record {
      small = omega (arith, c.loop-column.invariant.small, c.field_length-n.ensures);
      same = omega
          (arith, e, c.loop-column.invariant.same, c.field_length-n.ensures);
    }

pub returns : goal.returns
returns c =
    let d = ap length
    (write_done c.columns-column-items.result.now no_column c.loop-column.column-index c.args.row.now
    c.loop-column-test.false)
    in omega (arith, d, c.loop-column.invariant.same, ap (λ (t : List Column). length (write_by t c.args.row.now)) c.columns-column-items.ensures)
