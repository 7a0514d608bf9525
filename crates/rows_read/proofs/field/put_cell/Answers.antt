use mathlib.Core.Path.{sym, ◌∙◌}
use Rattle.rows_format.proofs.ColumnsLaws.{width_small, cell_length, takes_accepts}
use Rattle.rows_read.proofs.Storing.{cell_stored}
use Rattle.rows_read.proofs.field.put_cell.Goals as goal

pub width-requires : goal.width-requires
width-requires c =
    width_small _ c.requires.0.sound

pub returns : goal.returns
returns c =
    let column = c.args.column in
    let v = c.args.v.now in
    cell_stored c.args.column.at c.width.result c.args.row.now c.store_cell.new.cell _
    (c.width.ensures ∙ sym (cell_length column v (takes_accepts column v c.requires.1))) c.store_cell.ensures
