use Rattle.rows_format.proofs.ColumnsLaws.{width_small}
use Rattle.rows_read.proofs.Storing.{cell_cleared}
use Rattle.rows_read.proofs.field.clear_cell.Goals as goal

pub width-requires : goal.width-requires
width-requires c =
    width_small _ c.requires.sound

pub returns : goal.returns
returns c =
    cell_cleared _ _ _ _ _ c.width.ensures c.requires.within c.clear.ensures
