use native.Mathlib.Omega.{arith}
use lib.ListN.{length-set}
use Rattle.rows_read.proofs.Storing.{rest_long, counted_stored}
use Rattle.rows_read.proofs.value.store_counted.Goals as goal

pub slice_bounds-copy_padded-count : goal.slice_bounds-copy_padded-count
slice_bounds-copy_padded-count c =
    simp length-set (omega arith)

pub slice_bounds-copy_padded-start : goal.slice_bounds-copy_padded-start
slice_bounds-copy_padded-start c =
    simp length-set (omega arith)

pub copy_padded-requires : goal.copy_padded-requires
copy_padded-requires c =
    rw (rest_long c.args.n c.args.cell.now (omega arith)) (omega arith)

pub returns : goal.returns
returns c =
    counted_stored c.args.n c.args.v.now c.args.cell.now _ c.requires c.copy_padded.ensures
