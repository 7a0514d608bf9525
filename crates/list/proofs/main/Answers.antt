-- What `list` writes ends within the text.
use Rattle.std.proofs.Common.{sym, length-take-le}
use Rattle.prelude.specs.WrittenLaws.{written_within}
use Rattle.list.proofs.main.Goals as goal

pub slice_bounds-text-end : goal.slice_bounds-text-end
slice_bounds-text-end c = written_within c.list-length.ensures

pub slice_bounds-write_all-end : goal.slice_bounds-write_all-end
slice_bounds-write_all-end c = sym (length-take-le _ _ (written_within c.list-length.ensures))
