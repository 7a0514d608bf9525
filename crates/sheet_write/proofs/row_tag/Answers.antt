use Rattle.sheet_read.specs.Stopping.{row_tag}
use Rattle.sheet_write.proofs.row_tag.Goals as goal

pub returns-in-Attributes : goal.returns-in-Attributes
unfolding row_tag
returns-in-Attributes c =
    cc

pub returns-in-Classes : goal.returns-in-Classes
unfolding row_tag
returns-in-Classes c =
    cc
