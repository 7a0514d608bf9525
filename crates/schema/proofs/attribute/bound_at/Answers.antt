use Rattle.schema.specs.AttributeRow.{bound_at}
use Rattle.schema.proofs.attribute.bound_at.Goals as goal

pub returns-then-flag : goal.returns-then-flag
unfolding bound_at
returns-then-flag c =
    rw (← c.flag.ensures, c.if-flag.true, c.read_u32.ensures)

pub returns : goal.returns
unfolding bound_at
returns c =
    rw (← c.flag.ensures, c.if-flag.false)
