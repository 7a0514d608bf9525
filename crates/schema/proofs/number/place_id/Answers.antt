use borrow.Author.Tests.{lt-ltb, le-ltb}
use Rattle.schema.specs.Numbers.{place_id}
use Rattle.schema.proofs.number.place_id.Goals as goal

pub returns-then-p-attributes : goal.returns-then-p-attributes
unfolding place_id
returns-then-p-attributes c =
    rw (lt-ltb _ _ c.if-p-attributes.true) c.row_id.ensures

pub returns : goal.returns
unfolding place_id
returns c =
    rw (le-ltb _ _ c.if-p-attributes.false) c.row_id-2.ensures
