use borrow.Author.Tests.{lt-ltb, le-ltb}
use Rattle.schema.proofs.number.AttributeNumber.new.Goals as goal

pub returns-then-n-lt-LIMIT : goal.returns-then-n-lt-LIMIT
returns-then-n-lt-LIMIT c =
    rw (lt-ltb _ _ c.if-n-lt-LIMIT.true)

pub returns-else-n-lt-LIMIT : goal.returns-else-n-lt-LIMIT
returns-else-n-lt-LIMIT c =
    rw (le-ltb _ _ c.if-n-lt-LIMIT.false)
