use borrow.Author.Tests.{lt-ltb, le-ltb}
use Rattle.keeper_c.specs.Calls.{is_short, stores_call}
use Rattle.keeper_c.proofs.Telling.{stores_told}
use Rattle.keeper_c.proofs.keeper_plain_change.Goals as goal

pub returns-then-detail-lt-DETAIL : goal.returns-then-detail-lt-DETAIL
unfolding stores_call is_short
returns-then-detail-lt-DETAIL c =
    rw (lt-ltb _ _ c.if-detail-lt-DETAIL.true, c.number.ensures)

pub returns : goal.returns
unfolding is_short
returns c =
    stores_told _ c.answer_in.ensures (le-ltb _ _ c.if-detail-lt-DETAIL.false) _ _ c.plain_change.ensures
