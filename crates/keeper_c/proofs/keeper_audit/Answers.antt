use borrow.Author.Tests.{lt-ltb, le-ltb}
use Rattle.keeper_c.specs.Calls.{is_short, audit_call}
use Rattle.keeper_c.proofs.keeper_audit.Goals as goal

pub returns-then-detail-lt-DETAIL : goal.returns-then-detail-lt-DETAIL
unfolding audit_call is_short
returns-then-detail-lt-DETAIL c =
    rw (lt-ltb _ _ c.if-detail-lt-DETAIL.true, c.number.ensures)

pub returns : goal.returns
unfolding audit_call is_short
returns c =
    rw (le-ltb _ _ c.if-detail-lt-DETAIL.false, c.answer_in.ensures, c.audit.ensures)
