use Rattle.std.proofs.Common.{◌∙◌, refl, sym}
use Rattle.closure_change.proofs.each.fn.rewrite_holding.rewrite_rows.Goals as goal

pub returns-then-holds : goal.returns-then-holds
returns-then-holds g c =
    λ new says. rw (sym c.holds.ensures ∙ c.if-holds.true) (says _ _ refl c.rewrite.ensures)

pub returns-else-holds : goal.returns-else-holds
returns-else-holds g c =
    λ new says. rw (sym c.holds.ensures ∙ c.if-holds.false) refl
