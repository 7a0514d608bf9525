use Rattle.std.proofs.Common.{◌≡◌, ap, ◌∙◌, rules}
use Rattle.sets.specs.Sets.{union}
use Rattle.closure_change.specs.Kept.{joined_into}
use Rattle.closure_change.proofs.KeptLaws.{joined_wide}
use Rattle.closure_change.proofs.each.join_all.Goals as goal

pub returns : goal.returns
unfolding joined_into
returns c =
    let closure = c.args.closure.now in
    let more = c.args.more.now in
    c.rewrite_holding.ensures (λ i row. union row more) (joined_wide closure c.requires.0 more) (λ i row left l e p.
    let joined : left.now ≡ union row.now more = search rules in joined ∙ ap (λ r. union r more) e)
