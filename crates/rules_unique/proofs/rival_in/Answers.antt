use Rattle.std.proofs.Common.{rules, sym, ap, ◌∙◌}
use Rattle.prelude.specs.Below.{any_below}
use Rattle.prelude.proofs.Ranges.{any_in_range}
use Rattle.rules_unique.specs.Unique.{rival_in}
use Rattle.rules_unique.proofs.Rivals.{rival_at}
use Rattle.rules_unique.proofs.rival_in.Goals as goal

pub returns-then-has_key : goal.returns-then-has_key
unfolding rival_in
returns-then-has_key c =
    let rivals = rival_at c.args.key c.args.table c.args.store.now c.args.id c.args.own.now in
    rw
    (sym c.has_key.ensures ∙ c.if-has_key.true)
    (any_in_range c.row_count.result rivals _ _ _ c.any.ensures.ran (λ k b q h. search rules) ∙ ap (λ n. any_below n rivals) c.row_count.ensures)

pub returns-else-has_key : goal.returns-else-has_key
unfolding rival_in
returns-else-has_key c =
    rw (← c.has_key.ensures, c.if-has_key.false)
