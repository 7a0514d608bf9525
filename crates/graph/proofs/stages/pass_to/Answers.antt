use Rattle.std.proofs.Common.{ap, sym, refl, ◌∙◌}
use mathlib.Core.Bool.{Bool, cond}
use Rattle.sets.specs.Sets.{union}
use Rattle.graph.proofs.Rows.{passed_test}
use Rattle.graph.specs.Stages.{passed_row}
use Rattle.graph.proofs.stages.pass_to.Goals as goal

pub returns-then-has : goal.returns-then-has
unfolding passed_row
returns-then-has c =
    let row = c.args.row.now in
    c.join.ensures ∙ ap (λ (q : Bool). cond q (union row c.args.own.now) row)
    (sym (passed_test row row c.args.k.0 _ _ refl c.part_of.ensures c.has.ensures ∙ c.if-has.true))

pub returns-else-has : goal.returns-else-has
unfolding passed_row
returns-else-has c =
    let row = c.args.row.now in
    ap (λ (q : Bool). cond q (union row c.args.own.now) row)
    (sym (passed_test row row c.args.k.0 _ _ refl c.part_of.ensures c.has.ensures ∙ c.if-has.false))
