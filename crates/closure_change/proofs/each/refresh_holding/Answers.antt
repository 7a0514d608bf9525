use Rattle.std.proofs.Common.{◌≡◌, ◌∙◌, arith, rules}
use Rattle.schema.specs.Store.{closure_at, table_in}
use Rattle.schema.specs.declared.number.TableId.TheVariants.{Classes}
use Rattle.graph.specs.Graph.{closure_row}
use Rattle.graph.proofs.FreshLaws.{closure_row_length}
use Rattle.closure_change.specs.Kept.{refreshed_at}
use Rattle.closure_change.proofs.Holding.{fresh_row}
use Rattle.closure_change.proofs.each.refresh_holding.Goals as goal

pub returns : goal.returns
unfolding refreshed_at
returns c =
    let t = table_in Classes c.args.classes.now in
    c.rewrite_holding.ensures (λ i row. closure_row t i) (λ i l. closure_row_length t i) (λ i row left l e p.
    let taken : left.now ≡ closure_at c.refresh_all.new.closure i.0 = search rules in
    taken ∙ fresh_row t _ _ (omega arith) c.refresh_all.ensures i.0 l)
