use Rattle.std.proofs.Common.{List, ℕ, ◌≡◌, ◌∙◌, ap, cond, rules, MutBor}
use Rattle.schema.specs.Store.{closure_at}
use Rattle.closure_change.specs.Kept.{each_holding, holds, row_where}
use Rattle.closure_change.proofs.KeptLaws.{where_length}
use Rattle.closure_change.proofs.each.rewrite_holding.Goals as goal

pub returns : goal.returns
unfolding each_holding row_where
returns g c = λ f wide says.
    let closure = c.args.closure.now in
    let k = c.args.k.0 in
    c.rewrite_rows.ensures (row_where c.args.n k f closure) (where_length closure c.requires.long c.args.n k f wide) (λ i row left l e p.
    let new = f i.0 (closure_at closure i.0) in
    let given : ((r s : MutBor (List ℕ)) → r.now ≡ row.now → goal.F-post g c.args.rewrite i r tt s → s.now ≡ new)
    → left.now ≡ cond (holds c.args.n k i.0 row.now) new row.now = search rules in
    given (λ r s d q. says i r s l (d ∙ e) q) ∙ ap (λ (x : List ℕ). cond (holds c.args.n k i.0 x) new x) e)
