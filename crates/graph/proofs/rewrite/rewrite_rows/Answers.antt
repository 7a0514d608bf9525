use Rattle.std.proofs.Common.{ℕ, ◌≡◌, ◌∙◌, ◌<◌, ◌*◌, refl, sym, ap, arith}
use Rattle.schema.specs.Store.{closure_at}
use Rattle.schema.specs.StoreLaws.{closure_lent, closure_lent_back}
use Rattle.schema.specs.Layout.{closure_width}
use Rattle.schema.specs.Numbers.{class_limit}
use Rattle.graph.proofs.Rows.{rowed_none, rowed_more, rowed_kept}
use Rattle.graph.proofs.rewrite.rewrite_rows.Goals as goal

pub loop-c-init : goal.loop-c-init
loop-c-init g c =
    λ f wide says. rowed_none f c.args.closure.now c.requires.long.0 wide

pub loop-c-preserved : goal.loop-c-preserved
loop-c-preserved g c = λ f wide says.
    let k = c.loop-c.c in
    let o = c.args.closure.now in
    let now = c.loop-c.closure in
    let class = c.class_at-class.result in
    let is : class.0 ≡ k = c.class_at-class.ensures in
    let within : k < class_limit = omega (arith, c.requires.long.1) in
    let done = c.loop-c.invariant f wide says in
    let lent = closure_lent class.0 _ _ now c.closure_start-at.ensures refl in
    let kept = ap (closure_at now) is ∙ rowed_kept f o c.requires.long.0 wide k now within done ∙ ap (closure_at o) (sym is) in
    let left = says class _ _ (omega arith) (lent ∙ kept) c.rewrite.ensures in
    rowed_more f o c.requires.long.0 wide k now _ within done
    (closure_lent_back k _ _ now _ (f k) (c.closure_start-at.ensures ∙ ap (λ (j : ℕ). closure_width * j) is) refl (wide k within) (left ∙ ap f is))
