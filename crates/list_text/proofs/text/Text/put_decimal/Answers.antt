use Rattle.std.proofs.Common.{◌≡◌, ◌∙◌, ◌++◌, List, ℕ, ap, length, arith}
use Rattle.list_text.specs.Text.{decimal}
use Rattle.list_text.proofs.Decimal.{decimal_same}
use Rattle.list_text.proofs.text.Text.put_decimal.Goals as goal

pub put-requires : goal.put-requires
put-requires c =
    let e : c.as_bytes.result.now ≡ decimal c.args.n = c.as_bytes.ensures.value ∙ c.format.ensures.text ∙ decimal_same c.args.n (omega arith) in
    omega (arith, c.requires, ap length e)

pub returns : goal.returns
returns c =
    let e : c.as_bytes.result.now ≡ decimal c.args.n = c.as_bytes.ensures.value ∙ c.format.ensures.text ∙ decimal_same c.args.n (omega arith) in
    c.put.ensures ∙ ap (λ (x : List ℕ). c.args.self.now ++ x) e
