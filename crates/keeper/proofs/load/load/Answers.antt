use mathlib.Core.Path.{sym, ◌∙◌}
use Rattle.schema.specs.Store.{stores}
use Rattle.keeper.proofs.Loading.{stores_lent, short_ends}
use Rattle.keeper.proofs.load.load.Goals as goal

pub returns-then-any_short : goal.returns-then-any_short
returns-then-any_short c =
    short_ends
    c.args.sheet.now (stores c.args.attributes.now c.args.classes.now c.args.closure.now) (rw c.number.ensures at c.refused.ensures)
    (sym c.any_short.ensures ∙ c.if-any_short.true)

pub read_and_judge-requires : goal.read_and_judge-requires
read_and_judge-requires c =
    stores_lent
    (stores c.args.attributes.now c.args.classes.now c.args.closure.now) (sym c.any_short.ensures ∙ c.if-any_short.false)
