use mathlib.Core.Path.{sym, ◌∙◌}
use Rattle.schema.specs.Store.{stores}
use Rattle.schema.specs.StoreLaws.{long_enough}
use Rattle.keeper.specs.InShapeLaws.{short_stores, formed_stores, broken_stores}
use Rattle.keeper.proofs.check.check_shape.Goals as goal

pub returns-then-any_short : goal.returns-then-any_short
returns-then-any_short c =
    short_stores
    (stores c.args.attributes.now c.args.classes.now c.args.closure.now) (sym c.any_short.ensures ∙ c.if-any_short.true)

pub stores_formed-requires : goal.stores_formed-requires
stores_formed-requires c =
    let l = long_enough
    (stores c.args.attributes.now c.args.classes.now c.args.closure.now) (sym c.any_short.ensures ∙ c.if-any_short.false) in
    (l.attributes, l.classes)

pub returns-then-stores_formed : goal.returns-then-stores_formed
returns-then-stores_formed c =
    formed_stores (stores c.args.attributes.now c.args.classes.now c.args.closure.now)
    (sym c.any_short.ensures ∙ c.if-any_short.false) (sym c.stores_formed.ensures ∙ c.if-stores_formed.true)

pub returns-else-stores_formed : goal.returns-else-stores_formed
returns-else-stores_formed c =
    broken_stores (stores c.args.attributes.now c.args.classes.now c.args.closure.now)
    (sym c.any_short.ensures ∙ c.if-any_short.false) (sym c.stores_formed.ensures ∙ c.if-stores_formed.false)
