use mathlib.Core.Path.{◌∙◌, ◌≡◌, ap, sym, subst}
use Rattle.change_rows.specs.Stores.{Applicable, row_changed}
use Rattle.schema.specs.declared.number.TableId.TheVariants.{Attributes, Classes}
use Rattle.schema.specs.Store.{store_of, stores}
use Rattle.keeper_change.specs.MadeLaws.{made_in}
use Rattle.keeper_change.proofs.rows.make.Goals as goal

pub apply-requires : goal.apply-requires
apply-requires c =
    let change = c.args.change in
    let r = c.args.scratch.now in
    let a = c.args.attributes.now in
    let k = c.args.classes.now in
    subst (λ t. Applicable change r (store_of t a k) × (c.args.id ≡ row_changed change r (store_of t a k)))
    (sym c.table_for.ensures ∙ c.in-Attributes.is) c.requires

pub apply-requires-in-Classes : goal.apply-requires-in-Classes
apply-requires-in-Classes c =
    let change = c.args.change in
    let r = c.args.scratch.now in
    let a = c.args.attributes.now in
    let k = c.args.classes.now in
    subst (λ t. Applicable change r (store_of t a k) × (c.args.id ≡ row_changed change r (store_of t a k)))
    (sym c.table_for.ensures ∙ c.in-Classes.is) c.requires

pub returns-in-Attributes : goal.returns-in-Attributes
returns-in-Attributes c =
    λ k. ap (λ x. stores x c.args.classes.now k) c.apply.ensures ∙ made_in Attributes c.args.change
    c.args.scratch.now (stores c.args.attributes.now c.args.classes.now k) (sym c.table_for.ensures
    ∙ c.in-Attributes.is)

pub returns-in-Classes : goal.returns-in-Classes
returns-in-Classes c =
    λ k. ap (λ x. stores c.args.attributes.now x k) c.apply-in-Classes.ensures ∙ made_in Classes c.args.change
    c.args.scratch.now (stores c.args.attributes.now c.args.classes.now k) (sym c.table_for.ensures
    ∙ c.in-Classes.is)
