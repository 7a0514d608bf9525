use Rattle.keeper_change.proofs.Making.{addable, applicable, back, restorable, store_bytes, target_within}
use Rattle.keeper_change.proofs.Alone.{judged_there, judged_refused, judged_done, to_update}
use mathlib.Core.Path.{◌∙◌, ap, ap₂, refl, subst₂, sym}
use Rattle.keeper_change.specs.Made.{Restorable, rows_back}
use Rattle.schema.specs.RefusedLaws.{number_some}
use Rattle.schema.specs.Store.{stores}
use Rattle.schema.specs.Layout.{attribute_set}
use Rattle.prelude.specs.Part.{zeros}
use Rattle.change_rows.specs.Rows.{table_for}
use Rattle.change_read.specs.declared.read.Change.TheVariants.{RemoveEntry}
use Rattle.tables_shape.proofs.ShapeLaws.{formed_readable}
use Rattle.keeper_change.proofs.quick.quick_judged.Goals as goal

pub save-before-requires : goal.save-before-requires
save-before-requires c =
    let s = stores c.args.attributes.now c.args.classes.now c.args.closure.now in
    let change = c.args.change in
    let r = c.args.scratch.now in
    applicable change r s c.requires

pub demand_before-requires : goal.demand_before-requires
demand_before-requires c =
    let s = stores c.args.attributes.now c.args.classes.now c.args.closure.now in
    let change = c.args.change in
    let r = c.args.scratch.now in (
      (applicable change r s c.requires).carried,
      formed_readable s.attributes s.classes c.requires.shape.long.attributes
          c.requires.shape.long.classes c.requires.shape.formed,
      refl,
      (λ e. target_within change r s c.requires RemoveEntry e refl),
    )

pub make-requires : goal.make-requires
make-requires c =
    let s = stores c.args.attributes.now c.args.classes.now c.args.closure.now in
    let change = c.args.change in
    let r = c.args.scratch.now in
    (applicable change r s c.requires, ap (λ b. b.id) c.save-before.ensures)

pub added_by-added-requires : goal.added_by-added-requires
added_by-added-requires c =
    let s = stores c.args.attributes.now c.args.classes.now c.args.closure.now in
    let change = c.args.change in
    let r = c.args.scratch.now in
    addable change r s c.requires _ c.row_count-present.ensures

pub judged_row-judged-requires : goal.judged_row-judged-requires
judged_row-judged-requires c =
    let s = stores c.args.attributes.now c.args.classes.now c.args.closure.now in
    let change = c.args.change in
    let r = c.args.scratch.now in
    judged_there change r s c.requires c.added_by-added.ensures c.row_count-present.ensures (c.make.ensures s.closure) c.save-before.ensures

pub undo-requires : goal.undo-requires
undo-requires c =
    let s = stores c.args.attributes.now c.args.classes.now c.args.closure.now in
    let change = c.args.change in
    let r = c.args.scratch.now in
    subst₂ (λ b x. Restorable b x.attributes x.classes) (sym c.save-before.ensures) (sym (c.make.ensures s.closure)) (restorable change r s
    c.requires)

pub returns-in-Err : goal.returns-in-Err
unfolding zeros
returns-in-Err c =
    let s = stores c.args.attributes.now c.args.classes.now c.args.closure.now in
    let change = c.args.change in
    let r = c.args.scratch.now in
    judged_refused change r s c.requires c.added_by-added.ensures c.row_count-present.ensures (c.make.ensures s.closure) c.save-before.ensures
    (zeros attribute_set) c.demand_before.ensures _ c.in-Err.ensures _ _ (number_some c.in-Err.refusal) refl (c.undo.ensures
    s.closure ∙ ap₂ rows_back c.save-before.ensures (c.make.ensures s.closure) ∙ back change r s c.requires (store_bytes (table_for change)
    s.attributes s.classes (λ i. (c.slice_known-1.given i).fits) (λ i. (c.slice_known-2-1.given i).fits)))

pub update-requires : goal.update-requires
unfolding zeros
update-requires c =
    let s = stores c.args.attributes.now c.args.classes.now c.args.closure.now in
    let change = c.args.change in
    let r = c.args.scratch.now in
    to_update change r s c.requires c.added_by-added.ensures c.row_count-present.ensures (c.make.ensures s.closure) c.save-before.ensures
    (zeros attribute_set) c.demand_before.ensures _ c.in_default.ensures refl

pub returns : goal.returns
unfolding zeros
returns c =
    let s = stores c.args.attributes.now c.args.classes.now c.args.closure.now in
    let change = c.args.change in
    let r = c.args.scratch.now in
    judged_done change r s c.requires c.added_by-added.ensures c.row_count-present.ensures (c.make.ensures s.closure) c.save-before.ensures
    (zeros attribute_set) c.demand_before.ensures _ c.in_default.ensures refl _ refl c.update.ensures
