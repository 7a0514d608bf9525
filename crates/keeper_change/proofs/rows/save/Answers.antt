use mathlib.Core.Path.{◌∙◌, ap, ap₂, refl}
use Rattle.keeper_change.proofs.Saving.{save_asked, saved_is}
use Rattle.schema.specs.Layout.{class_width}
use Rattle.schema.specs.Numbers.{number_of, table_of}
use Rattle.schema.specs.Store.{store_of, table_in}
use Rattle.change_rows.specs.Stores.{row_changed}
use Rattle.change_rows.specs.Rows.{table_for}
use Rattle.prelude.specs.Part.{padded}
use Rattle.keeper_change.proofs.rows.save.Goals as goal

pub row_changed-id-requires : goal.row_changed-id-requires
row_changed-id-requires c =
    rw (c.store_of-store.ensures, c.table_for-table.ensures) c.requires

pub save_row-requires : goal.save_row-requires
save_row-requires c =
    let ok = save_asked c.args.change c.args.scratch.now _ c.requires (c.row_changed-id.ensures ∙ ap (row_changed
    c.args.change c.args.scratch.now) (c.store_of-store.ensures ∙ ap (λ t. store_of t c.args.attributes.now
    c.args.classes.now) c.table_for-table.ensures)) (c.store_of-store.ensures ∙ ap (λ t. store_of t c.args.attributes.now
    c.args.classes.now) c.table_for-table.ensures) in
    (ok.0, ok.1, refl)

pub row_count-requires : goal.row_count-requires
row_count-requires c =
    rw (c.store_of-store.ensures, c.table_for-table.ensures) c.requires.long

pub returns : goal.returns
returns c =
    saved_is c.args.change c.args.scratch.now (store_of (table_for c.args.change) c.args.attributes.now
    c.args.classes.now) c.requires (c.row_changed-id.ensures ∙ ap (row_changed c.args.change c.args.scratch.now)
    (c.store_of-store.ensures ∙ ap (λ t. store_of t c.args.attributes.now c.args.classes.now) c.table_for-table.ensures))
    (c.row_count.ensures ∙ ap₂ (λ t x. (table_in t x).count) c.table_for-table.ensures (c.store_of-store.ensures ∙ ap (λ t. store_of t
    c.args.attributes.now c.args.classes.now) c.table_for-table.ensures)) (c.save_row.ensures ∙ ap₂
    (λ i x. padded class_width ((table_in (table_of i) x).row (number_of i))) (c.row_changed-id.ensures ∙ ap (row_changed
    c.args.change c.args.scratch.now) (c.store_of-store.ensures ∙ ap (λ t. store_of t
    c.args.attributes.now c.args.classes.now) c.table_for-table.ensures)) (c.store_of-store.ensures ∙ ap
    (λ t. store_of t c.args.attributes.now c.args.classes.now) c.table_for-table.ensures))
