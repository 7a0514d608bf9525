use native.Mathlib.Omega.{arith}
use mathlib.Core.Path.{◌∙◌, ap, ap₂, refl, subst, sym, subst₂}
use Rattle.schema.specs.declared.number.TableId.TheVariants.{Classes}
use Rattle.keeper_change.proofs.Making.{addable, applicable, back, closure_long_lem, few_rows, made_readable, made_shaped, restorable, store_bytes}
use Rattle.keeper_change.proofs.Whole.{judged_at, judged_done, judged_refused, number_found, refreshed_made}
use Rattle.graph.specs.Graph.{Readable}
use Rattle.keeper_change.specs.Made.{Restorable, rows_back}
use Rattle.tables.specs.Shaped.{Shaped}
use Rattle.schema.specs.Numbers.{number_of, table_of}
use Rattle.schema.specs.RefusedLaws.{number_some}
use Rattle.schema.specs.Store.{stores}
use Rattle.schema.specs.Answers.{changed}
use Rattle.change_rows.specs.Rows.{table_for}
use Rattle.keeper_change.proofs.plain.plain_judged.Goals as goal

pub save-before-requires : goal.save-before-requires
save-before-requires c =
    let s = stores c.args.attributes.now c.args.classes.now c.args.closure.now in
    let change = c.args.change in
    let r = c.args.scratch.now in
    applicable change r s c.requires.allowed

pub row_count-present-requires : goal.row_count-present-requires
row_count-present-requires c =
    let s = stores c.args.attributes.now c.args.classes.now c.args.closure.now in
    let change = c.args.change in
    let r = c.args.scratch.now in
    c.requires.allowed.shape.long.classes

pub make-requires : goal.make-requires
make-requires c =
    let s = stores c.args.attributes.now c.args.classes.now c.args.closure.now in
    let change = c.args.change in
    let r = c.args.scratch.now in
    (applicable change r s c.requires.allowed, ap (λ b. b.id) c.save-before.ensures)

pub added_by-added-requires : goal.added_by-added-requires
added_by-added-requires c =
    let s = stores c.args.attributes.now c.args.classes.now c.args.closure.now in
    let change = c.args.change in
    let r = c.args.scratch.now in
    addable change r s c.requires.allowed _ c.row_count-present.ensures

pub judged_whole-judged-requires : goal.judged_whole-judged-requires
judged_whole-judged-requires c =
    let s = stores c.args.attributes.now c.args.classes.now c.args.closure.now in
    let change = c.args.change in
    let r = c.args.scratch.now in (
      subst (λ x. Shaped x.attributes x.classes) (sym (c.make.ensures s.closure)) (made_shaped change r s c.requires.allowed),
      closure_long_lem change r s c.requires.allowed,
      omega (arith, c.row_count-present.ensures, few_rows change r s c.requires.allowed Classes),
    )

pub undo-requires : goal.undo-requires
undo-requires c =
    let s = stores c.args.attributes.now c.args.classes.now c.args.closure.now in
    let change = c.args.change in
    let r = c.args.scratch.now in
    subst₂ (λ b x. Restorable b x.attributes x.classes) (sym c.save-before.ensures) (sym (c.make.ensures s.closure))
    (restorable change r s c.requires.allowed)

pub returns-in-Err : goal.returns-in-Err
returns-in-Err c =
    let s = stores c.args.attributes.now c.args.classes.now c.args.closure.now in
    let change = c.args.change in
    let r = c.args.scratch.now in
    judged_refused change r s c.requires _ _ _ (number_found change r s c.requires _ (c.in-Err.ensures ∙ judged_at change r s
    c.requires (c.make.ensures s.closure) c.row_count-present.ensures c.added_by-added.ensures)) (number_some c.in-Err.refusal) refl
    (c.undo.ensures s.closure ∙ ap₂ rows_back c.save-before.ensures (c.make.ensures s.closure) ∙ back change r s c.requires.allowed
    (store_bytes (table_for change) s.attributes s.classes (λ i. (c.slice_known-1.given i).fits) (λ i. (c.slice_known-2-1.given i).fits)))

pub refresh_all-requires : goal.refresh_all-requires
refresh_all-requires c =
    let s = stores c.args.attributes.now c.args.classes.now c.args.closure.now in
    let change = c.args.change in
    let r = c.args.scratch.now in record {
      readable = subst (λ x. Readable x.classes) (sym (c.make.ensures s.closure)) (made_readable change r s
          c.requires.allowed);
      closure_length_in_bounds = closure_long_lem change r s c.requires.allowed;
    }

pub returns : goal.returns
returns c =
    let s = stores c.args.attributes.now c.args.classes.now c.args.closure.now in
    let change = c.args.change in
    let r = c.args.scratch.now in
    judged_done change r s c.requires _ _ _ (number_found change r s c.requires _ (c.in_default.ensures ∙ judged_at change r s c.requires
    (c.make.ensures s.closure) c.row_count-present.ensures c.added_by-added.ensures)) refl (ap (λ b. changed
    (table_of b.id) (number_of b.id)) c.save-before.ensures) (refreshed_made s (c.make.ensures s.closure) c.refresh_all.ensures)
