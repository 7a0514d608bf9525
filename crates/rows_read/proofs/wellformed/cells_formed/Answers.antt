use mathlib.Core.Path.{refl, sym, ◌∙◌}
use Rattle.rows_format.specs.Formats.{no_column}
use Rattle.rows_format.proofs.FormatsLaws.{fits_item}
use Rattle.rows_read.proofs.Checking.{formed_next, formed_not, formed_done}
use Rattle.rows_read.proofs.wellformed.cells_formed.Goals as goal

pub cell_formed-requires : goal.cell_formed-requires
cell_formed-requires c =
    fits_item c.args.format _ _ _ c.columns-column-items.ensures c.loop-column-test.true c.requires

pub loop-column-preserved : goal.loop-column-preserved
loop-column-preserved c =
    sym
    (formed_next c.columns-column-items.result.now _ c.loop-column.column-index c.args.row.now c.loop-column-test.true refl
    (sym c.cell_formed.ensures ∙ c.if-not-cell_formed.false))
    ∙ c.loop-column.invariant

pub returns-then-not-cell_formed : goal.returns-then-not-cell_formed
returns-then-not-cell_formed c =
    sym
    (formed_not c.columns-column-items.result.now _ c.loop-column.column-index c.args.row.now c.loop-column-test.true refl
    (sym c.cell_formed.ensures ∙ c.if-not-cell_formed.true))
    ∙ c.loop-column.invariant

pub returns : goal.returns
returns c =
    sym (formed_done c.columns-column-items.result.now no_column c.loop-column.column-index c.args.row.now c.loop-column-test.false)
    ∙ c.loop-column.invariant
