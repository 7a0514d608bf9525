use mathlib.Core.Path.{◌≡◌, sym, ap, ◌∙◌}
use Prim.Native.Nat.{ℕ, ◌+◌}
use native.Mathlib.Omega.{arith}
use lib.ListN.{length}
use Rattle.wire.specs.WireLaws.{field_length}
use Rattle.rows_format.specs.Columns.{field_of}
use Rattle.rows_write.proofs.Writing.{cell_of_lem, mark_within, field_has, field_hasnt, field_short}
use Rattle.rows_write.proofs.write.field_length.Goals as goal

pub slice_bounds-value_length-count : goal.slice_bounds-value_length-count
slice_bounds-value_length-count c =
    let column = c.args.column in
    let row = c.args.row.now in
    let k = cell_of_lem column row c.cell-cell.result.now c.cell-cell.ensures c.requires.0 c.requires.1 in
    mark_within column row c.cell-cell.result.now k c.mark.ensures

pub slice_bounds-value_length-start : goal.slice_bounds-value_length-start
slice_bounds-value_length-start c =
    let column = c.args.column in
    let row = c.args.row.now in
    let k = cell_of_lem column row c.cell-cell.result.now c.cell-cell.ensures c.requires.0 c.requires.1 in
    mark_within column row c.cell-cell.result.now k c.mark.ensures

pub value_length-requires : goal.value_length-requires
value_length-requires c =
    let column = c.args.column in
    let row = c.args.row.now in
    let k = cell_of_lem column row c.cell-cell.result.now c.cell-cell.ensures c.requires.0 c.requires.1 in let h
    = field_has column row c.cell-cell.result.now c.requires.0.sound k c.has_value.ensures c.if-not-has_value.false c.mark.ensures in
    h.0

pub overflow_add-result : goal.overflow_add-result
overflow_add-result c =
    let column = c.args.column in
    let row = c.args.row.now in
    let k = cell_of_lem column row c.cell-cell.result.now c.cell-cell.ensures c.requires.0 c.requires.1 in let h
    = field_has column row c.cell-cell.result.now c.requires.0.sound k c.has_value.ensures c.if-not-has_value.false c.mark.ensures in let
    f = field_short column row c.requires.0 in let t : 3 + c.value_length.result ≡ length (field_of column row) = ap (λ (n : ℕ). 3 + n)
    c.value_length.ensures ∙ sym (ap length h.1 ∙ field_length c.args.column.tag _) in omega arith

pub returns : goal.returns
returns c =
    let column = c.args.column in
    let row = c.args.row.now in
    let k = cell_of_lem column row c.cell-cell.result.now c.cell-cell.ensures c.requires.0 c.requires.1 in let h
    = field_has column row c.cell-cell.result.now c.requires.0.sound k c.has_value.ensures c.if-not-has_value.false c.mark.ensures in ap
    (λ (n : ℕ). 3 + n) c.value_length.ensures ∙ sym (ap length h.1 ∙ field_length c.args.column.tag _)

pub returns-then-not-has_value : goal.returns-then-not-has_value
returns-then-not-has_value c =
    let column = c.args.column in
    let row = c.args.row.now in
    let k = cell_of_lem column row c.cell-cell.result.now c.cell-cell.ensures c.requires.0 c.requires.1 in sym
    (ap length (field_hasnt column row c.cell-cell.result.now k c.has_value.ensures c.if-not-has_value.true))
