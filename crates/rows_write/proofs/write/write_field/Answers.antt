use mathlib.Core.List.{List}
use mathlib.Core.Path.{sym, ap, ◌∙◌}
use Prim.Native.Nat.{ℕ, ◌+◌}
use native.Mathlib.Nat.{add-zero}
use native.Mathlib.Omega.{arith}
use lib.ListN.{length}
use Rattle.prelude.specs.SpliceLaws.{splice_none}
use Rattle.prelude.specs.Part.{splice}
use Rattle.rows_write.proofs.Writing.{cell_of_lem, mark_within, field_has, field_hasnt}
use Rattle.rows_write.proofs.write.write_field.Goals as goal

pub slice_bounds-put_field-count : goal.slice_bounds-put_field-count
slice_bounds-put_field-count c =
    let column = c.args.column in
    let row = c.args.row.now in
    let k = cell_of_lem column row c.cell-cell.result.now c.cell-cell.ensures c.requires.0 c.requires.1 in
    mark_within column row c.cell-cell.result.now k c.mark.ensures

pub slice_bounds-put_field-start : goal.slice_bounds-put_field-start
slice_bounds-put_field-start c =
    let column = c.args.column in
    let row = c.args.row.now in
    let k = cell_of_lem column row c.cell-cell.result.now c.cell-cell.ensures c.requires.0 c.requires.1 in
    mark_within column row c.cell-cell.result.now k c.mark.ensures

pub put_field-requires : goal.put_field-requires
put_field-requires c =
    let column = c.args.column in
    let row = c.args.row.now in
    let k = cell_of_lem column row c.cell-cell.result.now c.cell-cell.ensures c.requires.0 c.requires.1 in let h
    = field_has column row c.cell-cell.result.now c.requires.0.sound k c.has_value.ensures c.if-not-has_value.false c.mark.ensures in
    (h.0.0, h.0.1, h.0.2, omega (arith, ap length h.1, c.requires.2))

pub returns : goal.returns
returns c =
    let column = c.args.column in
    let row = c.args.row.now in
    let k = cell_of_lem column row c.cell-cell.result.now c.cell-cell.ensures c.requires.0 c.requires.1 in let h
    = field_has column row c.cell-cell.result.now c.requires.0.sound k c.has_value.ensures c.if-not-has_value.false c.mark.ensures in (
      c.put_field.ensures.0 ∙ ap (λ (v : List ℕ). c.args.at + length v) (sym h.1),
      c.put_field.ensures.1 ∙ ap
          (λ (v : List ℕ). splice c.args.at v c.args.out.now) (sym h.1),
    )

pub returns-then-not-has_value : goal.returns-then-not-has_value
returns-then-not-has_value c =
    let column = c.args.column in
    let row = c.args.row.now in
    let at = c.args.at in
    let out = c.args.out.now in
    let k = cell_of_lem column row c.cell-cell.result.now c.cell-cell.ensures c.requires.0 c.requires.1 in let e
    = field_hasnt column row c.cell-cell.result.now k c.has_value.ensures c.if-not-has_value.true in
    (sym (ap (λ (v : List ℕ). c.args.at + length v) e ∙ add-zero at), sym (ap (λ (v : List ℕ). splice at v out) e ∙ splice_none at out))
