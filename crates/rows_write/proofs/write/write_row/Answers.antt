use mathlib.Core.List.{List}
use mathlib.Core.Path.{refl, sym, ap, ◌∙◌}
use Prim.Native.Nat.{ℕ, ◌+◌}
use native.Mathlib.Nat.{add-zero}
use native.Mathlib.Omega.{arith}
use lib.ListN.{get_or, length, drop}
use Rattle.prelude.specs.SpliceLaws.{splice_none, write_turn}
use Rattle.prelude.specs.Part.{splice}
use Rattle.rows_format.specs.Formats.{no_column}
use Rattle.rows_format.proofs.FormatsLaws.{zero_column, fits_item}
use Rattle.rows_format.specs.Columns.{field_of, write_by}
use Rattle.rows_write.specs.WritingLaws.{write_next, length_next, write_done}
use Rattle.rows_write.proofs.Writing.{formed_item}
use Rattle.rows_write.proofs.write.write_row.Goals as goal

pub write_field-next-requires : goal.write_field-next-requires
write_field-next-requires c =
    let format = c.args.format in
    let items = c.columns-column-items.result.now in
    let row = c.args.row.now in
    let l = c.loop-column-test.true in let k = fits_item format items c.loop-column.column-index zero_column c.columns-column-items.ensures l c.requires.0 in let f = formed_item format items c.loop-column.column-index zero_column row c.columns-column-items.ensures l c.requires.1 in let e = length_next items zero_column c.loop-column.column-index row l refl in
    (k, f, omega (arith, e, c.loop-column.invariant.place, c.loop-column.invariant.fits, c.loop-column.invariant.long))

pub loop-column-preserved : goal.loop-column-preserved
loop-column-preserved c =
    let format = c.args.format in
    let items = c.columns-column-items.result.now in
    let row = c.args.row.now in
    let l = c.loop-column-test.true in let k = fits_item format items c.loop-column.column-index zero_column c.columns-column-items.ensures l c.requires.0 in let f = formed_item format items c.loop-column.column-index zero_column row c.columns-column-items.ensures l c.requires.1 in let e = length_next items zero_column c.loop-column.column-index row l refl in
    record {
      long = c.write_field-next.auto.out ∙ c.loop-column.invariant.long;
      place = omega
          (arith, e, c.loop-column.invariant.place, c.write_field-next.ensures.0);
      fits = c.loop-column.invariant.fits;
      same = write_turn c.loop-column.next _
          (field_of (get_or items c.loop-column.column-index zero_column) row) (write_by (drop (c.loop-column.column-index + 1) items) row) c.loop-column.out _
          (omega (arith, e, c.loop-column.invariant.place, c.loop-column.invariant.fits, c.loop-column.invariant.long)) c.write_field-next.ensures.0 c.write_field-next.ensures.1 ∙
          ap (λ (v : List ℕ). splice c.loop-column.next v c.loop-column.out)
          (sym (write_next items zero_column c.loop-column.column-index row l refl)) ∙ c.loop-column.invariant.same;
    }

pub returns : goal.returns
returns c =
    let d =
    (write_done c.columns-column-items.result.now no_column c.loop-column.column-index c.args.row.now
    c.loop-column-test.false)
    in (
      sym (add-zero c.loop-column.next) ∙ sym (ap (λ (v : List ℕ). c.loop-column.next + length v) d) ∙ c.loop-column.invariant.place,
      sym
          (ap (λ (v : List ℕ). splice c.loop-column.next v c.loop-column.out) d ∙ splice_none c.loop-column.next c.loop-column.out) ∙ c.loop-column.invariant.same,
    )
