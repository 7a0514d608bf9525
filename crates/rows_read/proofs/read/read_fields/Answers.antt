use Rattle.std.specs.Prelude.{Err}
use mathlib.Core.Path.{refl, sym, ap, ◌∙◌}
use native.Mathlib.Omega.{arith}
use Rattle.std.proofs.lemmas.Result.{err_from_is_err_and}
use Rattle.rows_format.specs.Formats.{no_column}
use Rattle.rows_format.proofs.FormatsLaws.{fits_item}
use Rattle.rows_read.specs.RowRead.{Bad}
use Rattle.rows_read.specs.Reading.{Out}
use Rattle.rows_read.specs.ReadingLaws.{took_within, took_here, read_next, read_stop, read_leftover, read_missing, read_whole}
use Rattle.rows_read.proofs.read.read_fields.Goals as goal

pub take_field-requires : goal.take_field-requires
take_field-requires c = (
  omega arith,
  omega arith,
  fits_item c.args.format _ _ _ c.columns-column-items.ensures c.loop-column-test.true
      (omega (arith, c.loop-column.invariant.long, c.requires.2)),
)

pub returns-in_err-progress : goal.returns-in_err-progress
returns-in_err-progress c =
    let p = err_from_is_err_and c.from_residual.result c.from_residual.ensures.1 in
    let e = sym c.loop-column.invariant.same ∙ read_stop c.columns-column-items.result.now _ c.args.s.now c.args.end c.loop-column.column-index
    c.loop-column.progress.at c.loop-column.progress.missing c.loop-column.row c.loop-column-test.true refl
    c.take_field.ensures c.in_err-progress.was in
    let here = took_here c.args.s.now _ c.loop-column.progress.at c.args.end c.loop-column.progress.missing c.take_field.ensures.0 c.in_err-progress.was in
    (p.1 ∙ ap Err p.2 ∙ ap Bad here ∙ sym (ap (λ (x : Out). x.answer) e), sym (ap (λ (x : Out). x.row) e))

pub loop-column-preserved : goal.loop-column-preserved
loop-column-preserved c =
    record {
      within = took_within _ _ _ _ _ c.take_field.ensures.0 c.in_ok-progress.was c.loop-column.invariant.within;
      long = c.take_field.auto.row ∙ c.loop-column.invariant.long;
      same = sym
          (read_next c.columns-column-items.result.now _ c.args.s.now c.args.end c.loop-column.column-index c.loop-column.progress.at
          c.loop-column.progress.missing c.loop-column.row c.loop-column-test.true refl c.take_field.ensures
          c.in_ok-progress.was)
          ∙ c.loop-column.invariant.same;
    }

pub returns-then-progress-end : goal.returns-then-progress-end
returns-then-progress-end c =
    let e = sym c.loop-column.invariant.same ∙ read_leftover c.columns-column-items.result.now no_column c.args.s.now c.args.end
    c.loop-column.column-index c.loop-column.progress.at c.loop-column.progress.missing c.loop-column.row c.loop-column-test.false
    c.if-progress-end.true
    in (sym (ap (λ (x : Out). x.answer) e), sym (ap (λ (x : Out). x.row) e))

pub returns-then-progress : goal.returns-then-progress
returns-then-progress c =
    let e = sym c.loop-column.invariant.same ∙ read_missing c.columns-column-items.result.now no_column c.args.s.now c.args.end c.loop-column.column-index
    c.loop-column.progress.at c.loop-column.progress.missing c.loop-column.row c.loop-column-test.false c.if-progress-end.false c.if-progress.true
    in (sym (ap (λ (x : Out). x.answer) e), sym (ap (λ (x : Out). x.row) e))

pub returns : goal.returns
returns c =
    let e = sym c.loop-column.invariant.same ∙ read_whole c.columns-column-items.result.now no_column c.args.s.now c.args.end c.loop-column.column-index
    c.loop-column.progress.at c.loop-column.progress.missing c.loop-column.row c.loop-column-test.false c.if-progress-end.false c.if-progress.false
    in (sym (ap (λ (x : Out). x.answer) e), sym (ap (λ (x : Out). x.row) e))
