use Rattle.std.specs.Prelude.{Err}
use mathlib.Core.Path.{sym, ap, ◌∙◌}
use lib.ListN.{length}
use Rattle.std.proofs.lemmas.Result.{err_from_is_err_and}
use Rattle.rows_format.specs.Formats.{format_width}
use Rattle.change_read.specs.ChangeLaws.{format_fits_row, scratch_length}
use Rattle.change_read.proofs.Cases.{value_bad, value_read_lem, value_followed}
use native.Mathlib.Omega.{arith}
use Rattle.change_read.proofs.read.read_value.Goals as goal

pub read_row-requires : goal.read_row-requires
read_row-requires c = (
  c.requires.0,
  c.requires.1,
  omega (
    arith,
    format_fits_row c.args.change,
    ap format_width c.format_of.ensures,
    ap length
        c.requires.2,
    scratch_length,
  ),
)

pub returns-in_err-read_row : goal.returns-in_err-read_row
returns-in_err-read_row c =
    let p = err_from_is_err_and c.from_residual.result c.from_residual.ensures.1 in
    value_bad c.args.change c.args.s.now c.args.start c.args.stop c.args.row.now c.requires.2 _
    c.format_of.ensures _ _ c.read_row.ensures _ _ c.in_err-read_row.was (p.1 ∙ ap Err p.2)

pub returns-then-last : goal.returns-then-last
returns-then-last c =
    value_read_lem c.args.change c.args.s.now c.args.start c.args.stop c.args.row.now c.requires.2 _
    c.format_of.ensures _ _ c.read_row.ensures c.in_ok-read_row.was (sym c.requires.3 ∙ c.if-last.true)

pub returns : goal.returns
returns c =
    value_followed c.args.change c.args.s.now c.args.start c.args.stop c.args.row.now c.requires.2 _
    c.format_of.ensures _ _ c.read_row.ensures c.in_ok-read_row.was (sym c.requires.3 ∙ c.if-last.false)
