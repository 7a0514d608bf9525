use Rattle.std.specs.Prelude.{Err}
use mathlib.Core.Path.{refl, ap, ◌∙◌}
use Rattle.std.proofs.lemmas.Result.{err_from_is_err_and}
use Rattle.prelude.specs.Part.{zeros}
use Rattle.sheet_read.specs.Reading.{row_turn}
use Rattle.sheet_read.proofs.Steps.{row_on, row_stop}
use Rattle.sheet_read.proofs.read.take_row.Goals as goal

pub read_into-requires : goal.read_into-requires
unfolding zeros
read_into-requires c =
    record { start_le_stop = (c.requires.start_le_stop.0, c.requires.start_le_stop.1, refl); table_in_bounds = c.requires.table_in_bounds }

pub returns-in_err-read_into : goal.returns-in_err-read_into
returns-in_err-read_into c =
    let p = err_from_is_err_and c.from_residual.result c.from_residual.ensures.1 in (
      p.1 ∙ ap Err p.2 ∙ row_stop c.args.table c.args.stop c.args.missing _ _ c.in_err-read_into.was ∙
          ap (row_turn c.args.table c.args.stop c.args.missing) c.read_into.ensures.0,
      c.read_into.ensures.1,
    )

pub returns : goal.returns
returns c = (
  row_on c.args.table c.args.stop c.args.missing _ c.in_ok-read_into.was ∙
      ap (row_turn c.args.table c.args.stop c.args.missing) c.read_into.ensures.0,
  c.read_into.ensures.1,
)
