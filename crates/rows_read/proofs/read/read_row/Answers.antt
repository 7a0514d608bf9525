use Rattle.std.specs.Prelude.{Err}
use mathlib.Core.Path.{ap, ◌∙◌}
use Rattle.std.proofs.lemmas.Result.{err_from_is_err_and}
use Rattle.rows_read.specs.ObjectClassLaws.{finish_bad, finish_read}
use Rattle.rows_read.proofs.read.read_row.Goals as goal

pub returns-in_err-read_fields : goal.returns-in_err-read_fields
returns-in_err-read_fields c =
    let p = err_from_is_err_and c.from_residual.result c.from_residual.ensures.1 in
    let w = finish_bad c.args.format c.args.s.now c.args.start c.args.end c.args.row.now
    c.read_fields.ensures c.in_err-read_fields.was in
    (p.1 ∙ ap Err p.2 ∙ w.0, w.1)

pub returns : goal.returns
returns c =
    finish_read c.args.format c.args.s.now c.args.start c.args.end c.args.row.now c.read_fields.ensures
    c.in_ok-read_fields.was c.finish.ensures
