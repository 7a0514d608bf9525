use Rattle.std.specs.Prelude.{Ok, Err}
use mathlib.Core.Path.{sym, ap, ◌∙◌}
use native.Mathlib.Omega.{arith}
use Rattle.std.proofs.lemmas.Result.{err_from_is_err_and}
use Rattle.wire.specs.WireLaws.{field_is}
use Rattle.rows_format.specs.Columns.{takes}
use Rattle.rows_read.specs.ReadingLaws.{turn_end, turn_other, turn_taken, turn_refused}
use Rattle.rows_read.proofs.Turning.{turn_cut}
use Rattle.rows_read.proofs.field.turn_of.Goals as goal

pub returns-in_err-field : goal.returns-in_err-field
returns-in_err-field c =
    let p = err_from_is_err_and c.from_residual.result c.from_residual.ensures.1 in
    p.1 ∙ ap Err p.2 ∙ turn_cut c.args.s.now c.args.column c.args.at c.args.end _ _ c.field_within.ensures c.in_err-field.was

pub returns-in_default : goal.returns-in_default
returns-in_default c =
    turn_end c.args.s.now c.args.column c.args.at c.args.end c.field_within.ensures (c.in_ok-field.was ∙ ap Ok c.in_default.is)

pub returns-then-field-column : goal.returns-then-field-column
returns-then-field-column c =
    turn_other c.args.s.now c.args.column c.args.at c.args.end c.field_within.ensures (c.in_ok-field.was ∙ ap Ok c.in-Some.is) c.if-field-column.true

pub value_of-requires : goal.value_of-requires
value_of-requires c =
    let w = field_is _ _ _ _ _ _ (sym c.field_within.ensures ∙ c.in_ok-field.was ∙ ap Ok c.in-Some.is) in
    omega (arith, w)

pub returns-then-takes : goal.returns-then-takes
returns-then-takes c =
    turn_taken c.args.s.now c.args.column c.args.at c.args.end c.field_within.ensures (c.in_ok-field.was ∙ ap Ok c.in-Some.is) c.if-field-column.false
    (sym (c.takes.ensures ∙ ap (takes c.args.column) c.value_of.ensures) ∙ c.if-takes.true)

pub returns-else-takes : goal.returns-else-takes
returns-else-takes c =
    turn_refused c.args.s.now c.args.column c.args.at c.args.end c.field_within.ensures (c.in_ok-field.was ∙ ap Ok c.in-Some.is)
    c.if-field-column.false (sym (c.takes.ensures ∙ ap (takes c.args.column) c.value_of.ensures) ∙ c.if-takes.false)
