use Rattle.std.specs.Prelude.{Ok, Err}
use mathlib.Core.Path.{sym, ap, ◌∙◌}
use lib.ListN.{length}
use Rattle.std.proofs.lemmas.Result.{err_from_is_err_and}
use Rattle.wire.specs.WireLaws.{field_is}
use Rattle.reader.specs.ReaderLaws.{step_field, step_last}
use Rattle.change_read.proofs.Cases.{tagged_unknown, tagged_known, front_bad, front_none, front_whole}
use native.Mathlib.Omega.{arith}
use Rattle.change_read.proofs.read.read_change.Goals as goal

pub returns-in_err-field : goal.returns-in_err-field
returns-in_err-field c =
    let s = c.args.s.now in
    let p = err_from_is_err_and c.from_residual.result c.from_residual.ensures.1 in
    front_bad s _ (step_field s 0 _ c.step_at-step.ensures) c.args.row.now _ _ c.requires c.in_err-field.was (p.1 ∙ ap Err p.2)

pub returns-in_default : goal.returns-in_default
returns-in_default c =
    let s = c.args.s.now in
    front_none s _ (step_field s 0 _ c.step_at-step.ensures) c.args.row.now c.requires (c.in_ok-field.was ∙ ap Ok c.in_default.is)

pub returns-in_default-change_of : goal.returns-in_default-change_of
returns-in_default-change_of c =
    let s = c.args.s.now in
    front_whole s _ (step_field s 0 _ c.step_at-step.ensures) _ _ _ _ _ (c.in_ok-field.was ∙ ap Ok c.in-Some.is) (tagged_unknown _ _ c.change_of.ensures s _ _
    c.args.row.now c.requires c.in_default-change_of.is)

pub read_value-requires : goal.read_value-requires
read_value-requires c =
    let s = c.args.s.now in
    let w = field_is s 0 (length s) _ _ _ (sym (step_field s 0 _ c.step_at-step.ensures) ∙ c.in_ok-field.was ∙ ap Ok c.in-Some.is) in
    (omega (arith, w.start_is, w.stop_is), w.within, c.requires, step_last s 0 _ c.step_at-step.ensures _ _ _ (c.in_ok-field.was ∙ ap Ok c.in-Some.is))

pub returns : goal.returns
returns c =
    let s = c.args.s.now in
    front_whole s _ (step_field s 0 _ c.step_at-step.ensures) _ _ _ _ _ (c.in_ok-field.was ∙ ap Ok c.in-Some.is) (tagged_known _ _ c.change_of.ensures s _ _ _ _ _
    c.in-Some-change_of.is c.read_value.ensures)
