use mathlib.Core.Path.{refl, sym}
use Rattle.keeper_change.proofs.Whole.{asked_refused, plain_asked, to_judged}
use Rattle.std.proofs.lemmas.Result.{err_from_is_err_and}
use Rattle.schema.specs.RefusedLaws.{number_some}
use Rattle.schema.specs.Store.{stores}
use Rattle.keeper_change.proofs.plain.plain_read.Goals as goal

pub first_asked-requires : goal.first_asked-requires
first_asked-requires c =
    let s = stores c.args.attributes.now c.args.classes.now c.args.closure.now in
    let change = c.args.change in
    let r = c.args.scratch.now in
    plain_asked change r s c.requires

pub returns-in_err-first_asked : goal.returns-in_err-first_asked
returns-in_err-first_asked c =
    let s = stores c.args.attributes.now c.args.classes.now c.args.closure.now in
    let change = c.args.change in
    let r = c.args.scratch.now in
    let p = err_from_is_err_and c.from_residual.result c.from_residual.ensures.1 in
    rw (p.1, p.2) (asked_refused change r s c.requires _ _ c.in_err-first_asked.ensures (number_some _) refl)

pub plain_judged-requires : goal.plain_judged-requires
plain_judged-requires c =
    let s = stores c.args.attributes.now c.args.classes.now c.args.closure.now in
    to_judged c.args.change c.args.scratch.now s c.requires (sym c.in_ok-first_asked.ensures)
