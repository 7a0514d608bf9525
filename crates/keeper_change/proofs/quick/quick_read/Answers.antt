use Rattle.keeper_change.proofs.Alone.{quick_asked, asked_refused, to_allowed}
use mathlib.Core.Path.{refl, sym}
use Rattle.std.proofs.lemmas.Result.{err_from_is_err_and}
use Rattle.schema.specs.RefusedLaws.{number_some}
use Rattle.schema.specs.Store.{stores}
use Rattle.keeper_change.proofs.quick.quick_read.Goals as goal

pub first_asked-requires : goal.first_asked-requires
first_asked-requires c =
    let s = stores c.args.attributes.now c.args.classes.now c.args.closure.now in
    let change = c.args.change in
    let r = c.args.scratch.now in
    quick_asked change r s c.requires

pub returns-in_err-first_asked : goal.returns-in_err-first_asked
returns-in_err-first_asked c =
    let s = stores c.args.attributes.now c.args.classes.now c.args.closure.now in
    let change = c.args.change in
    let r = c.args.scratch.now in
    let p = err_from_is_err_and c.from_residual.result c.from_residual.ensures.1 in
    rw (p.1, p.2) (asked_refused change r s c.requires _ _ c.in_err-first_asked.ensures (number_some _) refl)

pub quick_judged-requires : goal.quick_judged-requires
quick_judged-requires c =
    let s = stores c.args.attributes.now c.args.classes.now c.args.closure.now in
    let change = c.args.change in
    let r = c.args.scratch.now in
    to_allowed change r s c.requires (sym c.in_ok-first_asked.ensures)
