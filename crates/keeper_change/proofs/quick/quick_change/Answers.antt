use Rattle.keeper_change.proofs.Alone.{change_shape, change_in_shape, change_bad, change_read}
use mathlib.Core.Path.{◌∙◌, refl}
use Rattle.schema.specs.RefusedLaws.{number_some}
use Rattle.schema.specs.Store.{stores}
use Rattle.prelude.specs.Part.{zeros}
use Rattle.keeper_change.proofs.quick.quick_change.Goals as goal

pub returns-in-Err : goal.returns-in-Err
returns-in-Err c =
    let s = stores c.args.attributes.now c.args.classes.now c.args.closure.now in
    let x = c.args.change.now in
    rw (c.refused.ensures, c.number.ensures) (change_shape x s c.in-Err.ensures (number_some c.in-Err.refusal))

pub read_change-requires : goal.read_change-requires
unfolding zeros
read_change-requires c =
    refl

pub quick_read-requires : goal.quick_read-requires
quick_read-requires c =
    let s = stores c.args.attributes.now c.args.classes.now c.args.closure.now in
    let x = c.args.change.now in
    change_in_shape x s c.in_default.ensures refl c.read_change.ensures _ c.in-Ok.is
    (λ i. (c.shared_slice_known-1.given i).fits)

pub returns-in-Err-read_change : goal.returns-in-Err-read_change
returns-in-Err-read_change c =
    let s = stores c.args.attributes.now c.args.classes.now c.args.closure.now in
    let x = c.args.change.now in
    change_bad x s c.in_default.ensures refl c.read_change.ensures _ _ c.in-Err-read_change.is c.unreadable.ensures

pub returns-in-Ok-quick_read : goal.returns-in-Ok-quick_read
returns-in-Ok-quick_read c =
    let s = stores c.args.attributes.now c.args.classes.now c.args.closure.now in
    let x = c.args.change.now in
    rw c.changed.ensures (c.in-Ok-quick_read.ensures ∙ change_read x s c.in_default.ensures refl c.read_change.ensures _ c.in-Ok.is)

pub returns-in-Err-quick_read : goal.returns-in-Err-quick_read
returns-in-Err-quick_read c =
    let s = stores c.args.attributes.now c.args.classes.now c.args.closure.now in
    let x = c.args.change.now in
    rw (c.refused-in-Err-quick_read.ensures, c.number-in-Err-quick_read.ensures)
    (c.in-Err-quick_read.ensures ∙ change_read x s c.in_default.ensures refl c.read_change.ensures _ c.in-Ok.is)
