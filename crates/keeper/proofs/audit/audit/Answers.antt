use mathlib.Core.Path.{refl}
use Rattle.schema.specs.Store.{stores}
use Rattle.schema.specs.RefusedLaws.{number_some}
use Rattle.keeper.specs.Audit.{audit}
use Rattle.keeper.specs.CheckedLaws.{shape_refused, shaped_stores, readable_classes, in_shape}
use Rattle.keeper.proofs.audit.audit.Goals as goal

pub returns-in-Err : goal.returns-in-Err
unfolding audit
returns-in-Err c =
    let s = stores c.args.attributes.now c.args.classes.now c.args.closure.now in
    rw (c.refused.ensures, c.number.ensures) (shape_refused s c.in-Err.ensures _ _ (number_some c.in-Err.refusal))

pub judge-requires : goal.judge-requires
judge-requires c =
    shaped_stores (stores c.args.attributes.now c.args.classes.now c.args.closure.now) c.in_default.ensures refl

pub is_fresh-requires : goal.is_fresh-requires
is_fresh-requires c =
    let s = stores c.args.attributes.now c.args.classes.now c.args.closure.now in
    record {
      readable = readable_classes s c.in_default.ensures refl;
      closure_length_in_bounds = (in_shape s c.in_default.ensures refl).long.closure;
    }
