use Rattle.schema.specs.RefusedLaws.{number_some}
use mathlib.Core.Path.{ap, refl, ◌∙◌}
use native.Mathlib.Omega.{arith}
use Rattle.schema.specs.Store.{stores}
use Rattle.schema.specs.declared.answer.Answer.{Answer}
use Rattle.keeper.specs.Write.{written}
use Rattle.keeper.specs.CheckedLaws.{in_shape, writable}
use Rattle.keeper.specs.EndLaws.{write_refused, write_short, write_done}
use Rattle.keeper.proofs.write.write.Goals as goal

pub returns-in-Err : goal.returns-in-Err
returns-in-Err c =
    let out = c.args.out.now in
    rw (c.refused.ensures, c.number.ensures)
    (write_refused (stores c.args.attributes.now c.args.classes.now c.args.closure.now) out c.in-Err.ensures (number_some c.in-Err.refusal))

pub sheet_length-needed-requires : goal.sheet_length-needed-requires
sheet_length-needed-requires c =
    let s = stores c.args.attributes.now
    c.args.classes.now c.args.closure.now in writable s (in_shape s c.in_default.ensures refl)

pub returns-then-out-needed : goal.returns-then-out-needed
returns-then-out-needed c =
    let out = c.args.out.now in
    ap (λ (a : Answer). written a out) c.short_output.ensures ∙
    write_short (stores c.args.attributes.now c.args.classes.now c.args.closure.now) out c.in_default.ensures _
    refl c.sheet_length-needed.ensures c.if-out-needed.true

pub write_sheet-requires : goal.write_sheet-requires
write_sheet-requires c =
    let s = stores c.args.attributes.now c.args.classes.now
    c.args.closure.now in let w = writable s (in_shape s c.in_default.ensures refl) in
    (w.0, w.1, omega (arith, c.if-out-needed.false, c.sheet_length-needed.ensures))

pub returns : goal.returns
returns c =
    write_done
    (stores c.args.attributes.now c.args.classes.now c.args.closure.now) c.args.out.now c.in_default.ensures _ _ _ c.done.ensures refl
    c.sheet_length-needed.ensures (omega (arith, c.if-out-needed.false)) c.write_sheet.ensures
