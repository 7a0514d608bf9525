use Rattle.std.specs.Prelude.{Ok, Err, Bool, ◌||◌}
use mathlib.Core.List.{List}
use mathlib.Core.Path.{sym, ap, ◌∙◌}
use Prim.Native.Nat.{ℕ}
use native.Mathlib.Omega.{arith}
use Rattle.std.proofs.lemmas.Result.{err_from_is_err_and}
use Rattle.prelude.specs.Part.{splice}
use Rattle.rows_format.specs.Columns.{takes, cell_of}
use Rattle.rows_read.specs.Reading.{next}
use Rattle.rows_read.specs.ReadingLaws.{is_taken, stepped_refused, stepped_passed, stepped_taken}
use Rattle.rows_read.proofs.field.take_field.Goals as goal

pub returns-in_err-field : goal.returns-in_err-field
returns-in_err-field c =
    let p = err_from_is_err_and c.from_residual.result c.from_residual.ensures.1 in
    let w = stepped_refused c.args.s.now c.args.column c.args.progress.at c.args.end c.args.progress.missing c.args.row.now
    c.turn_of.ensures c.in_err-field.was in
    (p.1 ∙ ap Err p.2 ∙ w.0, w.1)

pub returns-then-is_required : goal.returns-then-is_required
returns-then-is_required c =
    let w = stepped_passed c.args.s.now c.args.column c.args.progress.at c.args.end c.args.progress.missing c.args.row.now
    c.turn_of.ensures (c.in_ok-field.was ∙ ap Ok c.in_default.is) in
    (ap (next c.args.progress.at) (c.if-is_required.true ∙ ap (λ (b : Bool). b || c.args.progress.missing) (sym c.if-is_required.true ∙ c.is_required.ensures)) ∙ w.0, c.clear_cell.ensures ∙ w.1)

pub returns-else-is_required : goal.returns-else-is_required
returns-else-is_required c =
    let w = stepped_passed c.args.s.now c.args.column c.args.progress.at c.args.end c.args.progress.missing c.args.row.now
    c.turn_of.ensures (c.in_ok-field.was ∙ ap Ok c.in_default.is) in
    (ap (next c.args.progress.at) (ap (λ (b : Bool). b || c.args.progress.missing) (sym c.if-is_required.false ∙ c.is_required.ensures)) ∙ w.0, c.clear_cell.ensures ∙ w.1)

pub value_of-requires : goal.value_of-requires
value_of-requires c =
    let w = is_taken c.args.s.now c.args.column c.args.progress.at c.args.end _ _ _ (sym c.turn_of.ensures ∙ c.in_ok-field.was ∙ ap Ok c.in-Some.is) in
    omega (arith, w.whole)

pub put_cell-requires : goal.put_cell-requires
put_cell-requires c =
    let w = is_taken c.args.s.now c.args.column c.args.progress.at c.args.end _ _ _ (sym c.turn_of.ensures ∙ c.in_ok-field.was ∙ ap Ok c.in-Some.is) in
    (c.requires.2, ap (takes c.args.column) c.value_of.ensures ∙ w.takes)

pub returns : goal.returns
returns c =
    let w = stepped_taken c.args.s.now c.args.column c.args.progress.at c.args.end c.args.progress.missing c.args.row.now
    c.turn_of.ensures (c.in_ok-field.was ∙ ap Ok c.in-Some.is) in (
      w.0,
      c.put_cell.ensures ∙ ap (λ (v : List ℕ). splice c.args.column.at (cell_of c.args.column v) c.args.row.now)
          c.value_of.ensures ∙ w.1,
    )
