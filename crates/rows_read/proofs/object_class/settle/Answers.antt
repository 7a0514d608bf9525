use mathlib.Core.List.{List}
use mathlib.Core.Path.{◌≡◌, sym, ap, ◌∙◌}
use Prim.Native.Nat.{ℕ}
use native.Mathlib.Omega.{arith}
use lib.ListN.{length, length-take, length-drop}
use Rattle.prelude.specs.Part.{splice}
use Rattle.prelude.specs.LentLaws.{lent_cleared}
use Rattle.schema.specs.ObjectClasses.{first_object_class}
use Rattle.schema.specs.ObjectClassesLaws.{first_short}
use Rattle.schema.specs.AttributeRow.{syntax_of}
use Rattle.rows_read.specs.ObjectClassLaws.{cell_long, settled_none, settled_first, settled_given}
use Rattle.rows_read.specs.ObjectClass.{object_class_cell}
use Rattle.rows_read.proofs.Storing.{cell_copied}
use Rattle.rows_read.proofs.object_class.settle.Goals as goal

pub returns-then-om_syntax-ne127 : goal.returns-then-om_syntax-ne127
returns-then-om_syntax-ne127 c =
    let row = c.args.row.now in
    lent_cleared 153 17 row _ (omega arith) c.clear.ensures ∙ sym (settled_none row (λ e. c.if-om_syntax-ne127.true (c.om_syntax.ensures ∙ e)))

pub returns-then-row-eq0 : goal.returns-then-row-eq0
returns-then-row-eq0 c =
    let row = c.args.row.now in
    let first : c.first_cell-first.result ≡ object_class_cell (first_object_class (syntax_of row)) = c.first_cell-first.ensures ∙ ap
    (λ (x : ℕ). object_class_cell (first_object_class x)) c.syntax.ensures in cell_copied 153 17 c.first_cell-first.result row _
    (ap length first ∙ cell_long _ (first_short _)) (omega arith) c.copy_from_slice.ensures.after ∙ ap (λ (v : List ℕ). splice 153 v row) first ∙ sym
    (settled_first row (sym c.om_syntax.ensures ∙ c.if-om_syntax-ne127.false) c.if-row-eq0.true)

pub returns-else-row-eq0 : goal.returns-else-row-eq0
returns-else-row-eq0 c =
    sym (settled_given c.args.row.now (sym c.om_syntax.ensures ∙ c.if-om_syntax-ne127.false) c.if-row-eq0.false)

pub copy_from_slice-requires : goal.copy_from_slice-requires
copy_from_slice-requires c =
    let long : length c.first_cell-first.result ≡ 17 = ap length c.first_cell-first.ensures ∙ cell_long _ (first_short _) in
    simp (length-take, length-drop) (omega arith)
