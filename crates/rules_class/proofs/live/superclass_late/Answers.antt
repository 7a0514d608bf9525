use mathlib.Core.Logic.{⊎_elim}
use mathlib.Core.Path.{sym, ◌∙◌}
use native.Mathlib.Omega.{arith}
use borrow.Author.Tests.{eq-eqb, ne_eqb}
use Rattle.prelude.specs.SaysLaws.{says_same, says_iff, says_le, says_not, says_lt, says_true}
use Rattle.schema.specs.ClassRow.{superclass_of}
use Rattle.schema.specs.NumbersLaws.{class_is, class_beyond}
use Rattle.rules_class.specs.Live.{superclass_late}
use Rattle.rules_class.specs.LiveLaws.{says_superclass_late}
use Rattle.rules_class.proofs.live.superclass_late.Goals as goal

pub returns-in_default : goal.returns-in_default
returns-in_default c =
    let row = c.args.row.now in
    let beyond = class_beyond (superclass_of row) (sym c.superclass.ensures ∙ c.in_default.is) in
    sym (says_true (says_superclass_late c.args.c.0 row)
    (⊎_elim (λ e. omega (arith, e.1, beyond)) (λ l. omega (arith, l, beyond, c.requires.1))))

pub returns-then-c-eq0 : goal.returns-then-c-eq0
unfolding superclass_late
returns-then-c-eq0 c =
    let is = (class_is (superclass_of c.args.row.now) c.in-Some.above (sym c.superclass.ensures ∙ c.in-Some.is)).0 in
    rw (eq-eqb _ _ c.if-c-eq0.true, is)

pub returns : goal.returns
unfolding superclass_late
returns c =
    let above = c.in-Some.above.0 in
    let is = (class_is (superclass_of c.args.row.now) c.in-Some.above (sym c.superclass.ensures ∙ c.in-Some.is)).0 in
    rw (ne_eqb _ _ c.if-c-eq0.false, is)
    (says_same (says_iff (says_le c.args.c.0 above) (λ h l. omega arith, λ h. omega arith)) (says_not (says_lt above c.args.c.0)))
