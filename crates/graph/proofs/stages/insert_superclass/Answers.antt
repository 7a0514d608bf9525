use mathlib.Core.Path.{sym, ◌∙◌}
use native.Mathlib.Omega.{arith}
use Rattle.sets.specs.SetsLaws.{with_beyond}
use Rattle.schema.specs.ClassRow.{superclass_of}
use Rattle.schema.specs.NumbersLaws.{class_is, class_beyond}
use Rattle.graph.proofs.stages.insert_superclass.Goals as goal

pub returns-in-Some : goal.returns-in-Some
returns-in-Some c =
    rw (class_is (superclass_of c.args.row.now) c.in-Some.s (sym c.superclass.ensures ∙ c.in-Some.is)).0 c.insert.ensures

pub returns-in_default : goal.returns-in_default
returns-in_default c =
    let above = superclass_of c.args.row.now in
    let beyond = class_beyond above (sym c.superclass.ensures ∙ c.in_default.is) in
    sym (with_beyond c.args.out.now above (λ i. (c.slice_known-1.given i).fits) (omega (arith, c.requires.1, beyond)))
