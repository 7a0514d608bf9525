use mathlib.Core.Path.{◌∙◌, ap, sym}
use Rattle.schema.specs.NumbersLaws.{class_is, class_beyond}
use Rattle.graph.specs.Graph.{demanded_set}
use Rattle.schema.specs.Store.{table_in}
use Rattle.schema.specs.declared.number.TableId.TheVariants.{Classes}
use native.Mathlib.Omega.{arith}
use Rattle.closure_change.proofs.after.demand_before.Goals as goal

pub returns-in_default : goal.returns-in_default
returns-in_default c =
    absurd (omega (
      arith,
      class_beyond c.target_of.result (sym c.new.ensures ∙ c.in_default.is),
      c.target_of.ensures,
      c.requires.3
          c.in-RemoveEntry.is,
    ))

pub returns-in-Some : goal.returns-in-Some
returns-in-Some c =
    let w = class_is c.target_of.result _ (sym c.new.ensures ∙ c.in-Some.is) in
    rw c.in-RemoveEntry.is (c.write_demanded.ensures ∙ ap (demanded_set (table_in Classes c.args.classes.now)) (sym w.0
    ∙ c.target_of.ensures))
