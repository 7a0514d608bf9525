use mathlib.Core.Bool.{not}
use mathlib.Core.Path.{◌∙◌, ap, sym}
use Rattle.prelude.specs.Part.{same_bytes}
use Rattle.schema.specs.NumbersLaws.{class_is, class_beyond, number_beyond}
use Rattle.schema.specs.Store.{table_in}
use Rattle.schema.specs.declared.number.TableId.TheVariants.{Classes}
use Rattle.graph.specs.Graph.{demanded_set}
use Rattle.change_read.specs.Carried.{entry_of, list_of}
use Rattle.change_rows.specs.Lists.{list_table}
use Rattle.change_rows.specs.ListsLaws.{entry_is}
use Rattle.closure_change.proofs.Carried.{entry_same}
use native.Mathlib.Omega.{arith}
use Rattle.closure_change.proofs.after.demand_changes.Goals as goal

pub returns-in_default : goal.returns-in_default
returns-in_default c =
    absurd (omega (
      arith,
      class_beyond c.target_of.result (sym c.new.ensures ∙ c.in_default.is),
      c.target_of.ensures,
      c.requires.target c.in-AddEntry.is,
    ))

pub returns-in_default-entry_read : goal.returns-in_default-entry_read
returns-in_default-entry_read c =
    let r = c.args.scratch.now in
    absurd (omega (
      arith,
      number_beyond (list_table (list_of r)) (entry_of r) (sym c.entry_read.ensures ∙ c.in_default-entry_read.is),
      c.requires.entry c.in-AddEntry.is,
    ))

pub entry_demands-requires : goal.entry_demands-requires
entry_demands-requires c =
    let entry = entry_is c.args.scratch.now (sym c.entry_read.ensures ∙ c.in-Some-entry_read.is) in
    let target = class_is c.target_of.result _ (sym c.new.ensures ∙ c.in-Some.is) in
    (c.requires.long, entry.table ∙ ap list_table (sym c.list_of.ensures), entry.below, omega (arith, target.0, target.1))

pub returns-in_default-new : goal.returns-in_default-new
returns-in_default-new c =
    absurd (omega (
      arith,
      class_beyond c.target_of-in-RemoveEntry.result (sym c.new-in-RemoveEntry.ensures ∙ c.in_default-new.is),
      c.target_of-in-RemoveEntry.ensures,
      c.requires.removed c.in-RemoveEntry.is,
    ))

pub returns-in-Some-entry_read : goal.returns-in-Some-entry_read
returns-in-Some-entry_read c =
    let entry = entry_is c.args.scratch.now (sym c.entry_read.ensures ∙ c.in-Some-entry_read.is) in
    let target = class_is c.target_of.result _ (sym c.new.ensures ∙ c.in-Some.is) in
    rw c.in-AddEntry.is (c.entry_demands.ensures
    ∙ entry_same c.list_of.ensures entry.number (sym target.0 ∙ c.target_of.ensures) c.args.closure.now)

pub returns-in-Some-new : goal.returns-in-Some-new
returns-in-Some-new c =
    let target = class_is c.target_of-in-RemoveEntry.result _ (sym c.new-in-RemoveEntry.ensures ∙ c.in-Some-new.is) in
    rw c.in-RemoveEntry.is (c.demand_differs.ensures ∙ ap (λ k. not (same_bytes c.args.before.now (demanded_set (table_in Classes
    c.args.classes.now) k))) (sym target.0 ∙ c.target_of-in-RemoveEntry.ensures))
