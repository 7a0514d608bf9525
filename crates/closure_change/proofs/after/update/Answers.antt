use mathlib.Core.Path.{◌≡◌, ◌∙◌, ap, sym}
use Rattle.schema.specs.NumbersLaws.{class_is, class_beyond, number_beyond}
use Rattle.schema.specs.Store.{table_in}
use Rattle.schema.specs.declared.number.TableId.TheVariants.{Classes}
use Rattle.change_read.specs.Carried.{entry_of, list_of}
use Rattle.change_read.specs.declared.read.Change.TheVariants.{Add}
use Rattle.change_rows.specs.Lists.{list_table}
use Rattle.change_rows.specs.ListsLaws.{entry_is}
use Rattle.closure_change.proofs.Carried.{joined_same}
use Rattle.closure_change.specs.Kept.{refreshed_at, with_new}
use native.Mathlib.Omega.{arith}
use Rattle.closure_change.proofs.after.update.Goals as goal

pub returns-in_default : goal.returns-in_default
returns-in_default c =
    let is : c.args.change ≡ Add Classes = c.in-Add-Classes.is ∙ ap Add (rw c.in-Add-Classes.is at c.in-Add-Classes.field-0-is) in
    absurd (omega (arith, class_beyond c.args.n (sym c.new.ensures ∙ c.in_default.is), c.requires.1 is))

pub write_new-requires : goal.write_new-requires
write_new-requires c =
    let w = class_is c.args.n _ (sym c.new.ensures ∙ c.in-Some.is) in
    (c.requires.0.readable, c.requires.0.long, omega (arith, w.0, w.1))

pub returns-in_default-new : goal.returns-in_default-new
returns-in_default-new c =
    absurd (omega (
      arith,
      class_beyond c.target_of.result (sym c.new-in-AddEntry.ensures ∙ c.in_default-new.is),
      c.target_of.ensures,
      c.requires.0.target c.in-AddEntry.is,
    ))

pub returns-in_default-entry_read : goal.returns-in_default-entry_read
returns-in_default-entry_read c =
    let r = c.args.scratch.now in
    absurd (omega (
      arith,
      number_beyond (list_table (list_of r)) (entry_of r) (sym c.entry_read.ensures ∙ c.in_default-entry_read.is),
      c.requires.0.entry c.in-AddEntry.is,
    ))

pub join_entry-requires : goal.join_entry-requires
join_entry-requires c =
    let w = entry_is c.args.scratch.now (sym c.entry_read.ensures ∙ c.in-Some-entry_read.is) in
    (c.requires.0.long, w.table ∙ ap list_table (sym c.list_of.ensures), w.below)

pub returns-in_default-new-2 : goal.returns-in_default-new-2
returns-in_default-new-2 c =
    absurd (omega (
      arith,
      class_beyond c.target_of-in-RemoveEntry.result (sym c.new-in-RemoveEntry.ensures ∙ c.in_default-new-2.is),
      c.target_of-in-RemoveEntry.ensures,
      c.requires.0.removed c.in-RemoveEntry.is,
    ))

pub returns-in-Some : goal.returns-in-Some
returns-in-Some c =
    let is : c.args.change ≡ Add Classes = c.in-Add-Classes.is ∙ ap Add (rw c.in-Add-Classes.is at c.in-Add-Classes.field-0-is) in
    let w = class_is c.args.n _ (sym c.new.ensures ∙ c.in-Some.is) in
    rw is (c.write_new.ensures ∙ ap (λ k. with_new (table_in Classes c.args.classes.now) k c.args.closure.now) (sym w.0))

pub returns-in-Some-entry_read : goal.returns-in-Some-entry_read
returns-in-Some-entry_read c =
    let entry = entry_is c.args.scratch.now (sym c.entry_read.ensures ∙ c.in-Some-entry_read.is) in
    let target = class_is c.target_of.result _ (sym c.new-in-AddEntry.ensures ∙ c.in-Some-new.is) in
    rw c.in-AddEntry.is (c.join_entry.ensures ∙ joined_same c.list_of.ensures entry.number c.args.n
    (sym target.0 ∙ c.target_of.ensures) c.args.closure.now)

pub returns-in-Some-new-2 : goal.returns-in-Some-new-2
returns-in-Some-new-2 c =
    let target = class_is c.target_of-in-RemoveEntry.result _ (sym c.new-in-RemoveEntry.ensures ∙ c.in-Some-new-2.is) in
    rw c.in-RemoveEntry.is (c.refresh_holding.ensures ∙ ap (λ k. refreshed_at (table_in Classes c.args.classes.now) c.args.n k
    c.args.closure.now) (sym target.0 ∙ c.target_of-in-RemoveEntry.ensures))
