use mathlib.Core.Path.{◌∙◌, ap, sym}
use Rattle.schema.specs.NumbersLaws.{class_is, class_beyond}
use Rattle.rules.specs.declared.row.Added.TheVariants.{Class, Entry}
use Rattle.change_read.specs.declared.read.Change.TheVariants.{Add}
use Rattle.change_rows.specs.Lists.{list_table}
use Prim.Native.Nat.{ℕ}
use native.Mathlib.Omega.{arith}
use Rattle.keeper_change.proofs.judge.added_by.Goals as goal

pub returns-in_default : goal.returns-in_default
returns-in_default c =
    absurd (omega (
      arith,
      class_beyond c.args.n (sym c.new.ensures ∙ c.in_default.is),
      c.requires.2 (c.in-Add.is ∙ ap Add
          c.in-Classes.is),
    ))

pub returns-in_default-new : goal.returns-in_default-new
returns-in_default-new c =
    absurd (omega (
      arith,
      class_beyond c.target_of.result (sym c.new-in-AddEntry.ensures ∙ c.in_default-new.is),
      c.target_of.ensures,
      c.requires.1
          c.in-AddEntry.is,
    ))

pub returns-in-Some : goal.returns-in-Some
returns-in-Some c =
    let w = class_is c.args.n _ (sym c.new.ensures ∙ c.in-Some.is) in
    rw (c.in-Add.is, c.in-Classes.is) (ap (λ (x : ℕ). Class (record { 0 = x })) (sym w.0))

pub returns-in-Some-new : goal.returns-in-Some-new
returns-in-Some-new c =
    let w = class_is c.target_of.result _ (sym c.new-in-AddEntry.ensures ∙ c.in-Some-new.is) in
    rw c.in-AddEntry.is (λ i. Entry (record { 0 = (sym w.0 ∙ c.target_of.ensures) i }) ((c.list_table.ensures
    ∙ ap list_table c.list_of.ensures) i) (c.entry_of.ensures i))
