use Prim.Native.Nat.{◌≤◌}
use mathlib.Core.Bool.{not}
use mathlib.Core.Path.{sym, ap, ap₂, ◌∙◌}
use borrow.Author.Tests.{eq-eqb, ne_eqb, not-true, not-false, le-ltb}
use Rattle.schema.specs.Numbers.{table_of, number_of}
use Rattle.schema.specs.NumbersLaws.{id_table, id_number, number_is, number_beyond}
use Rattle.schema.specs.Store.{table_in}
use Rattle.tables.specs.Live.{live}
use Rattle.rules.specs.Rules.{entry_dead}
use native.Mathlib.Omega.{arith}
use Rattle.rules.proofs.row.entry_dead.Goals as goal

pub returns-then-class-c : goal.returns-then-class-c
unfolding entry_dead
returns-then-class-c c =
    rw (c.in-Entry.is, ne_eqb _ _ c.if-class-c.true)

pub returns-then-not-same_table : goal.returns-then-not-same_table
unfolding entry_dead
returns-then-not-same_table c =
    rw (c.in-Entry.is, eq-eqb _ _ c.if-class-c.false, sym c.same_table.ensures ∙ not-true _ c.if-not-same_table.true-raw)

pub returns-in_default : goal.returns-in_default
unfolding entry_dead live
returns-in_default c =
    let table = c.args.table in
    let number = c.in-Entry.number in
    let beyond = number_beyond table number (sym c.number_read.ensures ∙ c.in_default.is) in
    let gone : (table_in table c.args.store.now).count ≤ number = omega (arith, beyond, c.requires.0.few) in
    rw (c.in-Entry.is, eq-eqb _ _ c.if-class-c.false, sym c.same_table.ensures ∙ not-false _ c.if-not-same_table.false-raw, le-ltb _ _ gone)

pub is_live-requires : goal.is_live-requires
is_live-requires c =
    let id = (number_is c.args.table _ (sym c.number_read.ensures ∙ c.in-Some.is)).0 in
    rw (id, id_table) c.requires

pub returns-in-Nothing : goal.returns-in-Nothing
unfolding entry_dead
returns-in-Nothing c =
    rw c.in-Nothing.is

pub returns-in-Class : goal.returns-in-Class
unfolding entry_dead
returns-in-Class c =
    rw c.in-Class.is

pub returns-in-Some : goal.returns-in-Some
unfolding entry_dead
returns-in-Some c =
    let table = c.args.table in
    let store = c.args.store.now in
    let row = c.args.row.now in
    let id = (number_is table _ (sym c.number_read.ensures ∙ c.in-Some.is)).0 in
    let named = c.is_live.ensures ∙ ap (λ x. live (table_in (table_of x) store) row (number_of x)) id ∙ ap₂ (λ t k. live (table_in t store) row k)
    (id_table table _) (id_number table _) in
    rw (c.in-Entry.is, eq-eqb _ _ c.if-class-c.false, sym c.same_table.ensures ∙ not-false _ c.if-not-same_table.false-raw) (ap not named)
