use Rattle.rules.specs.Rules.{barred}
use borrow.Author.Tests.{eq-eqb, ne_eqb}
use Rattle.rules.proofs.row.is_barred.Goals as goal

pub returns-then-a-c : goal.returns-then-a-c
unfolding barred
returns-then-a-c c =
    rw (c.in-Class.is, ne_eqb _ _ c.if-a-c.true)

pub returns-in-Nothing : goal.returns-in-Nothing
unfolding barred
returns-in-Nothing c =
    rw c.in-Nothing.is

pub returns-else-a-c : goal.returns-else-a-c
unfolding barred
returns-else-a-c c =
    rw (c.in-Class.is, eq-eqb _ _ c.if-a-c.false) c.lists_itself.ensures

pub returns-in-Entry : goal.returns-in-Entry
unfolding barred
returns-in-Entry c =
    rw c.in-Entry.is
