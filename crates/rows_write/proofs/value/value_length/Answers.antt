use native.Mathlib.Omega.{arith}
use Rattle.rows_format.specs.EntriesLaws.{members_few, members_count}
use Rattle.rows_write.proofs.Writing.{holding_small, plain_count, number_count, counted_count, arcs_count, entries_count}
use Rattle.rows_write.proofs.value.value_length.Goals as goal

pub count-requires : goal.count-requires
count-requires c =
    let s = holding_small c.args.encoding c.args.cell.now c.requires in omega arith

pub overflow_mul-result-in-Entries : goal.overflow_mul-result-in-Entries
overflow_mul-result-in-Entries c =
    let cell = c.args.cell.now in
    let s = holding_small c.args.encoding cell c.requires in omega (arith, c.count.ensures, members_few cell, members_count cell)

pub returns-in-Plain : goal.returns-in-Plain
returns-in-Plain c =
    plain_count c.args.cell.now c.in-Plain.is

pub returns-in-Number : goal.returns-in-Number
returns-in-Number c =
    number_count c.args.cell.now c.in-Number.is

pub returns-in-Counted : goal.returns-in-Counted
returns-in-Counted c =
    counted_count c.args.cell.now c.in-Counted.is c.requires c.first_byte.ensures

pub returns-in-Arcs : goal.returns-in-Arcs
returns-in-Arcs c =
    arcs_count c.args.cell.now c.in-Arcs.is c.requires c.first_byte-in-Arcs.ensures

pub returns-in-Entries : goal.returns-in-Entries
returns-in-Entries c =
    entries_count c.args.cell.now c.in-Entries.is c.count.ensures
