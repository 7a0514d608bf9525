use mathlib.Core.Path.{sym}
use native.Mathlib.Omega.{arith}
use lib.ListN.{length}
use Rattle.rows_read.proofs.Storing.{told, plain_long, number_fits, counted_fits, arcs_fit, entries_fit, plain_image, number_image}
use Rattle.rows_read.proofs.Storing.{counted_image, arcs_image, entries_image, one_stored}
use Rattle.rows_read.proofs.value.store_value.Goals as goal

pub read_u16-requires : goal.read_u16-requires
read_u16-requires c =
    let t = number_fits (told c.args.v.now (length c.args.cell.now) c.in-Number.is c.requires) in omega arith

pub overflow_cast-cell : goal.overflow_cast-cell
overflow_cast-cell c =
    let t = number_fits (told c.args.v.now (length c.args.cell.now) c.in-Number.is c.requires) in omega
    (arith, c.read_u16.ensures)

pub bounds-cell-0 : goal.bounds-cell-0
bounds-cell-0 c =
    let t = number_fits (told c.args.v.now (length c.args.cell.now) c.in-Number.is c.requires) in omega arith

pub overflow_cast-v : goal.overflow_cast-v
overflow_cast-v c =
    let t = counted_fits (told c.args.v.now (length c.args.cell.now) c.in-Counted.is c.requires) in omega arith

pub store_counted-requires : goal.store_counted-requires
store_counted-requires c =
    let t = counted_fits (told c.args.v.now (length c.args.cell.now) c.in-Counted.is c.requires) in omega arith

pub overflow_cast-v-in-Arcs : goal.overflow_cast-v-in-Arcs
overflow_cast-v-in-Arcs c =
    let t = arcs_fit (told c.args.v.now (length c.args.cell.now) c.in-Arcs.is c.requires) in omega arith

pub store_counted-requires-in-Arcs : goal.store_counted-requires-in-Arcs
store_counted-requires-in-Arcs c =
    let t = arcs_fit (told c.args.v.now (length c.args.cell.now) c.in-Arcs.is c.requires) in omega arith

pub store_entries-requires : goal.store_entries-requires
store_entries-requires c =
    let t = entries_fit (told c.args.v.now (length c.args.cell.now) c.in-Entries.is c.requires) in (t.0, t.1)

pub returns-in-Plain : goal.returns-in-Plain
returns-in-Plain c =
    let v = c.args.v.now in
    let cell = c.args.cell.now in
    let t = told v (length cell) c.in-Plain.is c.requires in plain_image c.in-Plain.is t
    c.copy_from_slice.ensures.after

pub returns-in-Number : goal.returns-in-Number
returns-in-Number c =
    let cell = c.args.cell.now in
    let t = told c.args.v.now (length cell) c.in-Number.is c.requires in number_image c.in-Number.is t
    (one_stored _ _ cell (number_fits t).1 c.read_u16.ensures)

pub returns-in-Counted : goal.returns-in-Counted
returns-in-Counted c =
    counted_image c.in-Counted.is (told c.args.v.now (length c.args.cell.now) c.in-Counted.is c.requires)
    c.store_counted.ensures

pub returns-in-Arcs : goal.returns-in-Arcs
returns-in-Arcs c =
    arcs_image c.in-Arcs.is (told c.args.v.now (length c.args.cell.now) c.in-Arcs.is c.requires)
    c.store_counted-in-Arcs.ensures

pub returns-in-Entries : goal.returns-in-Entries
returns-in-Entries c =
    entries_image c.in-Entries.is (told c.args.v.now (length c.args.cell.now) c.in-Entries.is c.requires)
    c.store_entries.ensures

pub copy_from_slice-requires : goal.copy_from_slice-requires
copy_from_slice-requires c =
    sym (plain_long (told c.args.v.now (length c.args.cell.now) c.in-Plain.is c.requires))
