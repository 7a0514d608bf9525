use mathlib.Core.List.{List}
use mathlib.Core.Path.{sym, ap, ◌∙◌}
use Prim.Native.Nat.{ℕ}
use native.Mathlib.Omega.{arith}
use lib.ListN.{length}
use Rattle.prelude.specs.Part.{splice}
use Rattle.prelude.specs.BigEndianLaws.{bytes_length}
use Rattle.rows_write.proofs.Writing.{stored_plain, stored_number, stored_counted, stored_arcs, stored_entries, counted_inside, arcs_inside}
use Rattle.rows_write.proofs.Writing.{holding_small}
use Rattle.rows_write.proofs.value.write_value.Goals as goal

pub put_bytes-requires : goal.put_bytes-requires
put_bytes-requires c =
    let e = ap length (stored_plain c.args.cell.now c.in-Plain.is) in omega (arith, e, c.requires.3)

pub write_u16-requires : goal.write_u16-requires
write_u16-requires c =
    let e = ap length (stored_number c.args.cell.now c.in-Number.is c.first_byte.ensures) in omega
    (arith, e, bytes_length 2 c.first_byte.result, c.requires.3)

pub part_of-requires : goal.part_of-requires
part_of-requires c =
    counted_inside c.args.cell.now c.in-Counted.is (c.requires.0, c.requires.1, c.requires.2) c.first_byte-n.ensures

pub put_bytes-requires-in-Counted : goal.put_bytes-requires-in-Counted
put_bytes-requires-in-Counted c =
    let e = ap length (stored_counted c.args.cell.now c.in-Counted.is c.first_byte-n.ensures ∙ sym c.part_of.ensures) in
    omega (arith, e, c.requires.3)

pub part_of-requires-in-Arcs : goal.part_of-requires-in-Arcs
part_of-requires-in-Arcs c =
    arcs_inside c.args.cell.now c.in-Arcs.is (c.requires.0, c.requires.1, c.requires.2) c.first_byte-in-Arcs.ensures

pub put_bytes-requires-in-Arcs : goal.put_bytes-requires-in-Arcs
put_bytes-requires-in-Arcs c =
    let e = ap length (stored_arcs c.args.cell.now c.in-Arcs.is c.first_byte-in-Arcs.ensures ∙ sym c.part_of-in-Arcs.ensures) in
    omega (arith, e, c.requires.3)

pub write_entries-requires : goal.write_entries-requires
write_entries-requires c =
    let cell = c.args.cell.now in
    let e = ap length (stored_entries cell c.in-Entries.is) in
    (holding_small c.args.encoding cell (c.requires.0, c.requires.1, c.requires.2), omega (arith, e, c.requires.3))

pub returns-in-Plain : goal.returns-in-Plain
returns-in-Plain c =
    c.put_bytes.ensures.bytes ∙ ap (λ (v : List ℕ). splice c.args.at v c.args.out.now)
    (sym (stored_plain c.args.cell.now c.in-Plain.is))

pub returns-in-Number : goal.returns-in-Number
returns-in-Number c =
    c.write_u16.ensures ∙ ap (λ (v : List ℕ). splice c.args.at v c.args.out.now)
    (sym (stored_number c.args.cell.now c.in-Number.is c.first_byte.ensures))

pub returns-in-Counted : goal.returns-in-Counted
returns-in-Counted c =
    c.put_bytes-in-Counted.ensures.bytes ∙ ap (λ (v : List ℕ). splice c.args.at v c.args.out.now)
    (c.part_of.ensures ∙ sym (stored_counted c.args.cell.now c.in-Counted.is c.first_byte-n.ensures))

pub returns-in-Arcs : goal.returns-in-Arcs
returns-in-Arcs c =
    c.put_bytes-in-Arcs.ensures.bytes ∙ ap (λ (v : List ℕ). splice c.args.at v c.args.out.now)
    (c.part_of-in-Arcs.ensures ∙ sym (stored_arcs c.args.cell.now c.in-Arcs.is c.first_byte-in-Arcs.ensures))

pub returns-in-Entries : goal.returns-in-Entries
returns-in-Entries c =
    c.write_entries.ensures ∙ ap (λ (v : List ℕ). splice c.args.at v c.args.out.now)
    (sym (stored_entries c.args.cell.now c.in-Entries.is))
