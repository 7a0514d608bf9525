use Rattle.sheet_write.proofs.Rows.{fields_all, row_writable}
use Rattle.prelude.specs.WrittenLaws.{writing_none, writing_room, writing_more, writing_done, written_as}
use Rattle.schema.specs.Store.{table_in}
use Rattle.schema.specs.StoreLaws.{id_within, id_row}
use lib.ListN.{length}
use mathlib.Core.Path.{ap, sym, ◌∙◌}
use native.Mathlib.Omega.{arith}
use Rattle.sheet_write.proofs.put_row_fields.Goals as goal

pub row_count-k-end-requires : goal.row_count-k-end-requires
row_count-k-end-requires c =
    c.requires.0.long

pub loop-k-init : goal.loop-k-init
loop-k-init c =
    writing_none

pub row_id-requires : goal.row_id-requires
row_id-requires c =
    omega
    (arith, c.requires.0.few, c.row_count-k-end.ensures, c.loop-k-test.true)

pub row-requires : goal.row-requires
row-requires c =
    id_within c.args.table
    c.loop-k.k c.args.store.now c.row_id.ensures c.requires.0.long
    (omega (arith, c.requires.0.few, c.row_count-k-end.ensures, c.loop-k-test.true))

pub put_row_field-next-requires : goal.put_row_field-next-requires
put_row_field-next-requires c =
    let table = c.args.table in
    let store = c.args.store.now in
    let e = c.row.ensures ∙ id_row table
    c.loop-k.k store c.row_id.ensures in let f = fields_all table (table_in table store) c.row_count-k-end.ensures in rw e (
      row_writable table store c.loop-k.k c.requires.0 (omega (arith, c.row_count-k-end.ensures, c.loop-k-test.true)),
      writing_room
          (omega (arith, c.requires.1, ap length f)) c.loop-k.invariant c.loop-k-test.true,
    )

pub loop-k-preserved : goal.loop-k-preserved
loop-k-preserved c =
    let table = c.args.table in
    let store = c.args.store.now in
    let e =
    c.row.ensures ∙ id_row table c.loop-k.k store c.row_id.ensures in let f = fields_all table (table_in table store)
    c.row_count-k-end.ensures in writing_more (omega (arith, c.requires.1, ap length f)) c.loop-k.invariant c.loop-k-test.true
    (rw (sym e) c.put_row_field-next.ensures)

pub returns : goal.returns
returns c =
    let table = c.args.table in
    let e = fields_all table
    (table_in table c.args.store.now) c.row_count-k-end.ensures in written_as e
    (writing_done (omega (arith, c.requires.1, ap length e)) c.loop-k.invariant (omega (arith, c.loop-k-test.false)))
