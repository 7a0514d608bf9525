use Rattle.sheet_write.proofs.Rows.{field_of_row, fields_all, next_short, row_writable}
use Rattle.prelude.specs.ConcatLaws.{concat_none, concat_more_length}
use Rattle.schema.specs.Store.{table_in}
use Rattle.schema.specs.StoreLaws.{id_within, id_row}
use Rattle.schema.specs.NumbersLaws.{limit_most}
use Rattle.sheet_write.specs.Writing.{row_field}
use lib.ListN.{length}
use mathlib.Core.List.{List}
use mathlib.Core.Path.{ap, sym, ◌≡◌, ◌∙◌}
use Prim.Native.Nat.{ℕ}
use native.Mathlib.Omega.{arith}
use Rattle.sheet_write.proofs.row_fields_length.Goals as goal

pub row_count-k-end-requires : goal.row_count-k-end-requires
row_count-k-end-requires c =
    c.requires.long

pub loop-k-init : goal.loop-k-init
loop-k-init c =
    let table = c.args.table in
    sym (ap length (concat_none (field_of_row table (table_in table c.args.store.now))))

pub row_id-requires : goal.row_id-requires
row_id-requires c =
    omega (arith, c.requires.few, c.row_count-k-end.ensures, c.loop-k-test.true)

pub row-requires : goal.row-requires
row-requires c =
    id_within c.args.table c.loop-k.k
    c.args.store.now c.row_id.ensures c.requires.long (omega (arith, c.requires.few, c.row_count-k-end.ensures, c.loop-k-test.true))

pub row_field_length-total-requires : goal.row_field_length-total-requires
row_field_length-total-requires c =
    let table = c.args.table in
    let store = c.args.store.now in
    rw (c.row.ensures ∙ id_row table c.loop-k.k store c.row_id.ensures)
    (row_writable table store c.loop-k.k c.requires (omega (arith, c.row_count-k-end.ensures, c.loop-k-test.true)))

pub overflow_add-total : goal.overflow_add-total
overflow_add-total c =
    let table = c.args.table in
    let store = c.args.store.now in
    let f = field_of_row table (table_in table store) in let e = ap
    (λ (x : List ℕ). length (row_field table x)) (c.row.ensures ∙ id_row table c.loop-k.k store c.row_id.ensures) in omega (
      arith,
      concat_more_length f c.loop-k.k,
      e,
      c.loop-k.invariant,
      c.row_field_length-total.ensures,
      next_short table (table_in table store)
          c.loop-k.k (omega (arith, limit_most table, c.requires.few, c.row_count-k-end.ensures, c.loop-k-test.true)),
    )

pub loop-k-preserved : goal.loop-k-preserved
loop-k-preserved c =
    let table = c.args.table in
    let store = c.args.store.now in
    let f = field_of_row table (table_in table store) in let e = ap
    (λ (x : List ℕ). length (row_field table x)) (c.row.ensures ∙ id_row table c.loop-k.k store c.row_id.ensures) in
    omega (arith, concat_more_length f c.loop-k.k, e, c.loop-k.invariant, c.row_field_length-total.ensures)

pub returns : goal.returns
returns c =
    let table = c.args.table in
    let store = c.args.store.now in
    let e : c.loop-k.k ≡ (table_in table store).count = omega
    (arith, c.loop-k-test.false, c.row_count-k-end.ensures) in c.loop-k.invariant ∙ sym
    (ap length (fields_all table (table_in table store) e))
