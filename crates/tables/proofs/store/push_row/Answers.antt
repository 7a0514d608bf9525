use mathlib.Core.List.{List}
use mathlib.Core.Path.{ap, ap₂, ◌∙◌}
use Prim.Native.Nat.{ℕ, ◌+◌}
use Rattle.prelude.specs.Part.{splice}
use Rattle.schema.specs.declared.number.TableId.{TableId}
use Rattle.schema.specs.declared.number.RowId.{RowId}
use Rattle.schema.specs.Numbers.{table_of, number_of}
use Rattle.schema.specs.NumbersLaws.{id_table, id_number}
use Rattle.tables.specs.Filled.{count_bytes, put_in, plus_in}
use Rattle.tables.proofs.store.push_row.Goals as goal

pub returns : goal.returns
unfolding plus_in
returns c =
    let t = c.args.table in
    let row = c.args.row.now in
    let s = c.args.store.now in
    let n = c.row_count-n.result in
    c.write_count.ensures ∙ ap₂ (λ (k : ℕ) (x : List ℕ). splice 0 (count_bytes t (k + 1)) x) c.row_count-n.ensures
    (c.put_row.ensures ∙ ap (λ (i : RowId). put_in (table_of i) (number_of i) row s) c.row_id.ensures ∙ ap₂
    (λ (u : TableId) (k : ℕ). put_in u k row s) (id_table t n) (id_number t n) ∙ ap (λ (k : ℕ). put_in t k row s) c.row_count-n.ensures)
