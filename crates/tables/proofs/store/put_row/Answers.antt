use mathlib.Core.Path.{refl, sym, ap, ◌∙◌}
use Prim.Native.Nat.{ℕ, ◌+◌, ◌*◌, ◌≤◌}
use lib.ListN.{length}
use Rattle.prelude.specs.Part.{splice}
use Rattle.schema.specs.Numbers.{table_of, number_of}
use Rattle.schema.specs.Layout.{row_width}
use Rattle.tables.proofs.Written.{row_put}
use Rattle.tables.specs.Filled.{put_in}
use Rattle.tables.proofs.Widths.{row_room}
use native.Mathlib.Omega.{arith}
use Rattle.tables.proofs.store.put_row.Goals as goal

pub returns : goal.returns
unfolding put_in
returns c =
    let id = c.args.id in
    let store = c.args.store.now in
    let row = c.args.row.now in
    let e = c.row_start-at.ensures ∙ ap (λ (x : ℕ). 2 + x * number_of id) (sym (c.row_width.ensures ∙ ap row_width c.table_of.ensures)) in
    let room : c.row_start-at.result + c.row_width.result ≤ length store = rw e (row_room (table_of id) (number_of id) store c.row_width.result
    (number_of id) (c.row_width.ensures ∙ ap row_width c.table_of.ensures) refl c.requires.0 c.requires.1) in row_put c.row_start-at.result
    c.row_width.result store row _ room (omega (arith, c.requires.2, (c.row_width.ensures ∙ ap row_width c.table_of.ensures)))
    c.copy_padded.ensures ∙ ap (λ (x : ℕ). splice x row store) c.row_start-at.ensures
