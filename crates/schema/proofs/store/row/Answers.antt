use mathlib.Core.Path.{ap, ap₂, ◌∙◌}
use Prim.Native.Nat.{ℕ}
use Rattle.prelude.specs.Part.{part}
use lib.ListN.{length}
use Rattle.prelude.specs.PartLaws.{row_fits}
use Rattle.schema.specs.Numbers.{limit, table_of, number_of}
use Rattle.schema.specs.Layout.{rows_at, row_width}
use Rattle.schema.proofs.store.row.Goals as goal

pub part_of-requires : goal.part_of-requires
part_of-requires c =
    let fits = row_fits rows_at (row_width (table_of c.args.id)) (limit (table_of c.args.id)) (number_of c.args.id)
    (length c.args.store.now) c.requires.0 c.requires.1 in
    rw (c.row_start.ensures, c.row_width.ensures, c.table_of.ensures) fits

pub returns : goal.returns
returns c =
    c.part_of.ensures ∙ ap₂ (λ (x y : ℕ). part x y c.args.store.now) c.row_start.ensures (c.row_width.ensures ∙ ap row_width
    c.table_of.ensures)
