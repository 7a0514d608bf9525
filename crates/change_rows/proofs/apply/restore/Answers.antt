use lib.ListN.{length}
use native.Mathlib.Omega.{arith}
use mathlib.Core.Path.{ap, ◌∙◌, ap₂}
use Rattle.schema.specs.Layout.{row_width}
use Rattle.schema.specs.LayoutLaws.{narrow_row}
use Rattle.schema.specs.Numbers.{table_of, number_of}
use Rattle.tables.specs.Filled.{count_bytes, put_in}
use Rattle.tables.specs.PutLaws.{put_length}
use Rattle.prelude.specs.Part.{part, splice}
use Rattle.prelude.specs.PartLaws.{part_length}
use Rattle.change_rows.specs.Stores.{restored}
use Rattle.change_rows.proofs.apply.restore.Goals as goal

pub part_of-requires : goal.part_of-requires
part_of-requires c =
    omega (arith, c.requires.3, c.row_width.ensures, ap row_width c.table_of-table.ensures, narrow_row (table_of c.args.id))

pub put_row-requires : goal.put_row-requires
put_row-requires c = (
  c.requires.0,
  c.requires.1,
  ap length (c.part_of.ensures ∙ ap (λ n. part 0 n c.args.saved.now) (c.row_width.ensures
      ∙ ap row_width c.table_of-table.ensures)) ∙ part_length 0 (row_width (table_of c.args.id)) c.args.saved.now (omega (
        arith,
        c.requires.3,
        narrow_row (table_of c.args.id),
      )),
)

pub write_count-requires : goal.write_count-requires
write_count-requires c =
    rw c.table_of-table.ensures (
      omega (
        arith,
        c.requires.0,
        ap length (c.put_row.ensures ∙ ap (λ v. put_in (table_of c.args.id) (number_of
            c.args.id) v c.args.store.now) (c.part_of.ensures ∙ ap (λ n. part 0 n c.args.saved.now)
            (c.row_width.ensures ∙ ap row_width c.table_of-table.ensures))),
        put_length (table_of c.args.id) (number_of c.args.id)
            (part 0 (row_width (table_of c.args.id)) c.args.saved.now) c.args.store.now c.requires.0 c.requires.1
            (part_length 0 (row_width (table_of c.args.id)) c.args.saved.now (omega (
              arith,
              c.requires.3,
              narrow_row
                  (table_of c.args.id),
            ))),
      ),
      c.requires.2,
    )

pub returns : goal.returns
unfolding restored
returns c =
    c.write_count.ensures ∙ ap₂ (λ t v. splice 0 (count_bytes t c.args.n) v) c.table_of-table.ensures (c.put_row.ensures ∙ ap
    (λ v. put_in (table_of c.args.id) (number_of c.args.id) v c.args.store.now) (c.part_of.ensures ∙ ap (λ n. part 0 n
    c.args.saved.now) (c.row_width.ensures ∙ ap row_width c.table_of-table.ensures)))
