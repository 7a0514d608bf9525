use native.Mathlib.Omega.{arith}
use mathlib.Core.Path.{◌∙◌, ap₂}
use Rattle.schema.specs.Numbers.{number_of, table_of}
use Rattle.schema.specs.LayoutLaws.{narrow_row}
use Rattle.schema.specs.StoreLaws.{table_row_length}
use Rattle.prelude.specs.Part.{padded}
use Rattle.change_rows.proofs.apply.save_row.Goals as goal

pub copy_padded-requires : goal.copy_padded-requires
copy_padded-requires c =
    rw c.row.ensures (omega (
      arith,
      c.requires.2,
      narrow_row (table_of c.args.id),
      table_row_length (table_of c.args.id)
          c.args.store.now (number_of c.args.id) c.requires.0 c.requires.1,
    ))

pub returns : goal.returns
returns c =
    c.copy_padded.ensures ∙ ap₂ padded c.requires.2 c.row.ensures
