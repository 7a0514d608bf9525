use Rattle.sheet_write.proofs.Rows.{sheet_put, sheet_size, heading_length}
use Rattle.prelude.specs.WrittenLaws.{written_length}
use Rattle.schema.specs.Store.{schema_in}
use native.Mathlib.Omega.{arith}
use Rattle.sheet_write.proofs.write_sheet.Goals as goal

pub put_heading-first-requires : goal.put_heading-first-requires
put_heading-first-requires c =
    omega
    (arith, c.requires.2, sheet_size (schema_in c.args.attributes.now c.args.classes.now), heading_length)

pub put_row_fields-next-requires : goal.put_row_fields-next-requires
put_row_fields-next-requires c =
    let m = schema_in c.args.attributes.now
    c.args.classes.now in let p = written_length (omega (arith, c.requires.2, sheet_size m, heading_length)) c.put_heading-first.ensures in
    (c.requires.0, omega (arith, c.requires.2, sheet_size m, heading_length, c.put_heading-first.ensures.place, p))

pub put_row_fields-requires : goal.put_row_fields-requires
put_row_fields-requires c =
    let
    m = schema_in c.args.attributes.now c.args.classes.now in let p = written_length
    (omega (arith, c.requires.2, sheet_size m, heading_length)) c.put_heading-first.ensures in let q = written_length
    (omega (arith, c.requires.2, sheet_size m, heading_length, c.put_heading-first.ensures.place, p)) c.put_row_fields-next.ensures in (
      c.requires.1,
      omega
          (arith, c.requires.2, sheet_size m, heading_length, c.put_heading-first.ensures.place, c.put_row_fields-next.ensures.place, p, q),
    )

pub returns : goal.returns
returns c =
    sheet_put (schema_in c.args.attributes.now c.args.classes.now)
    c.put_heading-first.result c.put_row_fields-next.result _ c.args.out.now _ _ _ c.requires.2 c.put_heading-first.ensures
    c.put_row_fields-next.ensures c.put_row_fields.ensures
