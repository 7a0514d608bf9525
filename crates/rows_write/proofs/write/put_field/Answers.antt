use mathlib.Core.Path.{ap, ◌∙◌}
use Prim.Native.Nat.{ℕ}
use native.Mathlib.Omega.{arith}
use Rattle.prelude.specs.Part.{splice}
use Rattle.wire.specs.Wire.{header_bytes}
use Rattle.wire.specs.WireLaws.{field_length}
use Rattle.rows_format.specs.Encodings.{stored}
use Rattle.rows_write.proofs.Writing.{holding_short, field_put}
use Rattle.rows_write.proofs.write.put_field.Goals as goal

pub overflow_cast-n : goal.overflow_cast-n
overflow_cast-n c =
    let encoding = c.args.encoding in
    let cell = c.args.cell.now in
    let s = holding_short encoding cell (c.requires.0, c.requires.1, c.requires.2) in let l = field_length c.args.tag
    (stored encoding cell) in omega (arith, s, c.value_length-n.ensures)

pub write_header-requires : goal.write_header-requires
write_header-requires c =
    let encoding = c.args.encoding in
    let cell = c.args.cell.now in
    let s = holding_short encoding cell (c.requires.0, c.requires.1, c.requires.2) in let l = field_length c.args.tag
    (stored encoding cell) in omega (arith, l, c.requires.3)

pub write_value-requires : goal.write_value-requires
write_value-requires c =
    let encoding = c.args.encoding in
    let cell = c.args.cell.now in
    let s = holding_short encoding cell (c.requires.0, c.requires.1, c.requires.2) in let l = field_length c.args.tag
    (stored encoding cell) in (c.requires.0, c.requires.1, c.requires.2, omega (arith, l, c.requires.3, c.write_header.auto.d))

pub overflow_add-result : goal.overflow_add-result
overflow_add-result c =
    let encoding = c.args.encoding in
    let cell = c.args.cell.now in
    let s = holding_short encoding cell (c.requires.0, c.requires.1, c.requires.2) in let l = field_length c.args.tag
    (stored encoding cell) in omega (arith, l, c.requires.3, c.value_length-n.ensures)

pub returns : goal.returns
returns c =
    let encoding = c.args.encoding in
    let cell = c.args.cell.now in
    let tag = c.args.tag in
    let at = c.args.at in
    let out = c.args.out.now in
    let s = holding_short encoding cell (c.requires.0, c.requires.1, c.requires.2) in let l = field_length tag (stored encoding cell) in (
      omega (arith, l, c.value_length-n.ensures),
      field_put at tag (stored encoding cell) out c.write_header.new.d _
          (omega (arith, l, c.requires.3)) (c.write_header.ensures ∙ ap (λ (n : ℕ). splice at (header_bytes tag n) out) c.value_length-n.ensures)
          c.write_value.ensures,
    )
