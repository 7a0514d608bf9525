use Rattle.std.proofs.Common.{List, ◌∷◌, ◌∙◌, length, ap, arith, append-nil}
use Rattle.prelude.specs.Part.{padded}
use Rattle.schema.specs.ObjectClassesLaws.{first_short}
use Rattle.rows_format.specs.Encodings.{image}
use Rattle.rows_read.specs.ObjectClass.{object_class_cell}
use Rattle.rows_read.proofs.object_class.first_cell.Goals as goal
use Prim.Native.Nat.{ℕ}

pub overflow_cast-cell : goal.overflow_cast-cell
overflow_cast-cell c = omega (arith, first_short c.args.syntax, ap length c.first_object_class-first.ensures)

pub copy_padded-requires : goal.copy_padded-requires
copy_padded-requires c = omega (arith, first_short c.args.syntax, ap length c.first_object_class-first.ensures)

pub returns : goal.returns
unfolding object_class_cell image
returns c =
    let first = c.first_object_class-first.result.now in
    ap (λ (x : List ℕ). length first ∷ x) (append-nil c.copy_padded.new.d ∙ c.copy_padded.ensures)
    ∙ ap (λ (x : List ℕ). length x ∷ padded 16 x) c.first_object_class-first.ensures
