-- Tables with the same rows are written as the same sheet.
use Rattle.std.specs.Prelude.{List, ◌++◌, ◌≡◌, ℕ}
use Rattle.std.proofs.Common.{ap, ap₂, ◌∙◌}
use Rattle.prelude.specs.Concat.{concat_below}
use Rattle.prelude.specs.ConcatLaws.{concat_same}
use Rattle.schema.specs.declared.number.TableId.{TableId}
use Rattle.schema.specs.declared.number.TableId.TheVariants.{Attributes, Classes}
use Rattle.schema.specs.Store.{Table, Schema}
use Rattle.tables.specs.Same.{Same, SameRows}
use Rattle.sheet_write.specs.Writing.{heading, row_field, row_fields, sheet_bytes}

fields_same : (t : TableId) {x y : Table} → Same x y → row_fields t x ≡ row_fields t y
unfolding row_fields
fields_same t {x} {y} s =
    concat_same x.count _ _ (λ k l. ap (row_field t) (s.rows k l)) ∙ ap (λ (n : ℕ). concat_below n (λ k. row_field t (y.row k))) s.count

pub sheet_same : {m n : Schema} → SameRows m n → sheet_bytes m ≡ sheet_bytes n
unfolding sheet_bytes
sheet_same s = ap₂ (λ (x y : List ℕ). heading ++ (x ++ y)) (fields_same Attributes (s Attributes)) (fields_same Classes (s Classes))
