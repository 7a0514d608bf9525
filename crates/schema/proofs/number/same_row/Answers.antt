use Rattle.schema.specs.Numbers.{same_table, same_row, table_of, number_of}
use Rattle.schema.specs.declared.number.RowId.{RowId}
use Rattle.schema.specs.declared.number.RowId.TheVariants.{Attribute, Class}
use Rattle.std.proofs.Common.{◌≡◌, refl}
use Rattle.schema.proofs.number.same_row.Goals as goal

pub returns : goal.returns
unfolding same_table same_row
returns c = go c.args.a c.args.b refl refl
  where
    go : (a b : RowId) → c.args.a ≡ a → c.args.b ≡ b → c.eq.result ≡ same_row (table_of c.args.a) (number_of c.args.a) (table_of c.args.b) (number_of c.args.b)
    go (Attribute a) (Attribute b) p q = rw (p, q) (rw (p, q) at c.eq.ensures)
    go (Attribute a) (Class b) p q = rw (p, q) (rw (p, q) at c.eq.ensures)
    go (Class a) (Attribute b) p q = rw (p, q) (rw (p, q) at c.eq.ensures)
    go (Class a) (Class b) p q = rw (p, q) (rw (p, q) at c.eq.ensures)
