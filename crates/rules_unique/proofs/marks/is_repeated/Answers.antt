use Rattle.rules_unique.proofs.UniqueLaws.{schema_keyed}
use Rattle.schema.specs.Numbers.{table_of, number_of}
use Rattle.rules_unique.proofs.marks.is_repeated.Goals as goal

pub is_met-requires : goal.is_met-requires
is_met-requires c =
    rw c.schema_row.ensures (schema_keyed c.requires.0 (table_of c.args.id) (number_of c.args.id) c.requires.1)
