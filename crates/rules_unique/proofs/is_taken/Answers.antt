use Rattle.rules_unique.proofs.UniqueLaws.{schema_keyed}
use Rattle.schema.specs.Numbers.{table_of, number_of}
use Rattle.rules_unique.proofs.is_taken.Goals as goal

pub rival_in-requires : goal.rival_in-requires
rival_in-requires c =
    let id = c.args.id in
    (c.requires.0.attributes, rw c.schema_row-own.ensures (schema_keyed c.requires.0 (table_of id) (number_of id) c.requires.1))

pub rival_in-requires-else-rival_in : goal.rival_in-requires-else-rival_in
rival_in-requires-else-rival_in c =
    let id = c.args.id in
    (c.requires.0.classes, rw c.schema_row-own.ensures (schema_keyed c.requires.0 (table_of id) (number_of id) c.requires.1))
