use Rattle.schema.specs.Numbers.{table_of, number_of}
use Rattle.rules_unique.proofs.UniqueLaws.{row_keyed}
use Rattle.rules_unique.proofs.is_rival.Goals as goal

pub same_key-requires : goal.same_key-requires
same_key-requires c =
    let other = c.args.other in
    (c.requires.1, rw c.row.ensures (row_keyed (table_of other) c.args.store.now c.requires.0 (number_of other) c.requires.2))
