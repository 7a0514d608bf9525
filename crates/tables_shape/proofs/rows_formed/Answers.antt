use Rattle.std.proofs.Common.{rules}
use Rattle.prelude.proofs.Ranges.{all_in_range}
use Rattle.schema.specs.Store.{table_in}
use Rattle.rows_read.specs.WellFormed.{well_formed}
use Rattle.tables_shape.proofs.rows_formed.Goals as goal

pub returns : goal.returns
returns c =
    all_in_range c.args.n (λ k. well_formed c.args.table ((table_in c.args.table c.args.store.now).row k)) _ _ _ c.all.ensures.ran (λ k b q h. search rules)
