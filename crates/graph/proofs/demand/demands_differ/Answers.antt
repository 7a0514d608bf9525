use mathlib.Core.Bool.{not}
use borrow.Author.Rules.{rules}
use Rattle.schema.specs.declared.number.TableId.TheVariants.{Classes}
use Rattle.schema.specs.Store.{demanded_in, table_in}
use Rattle.prelude.specs.Part.{same_bytes}
use Rattle.prelude.proofs.Ranges.{any_in_range}
use Rattle.graph.specs.Graph.{demanded_set, demands_differ}
use Rattle.graph.proofs.demand.demands_differ.Goals as goal

pub returns : goal.returns
unfolding demands_differ
returns c =
    any_in_range c.args.n (λ k. not (same_bytes (demanded_in c.args.closure.now k) (demanded_set (table_in Classes c.args.classes.now) k)))
    _ _ _ c.any.ensures.ran (λ k b q h. search rules)
