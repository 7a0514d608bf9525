use mathlib.Core.List.{List}
use mathlib.Core.Path.{ap, ◌∙◌}
use Prim.Native.Nat.{ℕ}
use Rattle.sets.specs.Sets.{member, set_of}
use Rattle.schema.specs.Layout.{class_set}
use Rattle.schema.specs.Store.{table_in}
use Rattle.schema.specs.declared.number.TableId.TheVariants.{Classes}
use Rattle.graph.specs.Visit.{after_visit}
use Rattle.graph.proofs.Visit.{visited_none}
use Rattle.graph.proofs.reach.reached.Goals as goal

pub returns : goal.returns
returns c =
    let classes = c.args.classes.now in
    visited_none (table_in Classes classes) c.args.c.0 c.visit.result.bits
    (c.visit.ensures ∙ ap (λ (b : List ℕ). set_of class_set (after_visit (table_in Classes classes) (member b) c.args.c.0))
    c.none.ensures)
