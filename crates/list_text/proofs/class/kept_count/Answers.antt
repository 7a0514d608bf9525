use mathlib.Core.List.{List}
use mathlib.Core.Path.{ap, ◌∙◌}
use Prim.Native.Nat.{ℕ}
use native.Mathlib.Omega.{arith}
use lib.ListN.{length}
use Rattle.prelude.specs.Part.{part}
use Rattle.prelude.specs.PartLaws.{part_short}
use Rattle.sets.specs.Sets.{member_count}
use Rattle.schema.specs.Layout.{attribute_set}
use Rattle.schema.specs.StoreLaws.{closure_wide}
use Rattle.list_text.specs.Listing.{kept_count}
use Rattle.list_text.proofs.class.kept_count.Goals as goal

pub part_of-requires : goal.part_of-requires
part_of-requires c =
    omega
    (arith, c.requires.2, closure_wide c.args.closure.now _ c.args.c.0 c.requires.0 c.requires.1 c.closure_row.ensures)

pub count-requires : goal.count-requires
count-requires c =
    omega (arith, ap length c.part_of.ensures, (part_short c.args.at attribute_set c.closure_row.result.now).0)

pub returns : goal.returns
unfolding kept_count
returns c =
    c.count.ensures ∙ ap member_count c.part_of.ensures ∙ ap (λ (r : List ℕ). member_count (part c.args.at attribute_set r))
    c.closure_row.ensures
