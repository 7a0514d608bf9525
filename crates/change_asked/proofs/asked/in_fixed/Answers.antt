use Rattle.std.proofs.Common.{rules}
use mathlib.Core.Path.{◌≡◌, ◌∙◌, ap, ap₂}
use Rattle.prelude.specs.Part.{part}
use Rattle.sets.specs.Sets.{member}
use Rattle.schema.specs.Numbers.{number_of}
use Rattle.change_read.specs.Carried.{list_of}
use Rattle.change_rows.specs.Lists.{fixed_at, fixed_of}
use Rattle.change_asked.proofs.Asking.{entry_held}
use Rattle.change_asked.proofs.asked.in_fixed.Goals as goal

pub returns : goal.returns
returns c =
    let r = c.args.scratch.now in
    let row = c.args.row.now in
    let held = c.part_of-held.ensures ∙ ap₂ (λ a w. part a w row) c.fixed_at.ensures c.list_width.ensures ∙ ap (λ l. fixed_of l row) c.list_of-list.ensures in
    entry_held r (fixed_at (list_of r)) row c.entry_read.result c.is_some_and.result _ c.entry_read.ensures c.is_some_and.ensures (λ id p.
    let has : c.is_some_and.result ≡ member c.part_of-held.result.now (number_of id) = search rules in has ∙ ap (λ s. member s (number_of id)) held)
