use Rattle.prelude.specs.Part.{part}
use mathlib.Core.Path.{ap, ◌∙◌}
use Prim.Native.Nat.{ℕ}
use Rattle.change_read.proofs.carried.added_row.Goals as goal

pub returns : goal.returns
returns c =
    c.part_of.ensures ∙ ap (λ (n : ℕ). part 0 n c.args.row.now)
    c.row_width.ensures
