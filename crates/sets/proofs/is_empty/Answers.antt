use mathlib.Core.Path.{◌∙◌}
use Rattle.sets.proofs.Bytes.{zero_empty}
use Rattle.sets.proofs.is_empty.Goals as goal

pub returns : goal.returns
returns c =
    c.is_zero.ensures ∙ zero_empty c.args.s.now (λ i. (c.shared_slice_known-1.given i).fits)
