use Rattle.std.proofs.Common.{rules, ◌∙◌, length, le_refl}
use Rattle.std.proofs.lemmas.Iterator.{YieldsList-from_slice, YieldsList-from_map}
use Rattle.std.proofs.lemmas.Iterator.Consumers.{sum_by_from_yields_List}
use Rattle.std.proofs.Math.Seq.{take-length}
use Rattle.std.specs.Int.Count.{ones}
use Rattle.sets.specs.Sets.{member_count}
use Rattle.sets.proofs.Bytes.{counted}
use Rattle.sets.proofs.count.Goals as goal

pub returns : goal.returns
unfolding member_count
returns c =
    let s = c.args.s.now in
    sum_by_from_yields_List ones s c.map.result c.sum.result c.sum.ensures.ran
    (YieldsList-from_map _ ones (YieldsList-from_slice s (cc)) c.map.ensures.closure (λ x r q k. search rules))
    ∙ rw (take-length s) at (counted s (λ i. (c.type_inv.s i).fits) (length s) (le_refl (length s)))
