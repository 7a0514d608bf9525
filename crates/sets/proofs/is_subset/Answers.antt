use Rattle.std.proofs.Common.{rules, ◌∙◌, length, get_or, eqb}
use Rattle.std.proofs.lemmas.Iterator.{YieldsList-from_slice, YieldsList-from_zip}
use Rattle.std.proofs.lemmas.Iterator.Search.{all_from_yields_List}
use lib.Bits.{bit_or}
use Rattle.prelude.proofs.Places.{all_zip_places}
use Rattle.prelude.specs.BelowLaws.{says_all}
use Rattle.prelude.specs.SaysLaws.{says_eq, says_iff, says_same}
use Rattle.sets.specs.SetsLaws.{says_subset}
use Rattle.sets.proofs.Bytes.{subset_byte, subset_bytes}
use Rattle.sets.proofs.is_subset.Goals as goal

pub returns : goal.returns
returns c =
    let a = c.args.a.now in
    let b = c.args.b.now in
    all_from_yields_List (λ q. eqb (bit_or q.0 q.1) q.1) c.all.new.self _ c.all.result c.all.ensures.ran
    (YieldsList-from_zip (YieldsList-from_slice a (cc)) (YieldsList-from_slice b (cc))) (λ x r q h. search rules)
    ∙ all_zip_places 0 0 (λ q. eqb (bit_or q.0 q.1) q.1) a b c.requires
    ∙ says_same (says_iff (says_all (length a) (λ i l. says_eq (bit_or (get_or a i 0) (get_or b i 0)) (get_or b i 0))) (subset_bytes a b, λ h i l. subset_byte a b i (c.type_inv.a i).fits (c.type_inv.b i).fits h))
    (says_subset a b)
