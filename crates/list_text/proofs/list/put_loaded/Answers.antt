use Rattle.std.proofs.Common.{sym, ◌∙◌, arith}
use Rattle.prelude.specs.Part.{zeros}
use Rattle.list_text.proofs.Loaded.{loaded_listing, loaded_refused, loaded_shaped}
use Rattle.list_text.proofs.list.put_loaded.Goals as goal

pub put_listing-requires : goal.put_listing-requires
unfolding zeros
put_listing-requires c =
    let s = loaded_shaped c.args.sheet.now c.load-answer.ensures (λ i. omega (arith, c.type_inv.sheet i)) c.if-answer-eq-DONE.true in
    (s.0, s.1, c.requires)

pub returns-then-answer-eq-DONE : goal.returns-then-answer-eq-DONE
unfolding zeros
returns-then-answer-eq-DONE c =
    c.put_listing.ensures ∙ sym (loaded_listing c.args.sheet.now c.load-answer.ensures c.if-answer-eq-DONE.true)

pub returns-else-answer-eq-DONE : goal.returns-else-answer-eq-DONE
unfolding zeros
returns-else-answer-eq-DONE c =
    c.put_refused.ensures ∙ sym (loaded_refused c.args.sheet.now c.load-answer.ensures c.if-answer-eq-DONE.false)
