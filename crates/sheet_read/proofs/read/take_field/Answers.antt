use Rattle.std.specs.Prelude.{Ok, Err}
use mathlib.Core.Path.{sym, ap, ◌∙◌}
use lib.ListN.{length}
use Rattle.std.proofs.lemmas.Result.{err_from_is_err_and}
use Rattle.wire.specs.WireLaws.{field_is}
use Rattle.reader.specs.ReaderLaws.{step_tag, step_field, step_next}
use Rattle.sheet_read.specs.Reading.{step, sheet_tag, take_tagged, take_field}
use Rattle.sheet_read.proofs.Steps.{as_step, same_step, step_full, step_whole, step_cut, step_end, free_room}
use native.Mathlib.Omega.{arith}
use Rattle.sheet_read.proofs.read.take_field.Goals as goal

pub returns-in_err-room_in : goal.returns-in_err-room_in
returns-in_err-room_in c =
    let s = c.args.s.now in
    let at = c.args.progress.at in
    let phase = c.args.progress.phase in
    let missing = c.args.progress.missing in
    let tag = c.sheet_tag-tag.ensures ∙ ap sheet_tag (step_tag s at _ c.step_at-step.ensures) in
    let p = err_from_is_err_and c.from_residual.result c.from_residual.ensures.1 in
    as_step (take_field s at phase missing) _ c.args.attributes.now c.args.classes.now (λ x a c' h. ap (λ turn. step turn x)
    (p.1 ∙ ap Err p.2) ∙ step_full s at phase missing h _ tag _ c.room_in.ensures _ c.in_err-room_in.was)

pub returns-in_err-field : goal.returns-in_err-field
returns-in_err-field c =
    let s = c.args.s.now in
    let at = c.args.progress.at in
    let phase = c.args.progress.phase in
    let missing = c.args.progress.missing in
    let tag = c.sheet_tag-tag.ensures ∙ ap sheet_tag (step_tag s at _ c.step_at-step.ensures) in
    let p = err_from_is_err_and c.from_residual-in_err-field.result c.from_residual-in_err-field.ensures.1 in
    as_step (take_field s at phase missing) _ c.args.attributes.now c.args.classes.now (λ x a c' h. ap (λ turn. step turn x)
    (p.1 ∙ ap Err p.2) ∙ step_cut s at phase missing h _ tag _
    c.room_in.ensures c.in_ok-room_in.was _ _ (step_field s at _ c.step_at-step.ensures) c.in_err-field.was)

pub returns-in_default : goal.returns-in_default
returns-in_default c =
    let s = c.args.s.now in
    let at = c.args.progress.at in
    let phase = c.args.progress.phase in
    let missing = c.args.progress.missing in
    let tag = c.sheet_tag-tag.ensures ∙ ap sheet_tag (step_tag s at _ c.step_at-step.ensures) in
    as_step (take_field s at phase missing) _ c.args.attributes.now c.args.classes.now (λ x a c' h. step_end s at phase missing h _ tag _
    c.room_in.ensures c.in_ok-room_in.was _ (step_field s at _ c.step_at-step.ensures) (c.in_ok-field.was ∙ ap Ok c.in_default.is))

pub take_tagged-requires : goal.take_tagged-requires
take_tagged-requires c =
    let s = c.args.s.now in
    let at = c.args.progress.at in
    let attributes = c.args.attributes.now in
    let classes = c.args.classes.now in
    let met = c.step_at-step.ensures in
    let is = c.in_ok-field.was ∙ ap Ok c.in-Some.is in
    let w = field_is s at (length s) _ _ _ (sym (step_field s at _ met) ∙ is) in
    let next = step_next s at _ met _ _ _ is in record {
      start_le_stop = (omega (arith, w.start_is, w.stop_is, next), omega (arith, w.within, next));
      lent = (c.requires.1.lent, free_room _ attributes classes c.requires.1.few (sym c.room_in.ensures ∙ c.in_ok-room_in.was));
    }

pub returns : goal.returns
returns c =
    let s = c.args.s.now in
    let at = c.args.progress.at in
    let phase = c.args.progress.phase in
    let missing = c.args.progress.missing in
    let met = c.step_at-step.ensures in
    let field = c.in-Some.field in
    let is = c.in_ok-field.was ∙ ap Ok c.in-Some.is in
    let w = field_is s at (length s) _ _ _ (sym (step_field s at _ met) ∙ is) in
    let next = step_next s at _ met _ _ _ is in
    let tag = c.sheet_tag-tag.ensures ∙ ap sheet_tag (step_tag s at _ met) in
    same_step (take_tagged c.sheet_tag-tag.result s at phase missing field.start c.step_at-step.result.next)
    (take_field s at phase missing) (λ x a c' h. ap (λ t. take_tagged t s at phase missing field.start c.step_at-step.result.next x)
    (tag ∙ ap sheet_tag (sym w.tag_is)) ∙ ap (λ stop. take_tagged (sheet_tag field.tag) s at phase missing field.start stop x) next
    ∙ step_whole s at phase missing h _ tag _ c.room_in.ensures c.in_ok-room_in.was _ _ _ _ (step_field s at _ met) is)
    c.take_tagged.ensures
