use Rattle.std.specs.Prelude.{Err}
use Rattle.std.proofs.lemmas.Result.{err_from_is_err_and}
use Rattle.prelude.specs.Part.{splice, zeros}
use Rattle.sheet_read.proofs.Steps.{held_few}
use Rattle.sheet_read.proofs.Walk.{left_emptied, reading_before, reading_begun, reading_end, reading_forward, reading_on, reading_over}
use Rattle.sheet_read.proofs.Walk.{reading_stop}
use mathlib.Core.Bool.{true, false}
use mathlib.Core.Path.{refl, ap, ◌∙◌}
use native.Mathlib.Omega.{arith}
use Rattle.sheet_read.proofs.read.read_sheet.Goals as goal

pub empty-requires : goal.empty-requires
empty-requires c =
    omega (arith, c.store_length.ensures, c.requires.attributes)

pub empty-requires-2 : goal.empty-requires-2
empty-requires-2 c =
    omega (arith, c.store_length-2.ensures, c.requires.classes)

pub loop-attributes-init : goal.loop-attributes-init
loop-attributes-init c = (
  reading_begun c.args.s.now c.args.attributes.now c.args.classes.now _ _ c.requires
      (c.empty.ensures ∙ ap (λ n. splice 0 (zeros n) c.args.attributes.now) c.store_length.ensures)
      (c.empty-2.ensures ∙ ap (λ n. splice 0 (zeros n) c.args.classes.now) c.store_length-2.ensures),
  refl,
  refl,
)

pub take_field-requires : goal.take_field-requires
take_field-requires c = (
  (reading_before c.loop-attributes.invariant.0 _ c.ends_at.ensures c.loop-attributes-test.true-raw),
  record {
    lent = c.loop-attributes.invariant.0.lent;
    few = held_few
        c.loop-attributes.invariant.0.held;
  },
)

pub returns-in_err-progress : goal.returns-in_err-progress
returns-in_err-progress c =
    let p = err_from_is_err_and c.from_residual.result c.from_residual.ensures.1 in
    let attributes = c.args.attributes.now in
    let classes = c.args.classes.now in
    left_emptied c.args.s.now attributes classes _ _ c.requires (c.empty.ensures ∙ ap (λ n. splice 0 (zeros n) attributes)
    c.store_length.ensures) (c.empty-2.ensures ∙ ap (λ n. splice 0 (zeros n) classes) c.store_length-2.ensures)
    (λ i. (c.shared_slice_known-1.given i).fits)
    (reading_stop c.loop-attributes.invariant.0 (reading_before c.loop-attributes.invariant.0 _ c.ends_at.ensures c.loop-attributes-test.true-raw) _ _ _
    c.take_field.ensures _ c.in_err-progress.was _ (p.1 ∙ ap Err p.2))

pub loop-attributes-smaller : goal.loop-attributes-smaller
loop-attributes-smaller c =
    let f = reading_forward c.loop-attributes.invariant.0 (reading_before c.loop-attributes.invariant.0 _ c.ends_at.ensures c.loop-attributes-test.true-raw) _ _ _ c.take_field.ensures
    _ c.in_ok-progress.was in
    omega (arith, f.0, f.1, (reading_before c.loop-attributes.invariant.0 _ c.ends_at.ensures c.loop-attributes-test.true-raw))

pub loop-attributes-preserved : goal.loop-attributes-preserved
loop-attributes-preserved c = (
  reading_on c.loop-attributes.invariant.0 (reading_before c.loop-attributes.invariant.0 _ c.ends_at.ensures c.loop-attributes-test.true-raw) _ _ _ c.take_field.ensures _
      c.in_ok-progress.was c.take_field.auto.attributes c.take_field.auto.classes,
  c.take_field.auto.attributes ∙ c.loop-attributes.invariant.1,
  c.take_field.auto.classes ∙ c.loop-attributes.invariant.2,
)

pub returns-then-progress : goal.returns-then-progress
returns-then-progress c =
    let attributes = c.args.attributes.now in
    let classes = c.args.classes.now in
    left_emptied c.args.s.now attributes classes _ _ c.requires (c.empty.ensures ∙ ap (λ n. splice 0 (zeros n) attributes)
    c.store_length.ensures) (c.empty-2.ensures ∙ ap (λ n. splice 0 (zeros n) classes) c.store_length-2.ensures)
    (λ i. (c.shared_slice_known-1.given i).fits) (reading_end c.loop-attributes.invariant.0 true c.if-progress.true
    (reading_over c.loop-attributes.invariant.0 _ c.ends_at.ensures c.loop-attributes-test.false-raw))

pub returns : goal.returns
returns c =
    let attributes = c.args.attributes.now in
    let classes = c.args.classes.now in
    left_emptied c.args.s.now attributes classes _ _ c.requires (c.empty.ensures ∙ ap (λ n. splice 0 (zeros n) attributes)
    c.store_length.ensures) (c.empty-2.ensures ∙ ap (λ n. splice 0 (zeros n) classes) c.store_length-2.ensures)
    (λ i. (c.shared_slice_known-1.given i).fits) (reading_end c.loop-attributes.invariant.0 false c.if-progress.false
    (reading_over c.loop-attributes.invariant.0 _ c.ends_at.ensures c.loop-attributes-test.false-raw))
