use Rattle.schema.specs.RefusedLaws.{number_some}
use mathlib.Core.Path.{ap, refl, sym, ◌∙◌}
use Rattle.schema.specs.NumbersLaws.{class_is, class_beyond}
use Rattle.schema.specs.Store.{stores, table_in}
use Rattle.schema.specs.declared.number.TableId.TheVariants.{Classes}
use Rattle.graph.specs.Depth.{depth_of, depth_answer}
use Rattle.keeper.specs.CheckedLaws.{in_shape, readable_classes}
use Rattle.keeper.specs.EndLaws.{depth_refused, depth_absent, depth_present}
use native.Mathlib.Omega.{arith}
use Rattle.keeper.proofs.depth.depth.Goals as goal

pub returns-in-Err : goal.returns-in-Err
returns-in-Err c =
    rw (c.refused.ensures, c.number.ensures) (depth_refused (stores c.args.attributes.now c.args.classes.now c.args.closure.now) c.args.class
    c.in-Err.ensures (number_some c.in-Err.refusal))

pub returns-in_default-new : goal.returns-in_default-new
returns-in_default-new c =
    let class = c.args.class in
    let attributes = c.args.attributes.now in
    let classes = c.args.classes.now in
    let closure = c.args.closure.now in
    let beyond = class_beyond class (sym c.new.ensures ∙ c.in_default-new.is) in
    rw (c.refused-in_default-new.ensures, c.number-in_default-new.ensures) (depth_absent (stores attributes classes closure) class c.in_default.ensures refl
    (omega (arith, beyond, (readable_classes (stores attributes classes closure) c.in_default.ensures refl).few)))

pub row_count-requires : goal.row_count-requires
row_count-requires c =
    (in_shape (stores c.args.attributes.now c.args.classes.now c.args.closure.now) c.in_default.ensures refl).long.classes

pub returns-then-c-row_count : goal.returns-then-c-row_count
returns-then-c-row_count c =
    let class = c.args.class in
    let w = class_is class _ (sym c.new.ensures ∙ c.in-Some.is) in
    rw (c.refused-then-c-row_count.ensures, c.number-then-c-row_count.ensures) (depth_absent (stores c.args.attributes.now c.args.classes.now c.args.closure.now) class
    c.in_default.ensures refl (omega (arith, w.0, c.if-c-row_count.true, c.row_count.ensures)))

pub depth_of-requires : goal.depth_of-requires
depth_of-requires c =
    let attributes = c.args.attributes.now in
    let classes = c.args.classes.now in
    let closure = c.args.closure.now in (
      (in_shape (stores attributes classes closure) c.in_default.ensures refl).long.classes,
      omega
          (arith, c.if-c-row_count.false, c.row_count.ensures, (readable_classes (stores attributes classes closure) c.in_default.ensures refl).few),
    )

pub returns-in-Some-depth_of : goal.returns-in-Some-depth_of
returns-in-Some-depth_of c =
    let class = c.args.class in
    let classes = c.args.classes.now in
    let w = class_is class _ (sym c.new.ensures ∙ c.in-Some.is) in
    c.done.ensures ∙ ap depth_answer (sym c.in-Some-depth_of.is ∙ c.depth_of.ensures ∙ ap (depth_of (table_in Classes classes)) (sym w.0)) ∙
    depth_present (stores c.args.attributes.now classes c.args.closure.now) class c.in_default.ensures refl
    (omega (arith, w.0, c.if-c-row_count.false, c.row_count.ensures))

pub returns-in-None : goal.returns-in-None
returns-in-None c =
    let class = c.args.class in
    let classes = c.args.classes.now in
    let w = class_is class _ (sym c.new.ensures ∙ c.in-Some.is) in
    rw (c.refused-in-None.ensures, c.number-in-None.ensures) (ap depth_answer (sym c.in-None.is ∙ c.depth_of.ensures ∙ ap (depth_of (table_in Classes classes)) (sym w.0)) ∙
    depth_present (stores c.args.attributes.now classes c.args.closure.now) class c.in_default.ensures refl
    (omega (arith, w.0, c.if-c-row_count.false, c.row_count.ensures)))
