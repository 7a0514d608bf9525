use native.Mathlib.Omega.{arith}
use mathlib.Core.Path.{◌∙◌}
use Rattle.schema.specs.Store.{table_in}
use Rattle.schema.specs.StoreLaws.{table_row_wide}
use Rattle.schema.specs.declared.number.TableId.TheVariants.{Classes}
use Rattle.graph.specs.DepthLaws.{depth_top}
use Rattle.graph.proofs.Chain.{chain_beyond, chain_late, super_small, chain_stopped, chain_on, chain_small}
use Rattle.graph.proofs.depth.+depth_of.Goals as goal

pub returns-then-c-eq0 : goal.returns-then-c-eq0
returns-then-c-eq0 t c =
    depth_top (table_in Classes c.args.classes.now) c.args.c.0 c.if-c-eq0.true

pub superclass-requires : goal.superclass-requires
superclass-requires t c =
    table_row_wide Classes c.args.classes.now _ c.args.c.0 c.requires.0 (omega arith) c.class_row.ensures

pub returns-in_err-up : goal.returns-in_err-up
returns-in_err-up t c =
    let t0 = table_in Classes c.args.classes.now in c.from_residual.ensures ∙ chain_beyond t0 c.args.c.0 _ _ c.class_row.ensures
    c.superclass.ensures c.if-c-eq0.false (omega arith) c.in_err-up.was

pub returns-then-c-up : goal.returns-then-c-up
returns-then-c-up t c =
    let t0 = table_in Classes c.args.classes.now in chain_late t0 c.args.c.0 _ _ c.class_row.ensures
    c.superclass.ensures c.in_ok-up.up c.in_ok-up.was c.if-c-eq0.false c.if-c-up.true

pub depth_of-requires : goal.depth_of-requires
depth_of-requires t c =
    let t0 = table_in Classes c.args.classes.now in (
      omega (arith, c.decreases),
      (
        c.requires.0,
        super_small t0 c.args.c.0 _ _ c.class_row.ensures c.superclass.ensures c.in_ok-up.up
            c.in_ok-up.was,
      ),
    )

pub returns-in_err-steps : goal.returns-in_err-steps
returns-in_err-steps t c =
    let t0 = table_in Classes c.args.classes.now in c.from_residual-in_err-steps.ensures ∙ chain_stopped t0 c.args.c.0 _ _ c.class_row.ensures
    c.superclass.ensures c.in_ok-up.up c.in_ok-up.was (omega arith) _ c.depth_of.ensures c.in_err-steps.was

pub overflow_add-result : goal.overflow_add-result
overflow_add-result t c =
    let t0 = table_in Classes c.args.classes.now in let small = chain_small t0 c.args.c.0 _ _ c.class_row.ensures
    c.superclass.ensures c.in_ok-up.up c.in_ok-up.was (omega arith) _ c.depth_of.ensures c.in_ok-steps.steps
    c.in_ok-steps.was in let low = super_small t0 c.args.c.0 _ _ c.class_row.ensures c.superclass.ensures c.in_ok-up.up
    c.in_ok-up.was in omega (arith, small, low)

pub returns : goal.returns
returns t c =
    let t0 = table_in Classes c.args.classes.now in chain_on t0 c.args.c.0 _ _ c.class_row.ensures
    c.superclass.ensures c.in_ok-up.up c.in_ok-up.was (omega arith) _ c.depth_of.ensures _ c.in_ok-steps.was
