use Rattle.graph.proofs.Rows.{staged_again, staged_length, staged_more, staged_end, staged_over}
use Rattle.graph.specs.Stages.{passed_row}
use Rattle.schema.specs.Layout.{closure_length}
use Rattle.prelude.specs.Part.{splice}
use Rattle.prelude.specs.Concat.{concat_below}
use lib.ListN.{length}
use Prim.Native.Nat.{ℕ, ◌+◌, ◌≤◌}
use mathlib.Core.Path.{refl, ap, ◌∙◌}
use Rattle.schema.specs.declared.number.TableId.TheVariants.{Classes}
use Rattle.schema.specs.Store.{closure_at, table_in}
use native.Mathlib.Omega.{arith}
use Rattle.graph.proofs.closure.refresh_all.Goals as goal

pub write_firsts-requires : goal.write_firsts-requires
write_firsts-requires c =
    (c.requires.readable, c.requires.closure_length_in_bounds)

pub row_count-n-requires : goal.row_count-n-requires
row_count-n-requires c =
    c.requires.readable.long

pub loop-k-init : goal.loop-k-init
loop-k-init c = (
  refl,
  staged_again (table_in Classes c.args.classes.now) c.args.closure.now c.requires.closure_length_in_bounds 0
      c.write_firsts.new.closure c.write_firsts.ensures,
)

pub pass_on-requires : goal.pass_on-requires
pass_on-requires c = (
  omega (
    arith,
    c.requires.closure_length_in_bounds,
    c.loop-k.invariant.0,
    staged_length (table_in Classes c.args.classes.now) c.args.closure.now
        c.requires.closure_length_in_bounds 0 c.write_firsts.new.closure c.write_firsts.ensures,
  ),
  omega
      (arith, c.class_at.ensures, c.row_count-n.ensures, c.requires.readable.few),
  omega (arith, c.row_count-n.ensures, c.requires.readable.few),
)

pub loop-k-preserved : goal.loop-k-preserved
loop-k-preserved c =
    let long : closure_length ≤ length c.write_firsts.new.closure = (omega (
      arith,
      c.requires.closure_length_in_bounds,
      staged_length (table_in Classes
          c.args.classes.now) c.args.closure.now c.requires.closure_length_in_bounds 0 c.write_firsts.new.closure c.write_firsts.ensures,
    )) in
    let next = staged_more (table_in Classes c.args.classes.now) c.write_firsts.new.closure long c.requires.readable.few c.loop-k.k
    c.loop-k.closure _ (omega (arith, c.row_count-n.ensures)) c.loop-k.invariant.1
    (rw c.class_at.ensures at c.pass_on.ensures ∙ ap (λ (m : ℕ). splice 0
    (concat_below m (λ i. passed_row c.loop-k.k (closure_at c.loop-k.closure c.loop-k.k) (closure_at c.loop-k.closure i))) c.loop-k.closure)
    c.row_count-n.ensures) in (
      staged_length (table_in Classes c.args.classes.now) c.write_firsts.new.closure long
          (c.loop-k.k + 1) _ next,
      next,
    )

pub returns : goal.returns
returns c =
    staged_over (table_in Classes c.args.classes.now) c.args.closure.now c.requires.closure_length_in_bounds 0 c.write_firsts.new.closure _
    c.write_firsts.ensures (staged_end (table_in Classes c.args.classes.now) c.write_firsts.new.closure (omega (
      arith,
      c.requires.closure_length_in_bounds,
      staged_length (table_in Classes c.args.classes.now) c.args.closure.now c.requires.closure_length_in_bounds 0
          c.write_firsts.new.closure c.write_firsts.ensures,
    )) c.loop-k.k c.loop-k.closure (omega
    (arith, c.row_count-n.ensures)) c.loop-k.invariant.1)
