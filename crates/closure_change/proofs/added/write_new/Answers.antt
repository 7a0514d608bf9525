use mathlib.Core.Path.{◌∙◌, ap, ap₂, refl}
use lib.ListN.{length}
use Rattle.schema.specs.StoreLaws.{table_row_length}
use Rattle.schema.specs.declared.number.TableId.TheVariants.{Classes}
use Rattle.sets.specs.Sets.{union}
use Rattle.prelude.specs.Part.{splice}
use Rattle.closure_change.specs.Kept.{own_row, with_new, new_row}
use Rattle.closure_change.proofs.added.write_new.Goals as goal

pub write_own-requires : goal.write_own-requires
write_own-requires c = (
  ap length c.class_row.ensures ∙ table_row_length Classes c.args.classes.now c.args.n.0 c.requires.0.long
      c.requires.2,
  refl,
)

pub returns : goal.returns
unfolding with_new new_row
returns c =
    c.put_bytes.ensures.bytes ∙ ap₂ (λ at row. splice at row c.args.closure.now) c.closure_start.ensures
    (c.join.ensures ∙ ap₂ union c.write_named.ensures (c.write_own.ensures ∙ ap (own_row c.args.n.0) c.class_row.ensures))
