use lib.ListN.{length}
use Prim.Native.Nat.{◌≤◌}
use mathlib.Core.Path.{◌∙◌, ap, subst, sym}
use Rattle.schema.specs.declared.number.TableId.TheVariants.{Attributes, Classes}
use Rattle.schema.specs.Numbers.{number_of, table_of}
use Rattle.schema.specs.Layout.{row_width, store_length}
use Rattle.schema.specs.Store.{store_of, stores}
use Rattle.keeper_change.specs.MadeLaws.{back_in}
use Rattle.prelude.specs.Part.{part}
use Rattle.change_rows.specs.Stores.{restored}
use Rattle.keeper_change.proofs.rows.undo.Goals as goal

pub restore-requires : goal.restore-requires
restore-requires c = (
  subst (λ x. store_length (table_of c.args.before.id) ≤ length x) (ap (λ t. store_of t c.args.attributes.now
      c.args.classes.now) (sym c.table_of.ensures ∙ c.in-Attributes.is)) c.requires.long,
  c.requires.within,
  c.requires.few,
  c.requires.wide,
)

pub restore-requires-in-Classes : goal.restore-requires-in-Classes
restore-requires-in-Classes c = (
  subst (λ x. store_length (table_of c.args.before.id) ≤ length x) (ap (λ t. store_of t c.args.attributes.now
      c.args.classes.now) (sym c.table_of.ensures ∙ c.in-Classes.is)) c.requires.long,
  c.requires.within,
  c.requires.few,
  c.requires.wide,
)

pub returns-in-Attributes : goal.returns-in-Attributes
returns-in-Attributes c =
    λ k. ap (λ x. stores x c.args.classes.now k) (c.restore.ensures ∙ ap (λ t. restored t (number_of c.args.before.id)
    c.args.before.count (part 0 (row_width t) c.args.before.row) c.args.attributes.now) (sym
    c.table_of.ensures ∙ c.in-Attributes.is)) ∙ back_in Attributes c.args.before (stores c.args.attributes.now
    c.args.classes.now k) (sym c.table_of.ensures ∙ c.in-Attributes.is)

pub returns-in-Classes : goal.returns-in-Classes
returns-in-Classes c =
    λ k. ap (λ x. stores c.args.attributes.now x k) (c.restore-in-Classes.ensures ∙ ap (λ t. restored t (number_of c.args.before.id)
    c.args.before.count (part 0 (row_width t) c.args.before.row) c.args.classes.now) (sym c.table_of.ensures
    ∙ c.in-Classes.is)) ∙ back_in Classes c.args.before (stores c.args.attributes.now
    c.args.classes.now k) (sym c.table_of.ensures ∙ c.in-Classes.is)
