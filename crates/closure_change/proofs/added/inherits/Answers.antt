use mathlib.Core.Path.{sym, ◌∙◌}
use Rattle.schema.specs.declared.number.TableId.TheVariants.{Classes}
use Rattle.schema.specs.StoreLaws.{table_row_wide}
use Rattle.graph.specs.Graph.{inherits}
use Rattle.closure_change.proofs.added.inherits.Goals as goal

pub is_superclass-requires : goal.is_superclass-requires
is_superclass-requires c = (
  table_row_wide Classes c.args.classes.now _ c.args.n.0 c.requires.0.long c.requires.1 c.class_row-row.ensures,
  c.requires.2,
)

pub returns-then-is_superclass : goal.returns-then-is_superclass
unfolding inherits
returns-then-is_superclass c =
    rw (← c.class_row-row.ensures, sym c.is_superclass.ensures ∙ c.if-is_superclass.true) c.if-is_superclass.true

pub is_listed-requires : goal.is_listed-requires
is_listed-requires c =
    table_row_wide Classes c.args.classes.now _ c.args.n.0 c.requires.0.long c.requires.1 c.class_row-row.ensures

pub returns-else-is_superclass : goal.returns-else-is_superclass
unfolding inherits
returns-else-is_superclass c =
    rw (← c.class_row-row.ensures, sym c.is_superclass.ensures ∙ c.if-is_superclass.false) c.is_listed.ensures
