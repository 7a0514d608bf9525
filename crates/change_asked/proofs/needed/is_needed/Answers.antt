use native.Mathlib.Omega.{arith}
use mathlib.Core.Path.{◌∙◌, sym}
use Rattle.change_asked.proofs.Asking.{attribute_there, needed_by_class}
use Rattle.schema.specs.Store.{schema_in}
use Rattle.tables.specs.ShapedLaws.{table_wide}
use Rattle.change_asked.specs.Needed.{needed}
use Rattle.change_asked.proofs.needed.is_needed.Goals as goal

pub returns-then-some_class_needs : goal.returns-then-some_class_needs
returns-then-some_class_needs c =
    c.if-some_class_needs.true ∙ needed_by_class c.args.id (schema_in c.args.attributes.now c.args.classes.now) (sym c.some_class_needs.ensures
    ∙ c.if-some_class_needs.true)

pub some_link_needs-requires : goal.some_link_needs-requires
some_link_needs-requires c = (
  c.requires.0.attributes,
  omega (
    arith,
    table_wide c.requires.0.attributes c.attribute_row.ensures
        (attribute_there c.args.attributes.now c.args.classes.now c.in-Attribute.is c.requires.1),
  ),
)

pub returns-in-Attribute : goal.returns-in-Attribute
unfolding needed
returns-in-Attribute c =
    rw (c.in-Attribute.is, rw c.in-Attribute.is at (sym c.some_class_needs.ensures ∙ c.if-some_class_needs.false)) (rw c.attribute_row.ensures at
    c.some_link_needs.ensures)

pub returns-in-Class : goal.returns-in-Class
unfolding needed
returns-in-Class c =
    rw (c.in-Class.is, rw c.in-Class.is at (sym c.some_class_needs.ensures ∙ c.if-some_class_needs.false))
