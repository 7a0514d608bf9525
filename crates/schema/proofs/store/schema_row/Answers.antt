use Rattle.schema.proofs.store.schema_row.Goals as goal

pub attribute_row-requires : goal.attribute_row-requires
attribute_row-requires c =
    (c.requires.0, rw c.in-Attribute.is at c.requires.2)

pub class_row-requires : goal.class_row-requires
class_row-requires c =
    (c.requires.1, rw c.in-Class.is at c.requires.2)

pub returns-in-Attribute : goal.returns-in-Attribute
returns-in-Attribute c =
    rw c.in-Attribute.is c.attribute_row.ensures

pub returns-in-Class : goal.returns-in-Class
returns-in-Class c =
    rw c.in-Class.is c.class_row.ensures
