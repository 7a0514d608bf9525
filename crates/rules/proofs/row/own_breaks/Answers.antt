use Rattle.rules.proofs.row.own_breaks.Goals as goal

pub attribute_breaks-requires : goal.attribute_breaks-requires
attribute_breaks-requires c =
    (c.requires.0, rw c.in-Attribute.is at c.requires.1, c.requires.2)

pub class_breaks-requires : goal.class_breaks-requires
class_breaks-requires c =
    (c.requires.0, rw c.in-Class.is at c.requires.1, c.requires.2)

pub returns-in-Attribute : goal.returns-in-Attribute
returns-in-Attribute c =
    rw c.in-Attribute.is c.attribute_breaks.ensures

pub returns-in-Class : goal.returns-in-Class
returns-in-Class c =
    rw c.in-Class.is c.class_breaks.ensures
