use native.Mathlib.Omega.{arith}
use Rattle.rules_class.proofs.live.names_none.Goals as goal

pub names_no_attribute-requires : goal.names_no_attribute-requires
names_no_attribute-requires c =
    (c.requires.0, omega (arith, rw c.in-Attributes.is at c.requires.1))

pub names_no_class-requires : goal.names_no_class-requires
names_no_class-requires c =
    (c.requires.0, omega (arith, rw c.in-Classes.is at c.requires.1))

pub returns-in-Attributes : goal.returns-in-Attributes
returns-in-Attributes c =
    rw c.in-Attributes.is c.names_no_attribute.ensures

pub returns-in-Classes : goal.returns-in-Classes
returns-in-Classes c =
    rw c.in-Classes.is c.names_no_class.ensures
