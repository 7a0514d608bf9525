use Rattle.schema.proofs.layout.store_length.Goals as goal

pub returns-in-Attributes : goal.returns-in-Attributes
returns-in-Attributes c =
    rw c.in-Attributes.is

pub returns-in-Classes : goal.returns-in-Classes
returns-in-Classes c =
    rw c.in-Classes.is
