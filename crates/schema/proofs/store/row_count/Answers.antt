use Rattle.schema.proofs.store.row_count.Goals as goal

pub returns-in-Attributes : goal.returns-in-Attributes
returns-in-Attributes c =
    rw c.in-Attributes.is c.read_u16.ensures

pub returns-in-Classes : goal.returns-in-Classes
returns-in-Classes c =
    rw c.in-Classes.is c.byte_at.ensures
