use Rattle.schema.proofs.row.identifier.Goals as goal

pub returns : goal.returns
returns c =
    cc
