use Rattle.schema.proofs.row.counted.Goals as goal

pub returns : goal.returns
returns c =
    cc
