use Rattle.schema.proofs.row.flag.Goals as goal

pub returns : goal.returns
returns c =
    cc
