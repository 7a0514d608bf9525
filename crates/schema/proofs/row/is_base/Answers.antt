use Rattle.schema.proofs.row.is_base.Goals as goal

pub returns : goal.returns
returns c =
    cc
