use Rattle.reader.specs.ReaderLaws.{step_ended}
use Rattle.reader.proofs.ends_at.Goals as goal

pub returns : goal.returns
returns c =
    step_ended _ _ _ c.step_at.ensures
