use Rattle.reader.specs.Reader.{step_at}
use Rattle.reader.proofs.step_at.Goals as goal

pub returns : goal.returns
unfolding step_at
returns c = cc
