use Rattle.rules.specs.Rules.{numbered}
use Rattle.rules.specs.Judge.{judged}
use Rattle.rules.proofs.judge.judge.Goals as goal

pub returns : goal.returns
unfolding judged numbered
returns c =
    c.judge_by.ensures
