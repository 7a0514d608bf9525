use Rattle.std.proofs.Common.{sym, rules, arith}
use Rattle.sets.specs.SetsLaws.{with_beyond}
use Rattle.sets.proofs.Bytes.{inserted}
use Rattle.sets.proofs.insert.Goals as goal

pub returns-then-n-s : goal.returns-then-n-s
returns-then-n-s c = inserted c.args.s.now c.args.n (λ j. search rules) c.if-n-s.true

pub returns-else-n-s : goal.returns-else-n-s
returns-else-n-s c = sym (with_beyond c.args.s.now c.args.n (λ j. search rules) (omega (arith, c.if-n-s.false)))
