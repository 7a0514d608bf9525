use Rattle.std.proofs.Common.{arith}
use Rattle.std.proofs.lemmas.Bool.Decides.{nat_tests}
use Rattle.rules_names.specs.Name.{folded, between}
use Rattle.rules_names.proofs.fold.Goals as goal

pub returns : goal.returns
unfolding folded between
returns c = grind (arith, nat_tests)
