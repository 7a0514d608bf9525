use Rattle.std.proofs.Common.{arith}
use Rattle.std.proofs.lemmas.Bool.Decides.{nat_tests}
use Rattle.rules_names.specs.Name.{identifier_invalid}
use Rattle.rules_names.proofs.identifier_invalid.Goals as goal

pub returns-then-arc_count-lt2 : goal.returns-then-arc_count-lt2
unfolding identifier_invalid
returns-then-arc_count-lt2 c = grind (arith, nat_tests)

pub returns-in-0 : goal.returns-in-0
unfolding identifier_invalid
returns-in-0 c = grind (arith, nat_tests)

pub returns-in_default : goal.returns-in_default
unfolding identifier_invalid
returns-in_default c = grind (arith, nat_tests)
