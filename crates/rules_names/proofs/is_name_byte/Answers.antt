use Rattle.std.proofs.Common.{arith}
use Rattle.std.proofs.lemmas.Bool.Decides.{nat_tests}
use Rattle.rules_names.specs.Name.{is_name_byte, is_letter, between}
use Rattle.rules_names.proofs.is_name_byte.Goals as goal

pub returns-then-is_ascii_alphanumeric : goal.returns-then-is_ascii_alphanumeric
unfolding is_name_byte is_letter between
returns-then-is_ascii_alphanumeric c = grind (arith, nat_tests)

pub returns-else-is_ascii_alphanumeric : goal.returns-else-is_ascii_alphanumeric
unfolding is_name_byte is_letter between
returns-else-is_ascii_alphanumeric c = grind (arith, nat_tests)
