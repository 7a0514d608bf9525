use Rattle.std.proofs.Common.{◌∙◌, ℕ, ◌%◌, rules, ap, eqb}
use Rattle.std.proofs.lemmas.Nat.Bits.{shr_and_one}
use Rattle.sets.specs.Sets.{digit}
use Rattle.sets.specs.SetsLaws.{flag_says}
use Rattle.sets.proofs.Bytes.{left_digit}
use Rattle.graph.specs.Visit.{unvisited_in}
use Rattle.graph.proofs.reach.is_unvisited.Goals as goal

pub returns : goal.returns
unfolding unvisited_in digit
returns c =
    ap (λ (x : ℕ). eqb x 1) (shr_and_one _ (c.args.d.0 % 8) ∙ left_digit c.args.fixed.now c.args.other.now c.args.seen.bits c.args.d.0 (search rules))
    ∙ flag_says _
