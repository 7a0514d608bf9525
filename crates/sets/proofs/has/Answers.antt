use Rattle.std.proofs.Common.{ap, sym, ◌∙◌, ℕ, ◌/◌, ◌%◌, le-ltb}
use Rattle.std.proofs.lemmas.Nat.Bits.{shr_and_one}
use lib.Dec.{eqb}
use lib.ListN.{get_or}
use Rattle.sets.specs.Sets.{member, bit, digit}
use Rattle.sets.specs.SetsLaws.{bit_past}
use Rattle.sets.proofs.has.Goals as goal

pub returns-then-n-s : goal.returns-then-n-s
unfolding member bit digit
returns-then-n-s c = ap (λ (x : ℕ). eqb x 1) (shr_and_one (get_or c.args.s.now (c.args.n / 8) 0) (c.args.n % 8))

pub returns-else-n-s : goal.returns-else-n-s
unfolding member
returns-else-n-s c = le-ltb _ _ c.if-n-s.false ∙ sym (ap (λ (x : ℕ). eqb x 1) (bit_past c.args.s.now c.args.n c.if-n-s.false))
