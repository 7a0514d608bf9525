-- How a call finds its answer. Document 01: "The smallest number whose condition holds. Every answer has a number, a table .. and a place; what is not
-- named below is 0." Each call has a list of answers in the order of judging, but that audit's 3 comes last; the first that
-- refuses is given.
use Rattle.std.specs.Prelude.{Bool, cond, List, [], ◌∷◌, ◌≡◌, ℕ, eqb}
use Rattle.schema.specs.Answers.{passed, refused}
use Rattle.schema.specs.declared.answer.Answer.{Answer}
use Rattle.schema.specs.Refusals as refusal

-- an answer that is given where a condition holds, and passed over where it does not
unfoldable pub answer_if : Bool → Answer → Answer
answer_if b a = cond b a passed

-- a number alone
abbrev pub refused_if : ℕ → Bool → Answer
refused_if n b = answer_if b (refused n)

-- the first answer that refuses, or the last one where none does
unfoldable pub first_answer : List Answer → Answer → Answer
first_answer [] last = last
first_answer (a ∷ answers) last = cond (eqb a.number refusal.done) (first_answer answers last) a

-- none of them refuses
abbrev pub NoneRefuses : List Answer → Type 0
NoneRefuses [] = Unit {0}
NoneRefuses (a ∷ answers) = (a.number ≡ refusal.done) × NoneRefuses answers
