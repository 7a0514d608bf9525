-- What an answer tells by its number, table and place.
use Rattle.std.specs.Prelude.{◌≡◌, ℕ}
use Rattle.std.proofs.Common.{ap}
use Rattle.schema.specs.Answers.{RowChanged, SameTold, changed}
use Rattle.schema.specs.declared.answer.Answer.{Answer}
use Rattle.schema.specs.declared.number.TableId.{TableId}

pub told_changed : {a : Answer} (t : TableId) (k : ℕ) → a ≡ changed t k → RowChanged a t k
told_changed t k e = record { number = ap (λ (x : Answer). x.number) e; table = ap (λ (x : Answer). x.table) e; place = ap (λ (x : Answer). x.place) e }

pub same_told : {a b : Answer} → a ≡ b → SameTold a b
same_told e = record { number = ap (λ (x : Answer). x.number) e; table = ap (λ (x : Answer). x.table) e; place = ap (λ (x : Answer). x.place) e }
