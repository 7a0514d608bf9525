-- The answer to a change that was read, in two steps: what it asks, and what the result comes to.
use Rattle.std.specs.Prelude.{ℕ, List, ◌≡◌}
use Rattle.std.proofs.Common.{arith, ◌∙◌, sym}
use Rattle.std.proofs.Math.Decide.{ℕ_discrete}
use Rattle.change_read.specs.ChangeRead.{Read}
use Rattle.change_read.specs.declared.read.Change.{Change}
use Rattle.schema.specs.Store.{Schema}
use Rattle.schema.specs.Answers.{refused, changed}
use Rattle.change_model.specs.Model.{answer_to, change_number, result_cases, answer_by}
use Rattle.prelude.specs.FirstLaws.{append_first, append_second}
use Rattle.prelude.specs.First.{first_of}
use Rattle.prelude.specs.SaysLaws.{says_eq, says_false, says_true}
use Rattle.change_asked.specs.Asked.{asked_cases, first_asked}
use Rattle.change_rows.specs.Rows.{number_for, table_for}

-- ---- the number of the model, in two steps

module _ (change : Change) (r : List ℕ) (m : Schema) where
  pub number_asked : ¬ (first_asked change r m ≡ 0) → change_number change r m ≡ first_asked change r m
  unfolding change_number first_asked
  number_asked d = append_first (asked_cases change r m) (result_cases change r m) d

  pub number_judged : first_asked change r m ≡ 0 → change_number change r m ≡ first_of (result_cases change r m)
  unfolding change_number first_asked
  number_judged z = append_second (asked_cases change r m) (result_cases change r m) (omega arith) z

  pub answer_number : (n : ℕ) → (answer_by change r m n).number ≡ n
  unfolding answer_by
  answer_number n = go (ℕ_discrete n 0)
    where
      go : Dec (n ≡ 0) → (answer_by change r m n).number ≡ n
      go (yes z) = rw (says_true (says_eq n 0) z) (sym z)
      go (no d) = rw (says_false (says_eq n 0) d)

  pub answer_refused : ¬ (change_number change r m ≡ 0) → answer_to (Read change) r m ≡ refused (change_number change r m)
  unfolding answer_to answer_by
  answer_refused d = rw (says_false (says_eq (change_number change r m) 0) d)

  pub answer_done : change_number change r m ≡ 0 → answer_to (Read change) r m ≡ changed (table_for change) (number_for change r m)
  unfolding answer_to answer_by
  answer_done z = rw (says_true (says_eq (change_number change r m) 0) z)

  -- a number from 5 to 11 is asked first
  pub asked_zero : change_number change r m ≡ 0 → first_asked change r m ≡ 0
  asked_zero z = go (ℕ_discrete (first_asked change r m) 0)
    where
      go : Dec (first_asked change r m ≡ 0) → first_asked change r m ≡ 0
      go (yes e) = e
      go (no d) = absurd (d (sym (number_asked d) ∙ z))
