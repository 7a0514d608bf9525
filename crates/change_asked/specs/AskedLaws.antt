-- Which of numbers 5 to 11 can hold: of an addition 6 and 9; of any other change 5, and where its target is there the rest.
use Rattle.std.proofs.Math.Dec.{leb}
use borrow.Author.Tests.{ltb-true, not-false}
use Rattle.std.proofs.Common.{arith}
use Rattle.std.specs.Prelude.{◌<◌, ◌≤◌, ℕ, List, ◌≡◌}
use Rattle.std.proofs.Math.Path.{refl}
use Rattle.std.proofs.Math.Bool.{false, true}
use Rattle.std.proofs.lemmas.Bool.{false≢true}
use Rattle.change_read.specs.declared.read.Change.TheVariants.{Add, SetRange, Rename, Deactivate, Reactivate, AddEntry, RemoveEntry}
use Rattle.change_read.specs.declared.read.Change.{Change}
use Rattle.change_read.specs.Carried.{target_of}
use Rattle.schema.specs.Store.{Schema, table}
use Rattle.schema.specs.Numbers.{limit}
use Rattle.change_asked.specs.Asked.{addition_asked, base_added, first_asked, table_full, target_absent, target_asked, asked_cases}
use Rattle.prelude.specs.First.{first_of, NoneHolds}
use Rattle.prelude.specs.SaysLaws.{says_false, says_lt, says_true, says_fails, says_le}
use Rattle.prelude.specs.FirstLaws.{zero_iff_none}
use Rattle.change_rows.specs.Rows.{is_addition, table_for}
use Rattle.schema.specs.Refusals as refusal

module _ (change : Change) (r : List ℕ) (m : Schema) where
  pub asked_addition : is_addition change ≡ true → first_asked change r m ≡ addition_asked (table_for change) r (table (table_for change) m)
  unfolding first_asked addition_asked first_of target_absent table_full base_added
  asked_addition e = addition change e
    where
      addition : (x : Change) → is_addition x ≡ true → first_asked x r m ≡ addition_asked (table_for x) r (table (table_for x) m)
      addition (Add t) q = refl
      addition SetRange q = absurd (false≢true q)
      addition (Rename t) q = absurd (false≢true q)
      addition (Deactivate t) q = absurd (false≢true q)
      addition (Reactivate t) q = absurd (false≢true q)
      addition AddEntry q = absurd (false≢true q)
      addition RemoveEntry q = absurd (false≢true q)

  module _ (fixed : is_addition change ≡ false) where
    pub asked_absent : (table (table_for change) m).count ≤ target_of r → first_asked change r m ≡ refusal.no_such_row
    unfolding first_asked first_of target_absent
    asked_absent l = rw (fixed, says_false (says_lt (target_of r) (table (table_for change) m).count) (λ q. omega arith))

    pub asked_target : target_of r < (table (table_for change) m).count → first_asked change r m ≡ target_asked change r (target_of r) m
    unfolding first_asked target_asked first_of target_absent table_full base_added
    asked_target l = rw (fixed, says_true (says_lt (target_of r) (table (table_for change) m).count) l)

  -- ---- where nothing is amiss

  module _ (z : first_asked change r m ≡ 0) where
    pub asked_none : NoneHolds (asked_cases change r m)
    unfolding first_asked
    asked_none = (zero_iff_none (asked_cases change r m) (omega arith)).0 z

    -- an added row has room, and a target is there
    pub asked_room : is_addition change ≡ true → (table (table_for change) m).count < limit (table_for change)
    unfolding table_full
    asked_room e =
        let none = asked_none.1.0 in
        let f : leb (limit (table_for change)) (table (table_for change) m).count ≡ false = rw e at none in
        omega (arith, says_fails (says_le (limit (table_for change)) (table (table_for change) m).count) f)

    pub asked_there : is_addition change ≡ false → target_of r < (table (table_for change) m).count
    unfolding target_absent
    asked_there e = ltb-true _ _ (not-false _ (rw e at asked_none.0))
