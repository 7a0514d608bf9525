-- A change that numbers 5 to 11 let pass changes or adds one row of the model, and every other stays.
use Rattle.std.specs.Prelude.{false, true, List, [], ◌⊎◌, ◌≡◌, refl, ℕ}
use Rattle.std.proofs.Common.{inl, inr}
use Rattle.prelude.specs.SaysLaws.{true_or_false}
use Rattle.schema.specs.Store.{Schema, Table, table, with_table}
use Rattle.schema.specs.declared.number.TableId.{TableId}
use Rattle.schema.specs.declared.number.TableId.TheVariants.{Attributes, Classes}
use Rattle.tables.specs.Changed.{ChangedAt, ChangedRow}
use Rattle.tables.specs.ChangedLaws.{plus_changed, with_changed}
use Rattle.change_read.specs.Carried.{target_of}
use Rattle.change_read.specs.declared.read.Change.{Change}
use Rattle.change_rows.specs.Rows.{edited_row, is_addition, number_for, schema_after, table_after, table_for}
use Rattle.change_asked.specs.Asked.{first_asked}
use Rattle.change_asked.specs.AskedLaws.{asked_there}

-- one table of a schema replaced
replaced_row : (t : TableId) (k : ℕ) (u : Table) (m : Schema) → ChangedAt k (table t m) u → ChangedRow t k m (with_table t u m)
replaced_row Attributes k u m h = record { own = h; rest = rest }
  where
    rest : (v : TableId) → ¬ (Attributes ≡ v) → table v (with_table Attributes u m) ≡ table v m
    rest Attributes d = absurd (d refl)
    rest Classes d = refl
replaced_row Classes k u m h = record { own = h; rest = rest }
  where
    rest : (v : TableId) → ¬ (Classes ≡ v) → table v (with_table Classes u m) ≡ table v m
    rest Attributes d = refl
    rest Classes d = absurd (d refl)

module _ (change : Change) (r : List ℕ) (m : Schema) (z : first_asked change r m ≡ 0) where
  abbrev of : TableId
  of = table_for change

  table_changed : (is_addition change ≡ true) ⊎ (is_addition change ≡ false) → ChangedAt (number_for change r m) (table of m) (table_after change r (table of m))
  unfolding number_for table_after
  table_changed (inl e) = rw e (plus_changed (table of m) (edited_row change r []))
  table_changed (inr e) = rw e (with_changed (table of m) (target_of r) (edited_row change r ((table of m).row (target_of r))) (asked_there change r m z e))

  pub after_changed : ChangedRow of (number_for change r m) m (schema_after change r m)
  unfolding schema_after
  after_changed = replaced_row of (number_for change r m) (table_after change r (table of m)) m (table_changed (true_or_false (is_addition change)))
