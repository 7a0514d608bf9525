-- A table, and a schema, of which one row was changed or added.
use Rattle.std.specs.Prelude.{◌≡◌, ℕ, ◌<◌}
use Rattle.schema.specs.declared.number.TableId.{TableId}
use Rattle.schema.specs.Store.{Table, Schema, table}

-- t has become u, and every row but k is as it was. Row k may be a new one
pub record ChangedAt (k : ℕ) (t u : Table) : Type 0 where
  pub here : k < u.count
  pub stays : (j : ℕ) → j < t.count → j < u.count
  pub old : (j : ℕ) → j < u.count → ¬ (j ≡ k) → j < t.count
  pub other : (j : ℕ) → ¬ (j ≡ k) → j < t.count → u.row j ≡ t.row j

-- m has become n: row k of table t was changed or added, and the other table is as it was
pub record ChangedRow (t : TableId) (k : ℕ) (m n : Schema) : Type 0 where
  pub own : ChangedAt k (table t m) (table t n)
  pub rest : (u : TableId) → ¬ (t ≡ u) → table u n ≡ table u m
