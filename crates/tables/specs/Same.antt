-- Tables that hold the same rows. A store has bytes at and above its count too; no rule and no kept set may depend on them.
use Rattle.std.specs.Prelude.{◌≡◌, ℕ, ◌<◌}
use Rattle.schema.specs.declared.number.TableId.{TableId}
use Rattle.schema.specs.Store.{Table, Schema, table}

-- t and u have as many rows, and each of t is that of u
pub record Same (t u : Table) : Type 0 where
  pub count : t.count ≡ u.count
  pub rows : (k : ℕ) → k < t.count → t.row k ≡ u.row k

-- so have two schemas, in both tables
abbrev pub SameRows : Schema → Schema → Type 0
SameRows m n = (t : TableId) → Same (table t m) (table t n)
