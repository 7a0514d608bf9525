-- The shape of the two tables' stores. Document 01: "*Shape*: counts within limits, every field one that the reader could have stored, unused rows
-- zero; any bytes pass for kept sets." Bytes past a store's length are not looked at.
use Rattle.std.specs.Prelude.{◌&&◌, Bool, true, List, ◌≡◌, ◌*◌, ◌+◌, ◌-◌, ◌<◌, ℕ, ◌≤◌, eqb, leb, get_or}
use Rattle.prelude.specs.Below.{all_below}
use Rattle.prelude.specs.Part.{is_zero, part, zeros}
use Rattle.schema.specs.declared.number.TableId.TheVariants.{Attributes, Classes}
use Rattle.schema.specs.declared.number.TableId.{TableId}
use Rattle.schema.specs.Store.{count_in, table_in}
use Rattle.schema.specs.Numbers.{limit}
use Rattle.schema.specs.Layout.{row_width, rows_at}
use Rattle.rows_read.specs.WellFormed.{well_formed}

-- the unused rows of a store of n rows, side by side
abbrev pub unused_rows : TableId → ℕ → List ℕ → List ℕ
unused_rows t n s = part (rows_at + row_width t * n) (row_width t * (limit t - n)) s

-- the byte beside the count of classes is zero (docs/DECISIONS.md, R32)
unfoldable pub beside_zero : TableId → List ℕ → Bool
beside_zero Attributes s = true
beside_zero Classes s = eqb (get_or s 1 0) 0

-- each of the first n rows of a store is one that the reader could have stored
abbrev pub rows_formed : TableId → List ℕ → ℕ → Bool
rows_formed t s n = all_below n (λ k. well_formed t ((table_in t s).row k))

-- "counts within limits, every field one that the reader could have stored, unused rows zero"
unfoldable pub table_formed : TableId → List ℕ → Bool
table_formed t s = beside_zero t s && (leb (count_in t s) (limit t) && (rows_formed t s (count_in t s) && is_zero (unused_rows t (count_in t s) s)))

-- both stores
unfoldable pub stores_formed : List ℕ → List ℕ → Bool
stores_formed a c = table_formed Attributes a && table_formed Classes c

-- ---- the same as statements, which the tests decide of stores that have their lengths (`says_formed`)

-- the count, each row in use, each row that is not
pub record TableFormed (t : TableId) (s : List ℕ) : Type 0 where
  pub beside : t ≡ Classes → get_or s 1 0 ≡ 0
  pub few : (table_in t s).count ≤ limit t
  pub rows : (k : ℕ) → k < (table_in t s).count → well_formed t ((table_in t s).row k) ≡ true
  pub unused : (k : ℕ) → (table_in t s).count ≤ k → k < limit t → (table_in t s).row k ≡ zeros (row_width t)

pub record StoresFormed (a c : List ℕ) : Type 0 where
  pub attributes : TableFormed Attributes a
  pub classes : TableFormed Classes c
