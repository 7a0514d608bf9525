-- The bytes of a store that holds given rows; a row put in place, and a row put last.
use Rattle.std.specs.Prelude.{List, [], ◌∷◌, ◌++◌, ◌≡◌, ℕ, ◌+◌, ◌*◌, length, get_or}
use Rattle.prelude.specs.Part.{splice, zeros, padded}
use Rattle.prelude.specs.BigEndian.{big_endian_bytes}
use Rattle.schema.specs.Layout.{rows_at, row_width, store_length, closure_length}
use Rattle.schema.specs.Store.{Stores, stores, count_in, Table}
use Rattle.schema.specs.declared.number.TableId.{TableId}
use Rattle.schema.specs.declared.number.TableId.TheVariants.{Attributes, Classes}

-- rows one after the other
unfoldable pub joined : List (List ℕ) → List ℕ
joined [] = []
joined (r ∷ rows) = r ++ joined rows

-- each row has w bytes
abbrev pub AllWide : ℕ → List (List ℕ) → Type 0
AllWide w [] = Unit {0}
AllWide w (r ∷ rows) = (length r ≡ w) × AllWide w rows

-- the table of some rows
abbrev pub table_from : List (List ℕ) → Table
table_from rows = record { count = length rows; row = λ k. get_or rows k [] }

-- how many rows there are, as a store says it
abbrev pub count_bytes : TableId → ℕ → List ℕ
count_bytes Attributes n = big_endian_bytes 2 n
count_bytes Classes n = n ∷ []

-- how a store begins that holds n rows
abbrev pub header : TableId → ℕ → List ℕ
header Attributes n = big_endian_bytes 2 n
header Classes n = n ∷ 0 ∷ []

-- the bytes of a store: how many rows, the rows, and zeros to its length
unfoldable pub filled_store : TableId → List (List ℕ) → List ℕ
filled_store t rows = padded (store_length t) (header t (length rows) ++ joined rows)

-- a store with row k put in place
unfoldable pub put_in : TableId → ℕ → List ℕ → List ℕ → List ℕ
put_in t k row s = splice (rows_at + row_width t * k) row s

-- a store with a row put behind the others, and one row more counted
unfoldable pub plus_in : TableId → List ℕ → List ℕ → List ℕ
plus_in t row s = splice 0 (count_bytes t (count_in t s + 1)) (put_in t (count_in t s) row s)

-- the three stores without a row, of exactly their lengths
abbrev pub empty_stores : Stores
empty_stores = stores (zeros (store_length Attributes)) (zeros (store_length Classes)) (zeros closure_length)
