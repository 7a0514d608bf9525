-- The stores, the tables that they hold, the schema that these are together, and what a call comes to.
use Rattle.std.specs.Prelude.{Bool, cond, ◌||◌, List, ℕ, suc, ◌+◌, ◌≤◌, eqb, ltb, length, get_or}
use Rattle.prelude.specs.Part.{row_at, part}
use Rattle.prelude.specs.BigEndian.{big_endian}
use Rattle.schema.specs.Layout.{rows_at, row_width, closure_width, store_length, closure_length, allowed_at, attribute_set, class_set, demanded_at, reached_at}
use Rattle.schema.specs.Numbers.{number_of, place_id, table_of}
use Rattle.schema.specs.declared.number.TableId.{TableId}
use Rattle.schema.specs.declared.number.TableId.TheVariants.{Attributes, Classes}
use Rattle.schema.specs.declared.answer.Answer.{Answer}

-- ---- tables

-- a table: how many rows, and the row of each number
pub record Table : Type 0 where
  pub count : ℕ
  pub row : ℕ → List ℕ

-- t with row k replaced, and with a row added last
unfoldable pub with_row : Table → ℕ → List ℕ → Table
with_row t k new = record { count = t.count; row = λ j. cond (eqb j k) new (t.row j) }

unfoldable pub plus_row : Table → List ℕ → Table
plus_row t new = record { count = suc t.count; row = λ j. cond (eqb j t.count) new (t.row j) }

-- both tables
pub record Schema : Type 0 where
  pub attributes : Table
  pub classes : Table
  pub profile : ℕ

abbrev pub schema : Table → Table → ℕ → Schema
schema a c p = record { attributes = a; classes = c; profile = p }

abbrev pub table : TableId → Schema → Table
table Attributes m = m.attributes
table Classes m = m.classes

-- the place of a row among the rows of both tables, the attributes first, and the row at a place
abbrev pub place_of : Schema → TableId → ℕ → ℕ
place_of m Attributes k = k
place_of m Classes k = m.attributes.count + k

abbrev pub place_row : Schema → ℕ → List ℕ
place_row m p = (table (table_of (place_id m.attributes.count p)) m).row (number_of (place_id m.attributes.count p))

-- the schema with one table replaced
abbrev pub with_table : TableId → Table → Schema → Schema
with_table Attributes t m = schema t m.classes m.profile
with_table Classes t m = schema m.attributes t m.profile

-- ---- stores

-- how many rows a store says that it holds
abbrev pub count_in : TableId → List ℕ → ℕ
count_in Attributes s = big_endian 2 0 s
count_in Classes s = get_or s 0 0

-- the table that a store holds
abbrev pub table_in : TableId → List ℕ → Table
table_in t s = record { count = count_in t s; row = row_at rows_at (row_width t) s }

-- the store of a table, of the two that are lent
abbrev pub store_of : TableId → List ℕ → List ℕ → List ℕ
store_of Attributes a c = a
store_of Classes a c = c

-- the schema that the two stores hold
abbrev pub schema_in : List ℕ → List ℕ → Schema
schema_in a c = schema (table_in Attributes a) (table_in Classes c) (get_or c 1 0)

-- the three kept sets of class c as they stand in the closure store
abbrev pub closure_at : List ℕ → ℕ → List ℕ
closure_at s c = row_at 0 closure_width s c

-- each of them: classes reached, mandatory attributes, optional attributes
abbrev pub reached_in : List ℕ → ℕ → List ℕ
reached_in s c = part reached_at class_set (closure_at s c)

abbrev pub demanded_in : List ℕ → ℕ → List ℕ
demanded_in s c = part demanded_at attribute_set (closure_at s c)

abbrev pub allowed_in : List ℕ → ℕ → List ℕ
allowed_in s c = part allowed_at attribute_set (closure_at s c)

-- the three stores that every call is lent
pub record Stores : Type 0 where
  pub attributes : List ℕ
  pub classes : List ℕ
  pub closure : List ℕ

abbrev pub stores : List ℕ → List ℕ → List ℕ → Stores
stores a c k = record { attributes = a; classes = c; closure = k }

-- the store of a table
abbrev pub table_store : TableId → Stores → List ℕ
table_store t s = store_of t s.attributes s.classes

abbrev pub schema_of : Stores → Schema
schema_of s = schema_in s.attributes s.classes

-- the stores with that of one table replaced
abbrev pub with_store : TableId → List ℕ → Stores → Stores
with_store Attributes x s = stores x s.classes s.closure
with_store Classes x s = stores s.attributes x s.closure

-- what a call comes to: its answer, and the stores as it leaves them
pub record Result : Type 0 where
  pub answer : Answer
  pub left : Stores

abbrev pub result_of : Answer → Stores → Result
result_of a s = record { answer = a; left = s }

-- "1 a lent store is shorter than its length"
unfoldable pub any_short : Stores → Bool
any_short s =
    ltb (length s.attributes) (store_length Attributes)
    || (ltb (length s.classes) (store_length Classes) || ltb (length s.closure) closure_length)

-- every store has its length
pub record LongEnough (s : Stores) : Type 0 where
  pub attributes : store_length Attributes ≤ length s.attributes
  pub classes : store_length Classes ≤ length s.classes
  pub closure : closure_length ≤ length s.closure
