-- The stores that hold the rows read so far, and what a step of the code does to them.
use Rattle.std.specs.Prelude.{cond, List, ◌≡◌, ◌<◌, ℕ, ◌≤◌, eqb, length}
use Rattle.prelude.specs.Part.{splice}
use Rattle.schema.specs.declared.number.TableId.TheVariants.{Attributes, Classes}
use Rattle.schema.specs.declared.number.TableId.{TableId}
use Rattle.schema.specs.Store.{count_in, store_of}
use Rattle.schema.specs.Numbers.{limit}
use Rattle.schema.specs.Layout.{row_width, store_length}
use Rattle.tables.specs.Filled.{AllWide, filled_store, plus_in}
use Rattle.rows_read.specs.Reading.{Out}
use Rattle.sheet_read.specs.Turn.{Turn}
use Rattle.sheet_read.specs.Room.{Room}
use Rattle.sheet_read.specs.SheetTag.{Heading, Row, Unknown}
use Rattle.sheet_read.specs.Reading.{Rows, SheetOut, Step, is_read}
use Rattle.sheet_read.specs.SheetRead.{SheetRead}
use Rattle.sheet_read.specs.SheetTag.{SheetTag}
use Rattle.sheet_read.specs.Room as room

-- rows that their tables can hold: each of its width, and no more than there is room for
pub record Fitting (t : TableId) (list : List (List ℕ)) : Type 0 where
  pub wide : AllWide (row_width t) list
  pub few : length list ≤ limit t

-- the stores hold exactly the rows of x, put into what stood there: a and c
pub record Held (x : Rows) (a c attributes classes : List ℕ) : Type 0 where
  pub attributes_fit : Fitting Attributes x.attributes
  pub classes_fit : Fitting Classes x.classes
  pub attributes_are : attributes ≡ splice 0 (filled_store Attributes x.attributes) a
  pub classes_are : classes ≡ splice 0 (filled_store Classes x.classes) c

-- the store of a table after a row that was read or not
unfoldable pub store_with : TableId → Out → List ℕ → List ℕ
store_with t o s = cond (is_read o.answer) (plus_in t o.row s) s

-- stores of their length
pub record Lent (a c : List ℕ) : Type 0 where
  pub attributes : store_length Attributes ≤ length a
  pub classes : store_length Classes ≤ length c

-- and with counts within the limits
pub record Open (a c : List ℕ) : Type 0 where
  pub lent : Lent a c
  pub few : (t : TableId) → count_in t (store_of t a c) ≤ limit t

-- whether the row that a tag announces has room in the stores
unfoldable pub room_in : SheetTag → List ℕ → List ℕ → Room
room_in Heading a c = room.Free
room_in (Row t) a c = cond (eqb (count_in t (store_of t a c)) (limit t)) (room.Full t) room.Free
room_in Unknown a c = room.Free

abbrev pub HasRoom : SheetTag → List ℕ → List ℕ → Type 0
HasRoom tag a c = (t : TableId) → tag ≡ Row t → count_in t (store_of t a c) < limit t

-- a step of the code does what a step of the definition does: whatever rows the stores hold before, they hold those of the step afterwards
pub record Stepped (y : Step) (a c : List ℕ) (turn : Turn) (attributes classes : List ℕ) : Type 0 where
  pub went : turn ≡ y.turn
  pub held : Held y.rows a c attributes classes

abbrev pub Steps : (Rows → Step) → List ℕ → List ℕ → Turn → List ℕ → List ℕ → Type 0
Steps f attributes classes turn attributes' classes' =
    (x : Rows) (a c : List ℕ) → Held x a c attributes classes → Stepped (f x) a c turn attributes' classes'

-- what reading a sheet leaves: the answer, and the rows that were read, put into what stood in the stores
pub record Left (o : SheetOut) (a c : List ℕ) (r : SheetRead) (a' c' : List ℕ) : Type 0 where
  pub answer : r ≡ o.answer
  pub attributes : a' ≡ splice 0 (filled_store Attributes o.rows.attributes) a
  pub classes : c' ≡ splice 0 (filled_store Classes o.rows.classes) c
