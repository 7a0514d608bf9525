-- Demand 3 as one claim over a whole list of changes, as types alone. The proof stands in Demand3Laws and the files that it cites.
-- `load`, `plain_change` (the whole check) and `quick_change` are the definitions that the contracts of the calls equate with answer and final bytes, for
-- every input; `rows_after` and `answer_to` are the model: what a change comes to, from rows alone.
use Rattle.std.specs.Prelude.{List, [], ◌↔◌, ◌≡◌, ◌<◌, ◌≤◌, suc, zero, ℕ, get_or, length}
use Rattle.prelude.specs.Part.{Bytes, part}
use Rattle.schema.specs.Answers.{RowChanged, SameTold}
use Rattle.schema.specs.Layout.{store_length}
use Rattle.schema.specs.Numbers.{attribute_limit, class_limit, limit}
use Rattle.schema.specs.Store.{Result, Schema, Stores, Table, closure_at, demanded_in, schema_of, table}
use Rattle.schema.specs.declared.answer.Answer.{Answer}
use Rattle.schema.specs.declared.number.TableId.{TableId}
use Rattle.schema.specs.declared.number.TableId.TheVariants.{Attributes, Classes}
use Rattle.tables.specs.Same.{SameRows}
use Rattle.graph.specs.Graph.{Reaches, demands, inherits}
use Rattle.sheet_read.specs.Reading.{read_sheet, schema_from}
use Rattle.change_read.specs.Carried.{entry_of, list_of}
use Rattle.change_read.specs.Reading.{change_out, read_change}
use Rattle.change_read.specs.declared.carried.OpenList.TheVariants.{Auxiliary}
use Rattle.change_read.specs.declared.read.Change.{Change}
use Rattle.change_read.specs.declared.read.Change.TheVariants.{AddEntry}
use Rattle.change_read.specs.ChangeRead.{Read}
use Rattle.change_rows.specs.Rows.{number_for, table_for}
use Rattle.change_model.specs.Model.{answer_to, rows_after}
use Rattle.keeper.specs.Load.{load}
use Rattle.keeper_change.specs.Plain.{plain_change}
use Rattle.keeper_change.specs.Quick.{quick_change}
use Rattle.keeper_promises.specs.Promises.{Fresh, InOrder, SamePast, SomeShort}

-- ---- a list of changes, played with a call

-- a change call
abbrev pub Call : Type 0
Call = List ℕ → Stores → Result

-- change i of a list
abbrev pub change_at : List (List ℕ) → ℕ → List ℕ
change_at xs i = get_or xs i []

-- the changes hold bytes, as all memory does
abbrev pub AllBytes : List (List ℕ) → Type 0
AllBytes xs = (i : ℕ) → i < length xs → Bytes (change_at xs i)

-- the stores after the first i changes. "Each call gets what the last one left there, and nobody else writes meanwhile."
unfoldable pub after : Call → Stores → List (List ℕ) → ℕ → Stores
after call s xs zero = s
after call s xs (suc i) = (call (change_at xs i) (after call s xs i)).left

-- the answer to change i
abbrev pub told : Call → Stores → List (List ℕ) → ℕ → Answer
told call s xs i = (call (change_at xs i) (after call s xs i)).answer

-- ---- the rows "that sheet and changes alone give"

-- "at first as the sheet reads"
abbrev pub sheet_rows : List ℕ → Schema
sheet_rows sheet = schema_from (read_sheet sheet).rows

-- the rows after one change, and the answer to it
abbrev pub model_after : List ℕ → Schema → Schema
model_after x m = rows_after (read_change x).answer (read_change x).row m

abbrev pub model_answer : List ℕ → Schema → Answer
model_answer x m = answer_to (read_change x).answer (read_change x).row m

-- "then each change is made in turn, an added row last in its table, or refused where a number from 4 on holds"
unfoldable pub rows_given : Schema → List (List ℕ) → ℕ → Schema
rows_given m xs zero = m
rows_given m xs (suc i) = model_after (change_at xs i) (rows_given m xs i)

-- after the first i changes to what a sheet reads
abbrev pub model_at : List ℕ → List (List ℕ) → ℕ → Schema
model_at sheet xs i = rows_given (sheet_rows sheet) xs i

-- ---- one change: what stays

-- class c reaches class k by the rows of a table: the relation, not a test
abbrev pub ReachesIn : Table → ℕ → ℕ → Type 0
ReachesIn t c k = Reaches t.count (inherits t) c k

-- by the rows of t, class c does not reach the class that an answer says was changed or added, if it says so of a class
abbrev pub ReachesNone : Answer → Table → ℕ → Type 0
ReachesNone a t c = (k : ℕ) → RowChanged a Classes k → ¬ (ReachesIn t c k)

-- a change was answered by a, and has made t of the stores s. "Every row but the one changed stays put, and so do the kept sets of classes that do not
-- then reach it."
pub record Stays (a : Answer) (s t : Stores) : Type 0 where
  -- "A refused change alters no byte of any lent store"
  pub refused : ¬ (a.number ≡ 0) → t ≡ s
  -- every row, unused ones too, but the one that was changed or added
  pub rows : (u : TableId) (k : ℕ) → k < limit u → ¬ (RowChanged a u k) → (table u (schema_of t)).row k ≡ (table u (schema_of s)).row k
  -- the kept sets, also of numbers without a row. A change of an attribute leaves all of them
  pub closure : (c : ℕ) → c < class_limit → ReachesNone a (schema_of t).classes c → closure_at t.closure c ≡ closure_at s.closure c
  -- "bytes past [the lengths] are never touched"
  pub past : SamePast t s

-- class c demands the same attributes in both: by the rows, and by its kept sets
pub record SameDemand (c : ℕ) (s t : Stores) : Type 0 where
  pub rows : (b : ℕ) → b < attribute_limit → demands (schema_of s).classes c b ≡ demands (schema_of t).classes c b
  pub kept : demanded_in s.closure c ≡ demanded_in t.closure c

-- ---- the claim for one sheet, the stores that it was loaded into, and one list of changes

module _ (sheet : List ℕ) (first : Stores) (xs : List (List ℕ)) where
  -- "Start from stores that a load accepted, and a copy of them. The quick call works on the stores, the whole check on the copy."
  abbrev pub stores_at : ℕ → Stores
  stores_at i = after quick_change (load sheet first).left xs i

  abbrev pub copy_at : ℕ → Stores
  copy_at i = after plain_change (load sheet first).left xs i

  abbrev pub quick_told : ℕ → Answer
  quick_told i = told quick_change (load sheet first).left xs i

  abbrev pub plain_told : ℕ → Answer
  plain_told i = told plain_change (load sheet first).left xs i

  pub record Agreement : Type 0 where
    -- "After each change the two answers are equal in every part, and stores and copy in every byte."
    pub answers : (i : ℕ) → i < length xs → quick_told i ≡ plain_told i
    pub bytes : (i : ℕ) → i ≤ length xs → stores_at i ≡ copy_at i
    -- "The rows in its stores are those that sheet and changes alone give", and so is each answer
    pub rows : (i : ℕ) → i ≤ length xs → SameRows (schema_of (stores_at i)) (model_at sheet xs i)
    pub given : (i : ℕ) → i < length xs → quick_told i ≡ model_answer (change_at xs i) (model_at sheet xs i)
    -- "At the start and after each change, every class's kept sets equal those worked out afresh"; and shape and rules hold
    pub fresh : (i : ℕ) → i ≤ length xs → Fresh (stores_at i)
    pub order : (i : ℕ) → i ≤ length xs → InOrder (stores_at i)
    -- "and the class demands exactly the mandatory attributes it had when the load or its addition ended": what it had at any time i since it was there
    pub demanded : (i j : ℕ) → i ≤ j → j ≤ length xs → (c : ℕ) → c < (schema_of (stores_at i)).classes.count → SameDemand c (stores_at i) (stores_at j)
    -- "Every row but the one changed stays put, and so do the kept sets of classes that do not then reach it."
    pub stays : (i : ℕ) → i < length xs → Stays (quick_told i) (stores_at i) (stores_at (suc i))

-- ---- the last sentence

-- c is "the one to be changed" by x on stores s (an added class's number is the next one), or "the auxiliary named"
pub data Concerned (x : List ℕ) (s : Stores) (c : ℕ) : Type 0 where
  target : {change : Change} {r : List ℕ} → read_change x ≡ change_out (Read change) r → table_for change ≡ Classes → number_for change r (schema_of s) ≡ c
      → Concerned x s c
  auxiliary : {r : List ℕ} → read_change x ≡ change_out (Read AddEntry) r → list_of r ≡ Auxiliary → entry_of r ≡ c → Concerned x s c

-- "alike in all but the kept sets of classes other than the one to be changed and the auxiliary named". Bytes past the lengths may differ too
pub record AlikeFor (x : List ℕ) (s t : Stores) : Type 0 where
  pub lengths : SomeShort s ↔ SomeShort t
  pub attributes : part 0 (store_length Attributes) s.attributes ≡ part 0 (store_length Attributes) t.attributes
  pub classes : part 0 (store_length Classes) s.classes ≡ part 0 (store_length Classes) t.classes
  pub closure : (c : ℕ) → c < class_limit → Concerned x s c → closure_at s.closure c ≡ closure_at t.closure c

-- ---- demand 3

pub record Demand3 : Type 0 where
  -- "For every list of changes given to both, unreadable and otherwise refused ones among them, this holds."
  pub agree : (sheet : List ℕ) (first : Stores) (xs : List (List ℕ)) → Bytes sheet → AllBytes xs → (load sheet first).answer.number ≡ 0
      → Agreement sheet first xs
  -- "On any two lots of stores, in order or not, .. quick answers to the same change are equal": in number, table and place
  pub alone : (x : List ℕ) (s t : Stores) → AlikeFor x s t → SameTold (quick_change x s).answer (quick_change x t).answer
