-- Load. Document 01: "Load never looks at what stood in the stores; it reads left to right and gives 4 or 6, whichever comes first, then judges 12 to 29;
-- refused by 4 or more, it leaves every store byte zero."
use Rattle.std.specs.Prelude.{cond, List, [], ◌∷◌, ◌≡◌, ℕ, eqb}
use Rattle.prelude.specs.Part.{splice, zeros}
use Rattle.schema.specs.declared.answer.Answer.{Answer}
use Rattle.schema.specs.declared.number.TableId.TheVariants.{Attributes, Classes}
use Rattle.schema.specs.Answers.{refused}
use Rattle.schema.specs.Layout.{store_length, closure_length}
use Rattle.schema.specs.Store.{Stores, stores, Result, result_of, any_short}
use Rattle.tables.specs.Filled.{table_from, filled_store}
use Rattle.graph.specs.Graph.{closure_rows}
use Rattle.sheet_read.specs.Reading.{Rows, SheetOut, schema_from, sheet_answer, read_sheet}
use Rattle.rules.specs.declared.row.Added.TheVariants.{Nothing}
use Rattle.rules.specs.Judge.{judged}
use Rattle.schema.specs.Answering.{first_answer}
use Rattle.schema.specs.Refusals as refusal

-- every byte of the three stores zero; "bytes past [the lengths] are never touched"
unfoldable pub emptied : Stores → Stores
emptied s =
    stores (splice 0 (zeros (store_length Attributes)) s.attributes) (splice 0 (zeros (store_length Classes)) s.classes)
    (splice 0 (zeros closure_length) s.closure)

-- the stores with some rows, and the closure (kept sets) worked out from them
unfoldable pub filled : Rows → Stores → Stores
filled x s =
    stores (splice 0 (filled_store Attributes x.attributes) s.attributes) (splice 0 (filled_store Classes x.classes) s.classes)
    (splice 0 (closure_rows (table_from x.classes)) s.closure)

-- "gives 4 or 6, whichever comes first, then judges 12 to 29"; "for a load 0, 0"
unfoldable pub read_answer : SheetOut → Answer
read_answer o = first_answer (sheet_answer o.answer ∷ []) (judged Nothing (schema_from o.rows))

-- accepted, the stores hold the rows that were read; refused, they are empty
unfoldable pub loaded : SheetOut → Stores → Result
loaded o s = result_of (read_answer o) (cond (eqb (read_answer o).number refusal.done) (filled o.rows s) (emptied s))

-- "1 a lent store is shorter than its length": nothing is altered
unfoldable pub load : List ℕ → Stores → Result
load sheet s = cond (any_short s) (result_of (refused refusal.short_store) s) (loaded (read_sheet sheet) s)

-- what reading into the two tables and judging leaves, before the closure is worked out or all is emptied
pub record ReadAndJudged (o : SheetOut) (a c : List ℕ) (r : Answer) (a' c' : List ℕ) : Type 0 where
  pub answer : r ≡ read_answer o
  pub attributes : a' ≡ splice 0 (filled_store Attributes o.rows.attributes) a
  pub classes : c' ≡ splice 0 (filled_store Classes o.rows.classes) c
