-- What the calls promise, demand by demand, as types alone; demand 3 has a file of its own (Demand3). The proofs stand in the other files: `demand1` and
-- `demand2` (PromisesLaws) are members of the two records. `load`, `audit`, `depth`, `write`, `plain_change` and `quick_change` are the definitions that the
-- contracts of the calls equate with answer and final bytes, for every input.
use Rattle.std.specs.Prelude.{false, List, ◌⊎◌, ◌↔◌, ◌≡◌, ℕ, ◌≤◌, ◌<◌, drop, length, Some}
use Rattle.prelude.specs.Part.{Bytes, part, splice}
use Rattle.wire.specs.Wire.{field_at}
use Rattle.wire.specs.FieldRead.{Field}
use Rattle.schema.specs.declared.number.TableId.{TableId}
use Rattle.schema.specs.declared.number.TableId.TheVariants.{Attributes, Classes}
use Rattle.schema.specs.Answers.{RowChanged, answer, passed, done, refused, short_output, field_answer, class_answer, number_answer}
use Rattle.schema.specs.Layout.{store_length, closure_length}
use Rattle.schema.specs.Numbers.{class_limit, class_read, number_read}
use Rattle.schema.specs.Order.{order, rank}
use Rattle.schema.specs.Store.{LongEnough, Stores, stores, result_of, schema_of, closure_at, Schema, table}
use Rattle.tables.specs.Filled.{empty_stores}
use Rattle.graph.specs.Graph.{closure_row}
use Rattle.graph.specs.Depth.{EarlierChain, depth_answer}
use Rattle.sheet_read.specs.SheetRead.{SheetRead}
use Rattle.sheet_read.specs.SheetRead.{Bad, Full, Read}
use Rattle.sheet_read.specs.Stopping.{SheetStops}
use Rattle.sheet_read.specs.Reading.{read_sheet, schema_from, sheet_answer}
use Rattle.rules_class.specs.Chain.{ChainEnds}
use Rattle.rules.specs.declared.row.Added.{Added}
use Rattle.rules.specs.declared.row.Added.TheVariants.{Nothing}
use Rattle.rules.specs.Rules.{breaks, schema_rules}
use Rattle.rules.specs.Judge.{FirstBroken}
use Rattle.rules.specs.Meets.{Meets, Met, RuleName, rule_number, class_not_live}
use Rattle.tables_shape.specs.Shape.{StoresFormed}
use Rattle.tables.specs.Same.{SameRows}
use Rattle.rows_read.specs.RowRead.{RowRead}
use Rattle.rows_read.specs.Reading.{row_answer}
use Rattle.rows_read.specs.ObjectClass.{read_row}
use Rattle.sheet_round_trip.specs.Exact.{ExactSheet}
use Rattle.keeper.specs.Load.{emptied, filled, load}
use Rattle.keeper.specs.Audit.{audit}
use Rattle.keeper.specs.Depth.{depth}
use Rattle.keeper.specs.Write.{sheet_of, write, written}
use Rattle.change_read.specs.declared.read.Change.{Change}
use Rattle.change_read.specs.ChangeRead.{ChangeRead}
use Rattle.change_read.specs.Carried.{target_of}
use Rattle.change_read.specs.Stopping.{ChangeStops}
use Rattle.change_read.specs.Reading.{change_out, read_change, change_answer, change_of, format_of, scratch}
use Rattle.change_model.specs.Conditions.{Condition, DemandDiffers}
use Rattle.change_model.specs.Model.{added_by, rows_after}
use Rattle.change_rows.specs.Rows.{is_addition, number_for, schema_after, table_for}
use Rattle.keeper_change.specs.Plain.{plain_change}
use Rattle.keeper_change.specs.Quick.{quick_change}
use Rattle.change_read.specs.ChangeRead as changes
use Rattle.schema.specs.Refusals as refusal
use Rattle.std.specs.Prelude.{Some, None}

-- ---- the words

-- "1 a lent store is shorter than its length"
abbrev pub SomeShort : Stores → Type 0
SomeShort s = (length s.attributes < store_length Attributes) ⊎ ((length s.classes < store_length Classes) ⊎ (length s.closure < closure_length))

-- "*Shape*: counts within limits, every field one that the reader could have stored, unused rows zero"
abbrev pub Shape : Stores → Type 0
Shape s = StoresFormed s.attributes s.classes

-- "kept sets equal to those worked out afresh, zero for unused rows"
abbrev pub Fresh : Stores → Type 0
Fresh s = (c : ℕ) → c < class_limit → closure_at s.closure c ≡ closure_row (schema_of s).classes c

-- "*In order*: shape, rules 12 to 29, and kept sets equal to those worked out afresh, zero for unused rows."
pub record InOrder (s : Stores) : Type 0 where
  pub long : LongEnough s
  pub shape : Shape s
  pub rules : Meets Nothing (schema_of s)
  pub fresh : Fresh s

-- a sheet that a load accepts: it reads, and the rows that it gives meet every rule
pub record Acceptable (sheet : List ℕ) : Type 0 where
  pub reads : (read_sheet sheet).answer ≡ Read
  pub rules : Meets Nothing (schema_from (read_sheet sheet).rows)

-- a change that is accepted by rows m: it reads, none of numbers 5 to 11 holds, the result meets every rule, what was added too, and no class that was
-- there would demand other attributes
pub record Accepted (x : List ℕ) (m : Schema) : Type 0 where
  pub change : Change
  pub carried : List ℕ
  pub reads : read_change x ≡ change_out (changes.Read change) carried
  pub asked : (n : ℕ) → n ≤ refusal.still_needed → ¬ (Condition change carried m n)
  pub rules : Meets (added_by change carried m.classes.count) (schema_after change carried m)
  pub demands : ¬ (DemandDiffers m.classes (schema_after change carried m).classes)

-- both have their lengths, and the bytes up to these are the same (docs/DECISIONS.md, R36: only the first bytes of a longer store count)
pub record Alike (s t : Stores) : Type 0 where
  pub left : LongEnough s
  pub right : LongEnough t
  pub attributes : part 0 (store_length Attributes) s.attributes ≡ part 0 (store_length Attributes) t.attributes
  pub classes : part 0 (store_length Classes) s.classes ≡ part 0 (store_length Classes) t.classes
  pub closure : part 0 closure_length s.closure ≡ part 0 closure_length t.closure

-- the bytes past the lengths are the same: "bytes past [the lengths] are never touched"
pub record SamePast (s t : Stores) : Type 0 where
  pub attributes : drop (store_length Attributes) s.attributes ≡ drop (store_length Attributes) t.attributes
  pub classes : drop (store_length Classes) s.classes ≡ drop (store_length Classes) t.classes
  pub closure : drop closure_length s.closure ≡ drop closure_length t.closure

-- the three stores hold bytes, as all memory does
pub record OfBytes (s : Stores) : Type 0 where
  pub attributes : Bytes s.attributes
  pub classes : Bytes s.classes
  pub closure : Bytes s.closure

-- the bytes of some stores, put into others that have their lengths. What stands past the lengths stays
unfoldable pub moved : Stores → Stores → Stores
moved s t =
    stores (splice 0 (part 0 (store_length Attributes) s.attributes) t.attributes) (splice 0 (part 0 (store_length Classes) s.classes) t.classes)
    (splice 0 (part 0 closure_length s.closure) t.closure)

-- what the value of a change reads as, from start up to stop
abbrev pub value_read : Change → List ℕ → ℕ → ℕ → RowRead
value_read change x start stop = (read_row (format_of change) x start stop scratch).answer

-- ---- demand 1: "Any bytes may come in as sheet, change or tables. No call wraps, reads astray or runs on, and none relies on its caller." That is
-- in the contracts:
-- no call has a `requires`, and each has its equation for every input. "a refused load leaves them empty, or untouched if one was too short":

pub record Demand1 : Type 0 where
  -- a store is too short: nothing is touched
  pub load_one : (sheet : List ℕ) (s : Stores) → SomeShort s → load sheet s ≡ result_of (refused refusal.short_store) s
  -- refused by any other number, every store byte is zero
  pub load_empty : (sheet : List ℕ) (s : Stores) → LongEnough s → ¬ ((load sheet s).answer.number ≡ 0) → (load sheet s).left ≡ emptied s
  -- "bytes past [the lengths] are never touched", accepted or not
  pub load_past : (sheet : List ℕ) (s : Stores) → Bytes sheet → LongEnough s → SamePast (load sheet s).left s
  -- "Load never looks at what stood in the stores": the answer and the bytes that it leaves are those that it gives with empty stores of exactly
  -- their lengths
  pub load_alone : (sheet : List ℕ) (s : Stores) → Bytes sheet → LongEnough s
      → load sheet s ≡ result_of (load sheet empty_stores).answer (moved (load sheet empty_stores).left s)
  -- no call looks past the lengths
  pub audit_alike : (s t : Stores) → Alike s t → audit s ≡ audit t
  pub depth_alike : (s t : Stores) → Alike s t → (c : ℕ) → depth s c ≡ depth t c
  pub write_alike : (s t : Stores) → Alike s t → (out : List ℕ) → write s out ≡ write t out
  -- "A refused change alters no byte of any lent store"
  pub plain_kept : (x : List ℕ) (s : Stores) → ¬ ((plain_change x s).answer.number ≡ 0) → (plain_change x s).left ≡ s
  pub quick_kept : (x : List ℕ) (s : Stores) → ¬ ((quick_change x s).answer.number ≡ 0) → (quick_change x s).left ≡ s
  -- "bytes past [the lengths] are never touched", nor looked at
  pub plain_past : (x : List ℕ) (s : Stores) → Bytes x → SamePast (plain_change x s).left s
  pub quick_past : (x : List ℕ) (s : Stores) → Bytes x → SamePast (quick_change x s).left s
  pub plain_alike : (x : List ℕ) (s t : Stores) → Bytes x → Alike s t
      → ((plain_change x s).answer ≡ (plain_change x t).answer) × Alike (plain_change x s).left (plain_change x t).left
  pub quick_alike : (x : List ℕ) (s t : Stores) → Bytes x → Alike s t
      → ((quick_change x s).answer ≡ (quick_change x t).answer) × Alike (quick_change x s).left (quick_change x t).left
  -- stores of bytes stay such
  pub load_bytes : (sheet : List ℕ) (s : Stores) → Bytes sheet → OfBytes s → OfBytes (load sheet s).left
  pub plain_bytes : (x : List ℕ) (s : Stores) → Bytes x → OfBytes s → OfBytes (plain_change x s).left
  pub quick_bytes : (x : List ℕ) (s : Stores) → Bytes x → OfBytes s → OfBytes (quick_change x s).left
  -- "Refused .. writes .. alter nothing"
  pub write_kept : (s : Stores) (out : List ℕ) → ¬ ((write s out).answer.number ≡ 0) → (write s out).output ≡ out

-- ---- demand 2: "A change is accepted and applied by the whole check exactly when the change rules hold and the resulting schema meets every schema
-- rule of document 01, after the published checks. Otherwise the smallest number whose condition holds is returned. An accepted
-- schema written as a sheet and loaded again is the same schema." Document 02: "Demand 2's smallest is the first in this order" (schema/Order).
-- What a reading or the chain of superclasses comes to is an enum; `sheet_answer`, `change_answer`, `field_answer`, `row_answer`, `number_answer`,
-- `class_answer` and `depth_answer` give the number and values of each of their cases.

pub record Demand2 : Type 0 where
  -- what `read_sheet` and `read_change` come to is what the fields that stand there say (sheet_read/Stopping, change_read/Stopping): `reads` in `Acceptable`
  -- is `SheetStops sheet Read`, and in `Accepted` it gives `ChangeStops x (Read change)`
  pub sheet_stops : (sheet : List ℕ) (answer : SheetRead) → ((read_sheet sheet).answer ≡ answer) ↔ SheetStops sheet answer
  pub change_stops : (x : List ℕ) (answer : ChangeRead) → ((read_change x).answer ≡ answer) ↔ ChangeStops x answer
  -- "Demand 2's smallest is the first in this order": a number of the order shares its rank with no other, so that the first is one number
  pub ranks_apart : (m n : ℕ) → rank m < length order → rank m ≡ rank n → m ≡ n
  -- every number that a call gives, on any input, has a place in the order. 22 has none (`unused` in PaperTables), and "is not used again"
  pub load_placed : (sheet : List ℕ) (s : Stores) → rank (load sheet s).answer.number < length order
  pub audit_placed : (s : Stores) → rank (audit s).number < length order
  pub write_placed : (s : Stores) (out : List ℕ) → rank (write s out).answer.number < length order
  pub depth_placed : (s : Stores) (c : ℕ) → rank (depth s c).number < length order
  pub plain_placed : (x : List ℕ) (s : Stores) → rank (plain_change x s).answer.number < length order
  pub quick_placed : (x : List ℕ) (s : Stores) → rank (quick_change x s).answer.number < length order
  -- a rule is met exactly if no row, active or defunct, breaks the rule of its number in the list: what `PaperTables` says of a number binds every call
  pub rule_met : (added : Added) (m : Schema) (rule : RuleName)
      → ((t : TableId) (k : ℕ) → k < (table t m).count → breaks added m (rule_number rule) t k ≡ false) ↔ Met added rule m
  -- load: 0 exactly if the stores are long enough, the sheet reads and its rows meet every rule
  pub load_zero : (sheet : List ℕ) (s : Stores) → ((load sheet s).answer.number ≡ 0) ↔ (LongEnough s × Acceptable sheet)
  -- then the stores hold exactly the rows of the sheet, and the closure that these give
  pub load_done : (sheet : List ℕ) (s : Stores) → LongEnough s → Acceptable sheet → load sheet s ≡ result_of passed (filled (read_sheet sheet).rows s)
  -- and are in order, and audit says so
  pub load_order : (sheet : List ℕ) (s : Stores) → Bytes sheet → LongEnough s → Acceptable sheet → InOrder (load sheet s).left
  pub load_audits : (sheet : List ℕ) (s : Stores) → Bytes sheet → LongEnough s → Acceptable sheet → audit (load sheet s).left ≡ passed
  -- "4 sheet or change unreadable; place is the byte offset": exactly if the stores are long enough and reading the sheet stops at a field that cannot be
  -- accepted or is missing, and that place is told
  pub load_four : (sheet : List ℕ) (s : Stores) → ((load sheet s).answer.number ≡ 4) ↔ (LongEnough s × ((at : ℕ) × SheetStops sheet (Bad at)))
  pub load_unreadable : (sheet : List ℕ) (s : Stores) → LongEnough s → (at : ℕ) → SheetStops sheet (Bad at) → load sheet s
      ≡ result_of (sheet_answer (Bad at)) (emptied s)
  -- "6 no free row; at load, told at the row's tag, before any 4 there, with table and limit": exactly if the rows before fill a table and the tag of one
  -- more stands there; then the answer is 6 1 256 or 6 2 128
  pub load_six : (sheet : List ℕ) (s : Stores) → ((load sheet s).answer.number ≡ 6) ↔ (LongEnough s × ((t : TableId) × SheetStops sheet (Full t)))
  pub load_full : (sheet : List ℕ) (s : Stores) → LongEnough s → (t : TableId) → SheetStops sheet (Full t) → load sheet s
      ≡ result_of (sheet_answer (Full t)) (emptied s)
  pub load_limit : (sheet : List ℕ) (s : Stores) → (load sheet s).answer.number ≡ 6
      → ((load sheet s).answer ≡ answer 6 1 256) ⊎ ((load sheet s).answer ≡ answer 6 2 128)
  -- the sheet reads, and some row breaks a rule: the first that is broken, "the table and lowest row that break the rule found, attributes first"
  pub load_rule : (sheet : List ℕ) (s : Stores) → LongEnough s → (read_sheet sheet).answer ≡ Read → ¬ Meets Nothing (schema_from (read_sheet sheet).rows)
      → FirstBroken (schema_from (read_sheet sheet).rows) (schema_rules Nothing) (load sheet s).answer
  -- it is the first in the order of judging (schema/Order): every rule that comes before it is met
  pub load_least : (sheet : List ℕ) (s : Stores) → LongEnough s → (read_sheet sheet).answer ≡ Read → (rule : RuleName)
      → ¬ (Met Nothing rule (schema_from (read_sheet sheet).rows)) → rank (load sheet s).answer.number ≤ rank (rule_number rule)
  -- plain change: 0 exactly if the stores are in order and their rows accept the change
  pub plain_zero : (x : List ℕ) (s : Stores) → ((plain_change x s).answer.number ≡ 0) ↔ (InOrder s × Accepted x (schema_of s))
  -- then "only that change is made": the stores hold exactly the rows of the model after it; "and the stores are in order"
  pub plain_rows : (x : List ℕ) (s : Stores) → Bytes x → (plain_change x s).answer.number ≡ 0
      → SameRows (schema_of (plain_change x s).left) (rows_after (read_change x).answer (read_change x).row (schema_of s))
  pub plain_order : (x : List ℕ) (s : Stores) → Bytes x → (plain_change x s).answer.number ≡ 0 → InOrder (plain_change x s).left
  -- "table and row changed or added"
  pub plain_done : (x : List ℕ) (s : Stores) → InOrder s → (h : Accepted x (schema_of s))
      → RowChanged (plain_change x s).answer (table_for h.change) (number_for h.change h.carried (schema_of s))
  -- else 1, 2, 3, 4 with its place, or the first number from 5 on, in the order of judging, whose condition holds
  pub plain_one : (x : List ℕ) (s : Stores) → SomeShort s → plain_change x s ≡ result_of (refused refusal.short_store) s
  pub plain_two : (x : List ℕ) (s : Stores) → LongEnough s → ¬ Shape s → plain_change x s ≡ result_of (refused refusal.broken_shape) s
  pub plain_three : (x : List ℕ) (s : Stores) → LongEnough s → Shape s → ¬ InOrder s → plain_change x s ≡ result_of (refused refusal.not_in_order) s
  -- 4 exactly if reading the change stops
  pub plain_four : (x : List ℕ) (s : Stores) → ((plain_change x s).answer.number ≡ 4) ↔ (InOrder s × ((at : ℕ) × ChangeStops x (changes.Bad at)))
  pub plain_unreadable : (x : List ℕ) (s : Stores) → InOrder s → (at : ℕ) → ChangeStops x (changes.Bad at)
      → plain_change x s ≡ result_of (change_answer (changes.Bad at)) s
  -- a change is one field, which may be missing or cut
  pub plain_field : (x : List ℕ) (s : Stores) → InOrder s → ¬ ((field_answer (length x) (field_at x 0 (length x))).number ≡ 0)
      → plain_change x s ≡ result_of (field_answer (length x) (field_at x 0 (length x))) s
  -- its value is read as a row is
  pub plain_value : (x : List ℕ) (s : Stores) → InOrder s → (tag start stop : ℕ) (change : Change) → field_at x 0 (length x) ≡ Field tag start stop
      → change_of tag ≡ Some change → ¬ ((row_answer (value_read change x start stop)).number ≡ 0)
      → plain_change x s ≡ result_of (row_answer (value_read change x start stop)) s
  -- a target that is no number of its table
  pub plain_target : (x : List ℕ) (s : Stores) → InOrder s → (change : Change) (r : List ℕ) → read_change x ≡ change_out (changes.Read change) r
      → is_addition change ≡ false → ¬ ((number_answer (number_read (table_for change) (target_of r))).number ≡ 0)
      → plain_change x s ≡ result_of (number_answer (number_read (table_for change) (target_of r))) s
  pub plain_refused : (x : List ℕ) (s : Stores) → InOrder s → (change : Change) (r : List ℕ) → read_change x ≡ change_out (changes.Read change) r
      → ¬ ((plain_change x s).answer.number ≡ 0)
      → Condition change r (schema_of s) (plain_change x s).answer.number × ((plain_change x s).answer ≡ refused (plain_change x s).answer.number)
  pub plain_least : (x : List ℕ) (s : Stores) → InOrder s → (change : Change) (r : List ℕ) → read_change x ≡ change_out (changes.Read change) r
      → (n : ℕ) → Condition change r (schema_of s) n → rank (plain_change x s).answer.number ≤ rank n
  -- quick change, on any stores, in order or not: 1, 2, and 4 with its place
  pub quick_one : (x : List ℕ) (s : Stores) → SomeShort s → quick_change x s ≡ result_of (refused refusal.short_store) s
  pub quick_two : (x : List ℕ) (s : Stores) → LongEnough s → ¬ Shape s → quick_change x s ≡ result_of (refused refusal.broken_shape) s
  -- 4 exactly if reading the change stops
  pub quick_four : (x : List ℕ) (s : Stores)
      → ((quick_change x s).answer.number ≡ 4) ↔ (LongEnough s × Shape s × ((at : ℕ) × ChangeStops x (changes.Bad at)))
  pub quick_unreadable : (x : List ℕ) (s : Stores) → LongEnough s → Shape s → (at : ℕ) → ChangeStops x (changes.Bad at)
      → quick_change x s ≡ result_of (change_answer (changes.Bad at)) s
  -- audit: 0 exactly if the stores are in order, and then no table and no place is named
  pub audit_zero : (s : Stores) → ((audit s).number ≡ 0) ↔ InOrder s
  pub audit_done : (s : Stores) → InOrder s → audit s ≡ passed
  pub audit_one : (s : Stores) → SomeShort s → audit s ≡ refused refusal.short_store
  pub audit_two : (s : Stores) → LongEnough s → ¬ Shape s → audit s ≡ refused refusal.broken_shape
  pub audit_rule : (s : Stores) → LongEnough s → Shape s → ¬ Meets Nothing (schema_of s) → FirstBroken (schema_of s) (schema_rules Nothing) (audit s)
  pub audit_least : (s : Stores) → LongEnough s → Shape s → (rule : RuleName) → ¬ (Met Nothing rule (schema_of s)) → rank (audit s).number
      ≤ rank (rule_number rule)
  -- "3 .. Audit: only kept sets are wrong"
  pub audit_three : (s : Stores) → LongEnough s → Shape s → Meets Nothing (schema_of s) → ¬ Fresh s → audit s ≡ refused refusal.not_in_order
  -- write: "0 and the length"; the output too short: nothing is written, and the place is the length needed
  pub write_one : (s : Stores) (out : List ℕ) → SomeShort s → write s out ≡ written (refused refusal.short_store) out
  pub write_two : (s : Stores) (out : List ℕ) → LongEnough s → ¬ Shape s → write s out ≡ written (refused refusal.broken_shape) out
  pub write_done : (s : Stores) (out : List ℕ) → LongEnough s → Shape s → length (sheet_of s) ≤ length out
      → write s out ≡ written (done (length (sheet_of s))) (splice 0 (sheet_of s) out)
  pub write_needs : (s : Stores) (out : List ℕ) → LongEnough s → Shape s → length out < length (sheet_of s) → write s out
      ≡ written (short_output (length (sheet_of s))) out
  -- no sheet is longer than the heading and the longest rows of both tables: 4 + 256 * 224 + 128 * 2761 bytes
  pub load_longest : (sheet : List ℕ) → Bytes sheet → (read_sheet sheet).answer ≡ Read → length sheet ≤ 410756
  pub write_longest : (s : Stores) → Shape s → length (sheet_of s) ≤ 410756
  -- depth: the steps of the chain up to row 0, and 18 where there is none over earlier classes
  pub depth_one : (s : Stores) (c : ℕ) → SomeShort s → depth s c ≡ refused refusal.short_store
  pub depth_two : (s : Stores) (c : ℕ) → LongEnough s → ¬ Shape s → depth s c ≡ refused refusal.broken_shape
  pub depth_five : (s : Stores) (c : ℕ) → LongEnough s → Shape s → (schema_of s).classes.count ≤ c → depth s c ≡ refused refusal.no_such_row
  -- so for a number beyond the limit
  pub depth_beyond : (s : Stores) (c : ℕ) → LongEnough s → Shape s → ¬ ((class_answer (class_read c)).number ≡ 0) → depth s c ≡ class_answer (class_read c)
  pub depth_steps : (s : Stores) (c k : ℕ) → LongEnough s → Shape s → c < (schema_of s).classes.count → EarlierChain (schema_of s).classes c k
      → depth s c ≡ depth_answer (Some k)
  pub depth_late : (s : Stores) (c : ℕ) → LongEnough s → Shape s → c < (schema_of s).classes.count → ((k : ℕ) → ¬ EarlierChain (schema_of s).classes c k)
      → depth s c ≡ depth_answer None
  -- where rule 18 is met every chain of superclasses comes to row 0, in at most as many steps as the number of its class says
  pub chain_ends : (added : Added) (m : Schema) → Met added class_not_live m → (c : ℕ) → c < m.classes.count → ChainEnds m.classes c
  -- so on stores that meet it, in order or not, depth never refuses by 18: it tells the steps of that chain
  pub depth_order : (s : Stores) (c : ℕ) → LongEnough s → Shape s → Met Nothing class_not_live (schema_of s) → c < (schema_of s).classes.count
      → (ends : ChainEnds (schema_of s).classes c) × (depth s c ≡ depth_answer (Some ends.steps))
  -- "Tables, sheet, tables gives the same bytes if in order": written into any output with room, and loaded into any stores
  pub write_load : (s t : Stores) (out : List ℕ) → InOrder s → OfBytes s → LongEnough t → length (sheet_of s) ≤ length out
      → load (part 0 (write s out).answer.place (write s out).output) t ≡ result_of passed (moved s t)
  -- and so is one that was changed
  pub plain_write_load : (x : List ℕ) (s t : Stores) (out : List ℕ) → Bytes x → OfBytes s → (plain_change x s).answer.number ≡ 0 → LongEnough t
      → length (sheet_of (plain_change x s).left) ≤ length out
      → load (part 0 (write (plain_change x s).left out).answer.place (write (plain_change x s).left out).output) t
      ≡ result_of passed (moved (plain_change x s).left t)
  -- "An accepted schema written as a sheet and loaded again is the same schema": whatever stores it was loaded into at first, and at last
  pub load_write_load : (sheet : List ℕ) (s t : Stores) (out : List ℕ) → Bytes sheet → OfBytes s → LongEnough s → Acceptable sheet → LongEnough t
      → length (sheet_of (load sheet s).left) ≤ length out
      → load (part 0 (write (load sheet s).left out).answer.place (write (load sheet s).left out).output) t
      ≡ result_of passed (moved (load sheet s).left t)
  -- "sheet, tables, sheet does if accepted and 08 stands exactly where oMSyntax is 127": the stores' sheet is the one that was loaded
  pub load_write : (sheet : List ℕ) (s : Stores) → Bytes sheet → LongEnough s → Acceptable sheet → ExactSheet sheet → sheet_of (load sheet s).left ≡ sheet
  -- and written into any output with room it is there again, its length is told, and no other byte of the output is altered
  pub load_writes : (sheet : List ℕ) (s : Stores) (out : List ℕ) → Bytes sheet → LongEnough s → Acceptable sheet → ExactSheet sheet
      → length sheet ≤ length out → write (load sheet s).left out ≡ written (done (length sheet)) (splice 0 sheet out)
