-- Demand 2: "An accepted schema written as a sheet and loaded again is the same schema." Document 01: "Tables, sheet, tables gives the same bytes if
-- in order;
-- sheet, tables, sheet does if accepted and 08 stands exactly where oMSyntax is 127."
use Rattle.std.specs.Prelude.{List, ◌≡◌, refl, ◌≤◌, ℕ, length}
use Rattle.std.proofs.Common.{ap, subst, ◌∙◌, arith}
use Rattle.std.proofs.Math.Path.{sym}
use Rattle.prelude.specs.Part.{Bytes, part, splice}
use Rattle.prelude.specs.SpliceLaws.{part_splice_same}
use Rattle.schema.specs.declared.number.TableId.TheVariants.{Classes}
use Rattle.schema.specs.Answers.{done, passed}
use Rattle.schema.specs.Layout.{closure_length}
use Rattle.schema.specs.Store.{LongEnough, Result, Stores, result_of, schema_of, stores}
use Rattle.tables.specs.Same.{SameRows}
use Rattle.graph.proofs.FreshLaws.{fresh_bytes}
use Rattle.graph.specs.Graph.{closure_rows}
use Rattle.graph.proofs.SameLaws.{closure_rows_same}
use Rattle.rules.specs.declared.row.Added.TheVariants.{Nothing}
use Rattle.rules.specs.Meets.{Meets}
use Rattle.rules.proofs.MeetsLaws.{meets}
use Rattle.rules.proofs.SameLaws.{kept_same}
use Rattle.sheet_read.specs.Held.{Lent}
use Rattle.sheet_read.specs.Reading.{Rows, SheetOut, read_sheet, schema_from, sheet_out}
use Rattle.sheet_read.specs.ReadingLaws.{sheet_sound}
use Rattle.sheet_read.specs.SheetRead.{Read}
use Rattle.sheet_round_trip.specs.Exact.{ExactSheet}
use Rattle.sheet_round_trip.specs.Longest.{longest_sheet}
use Rattle.sheet_round_trip.specs.LongestLaws.{written_longest}
use Rattle.sheet_round_trip.proofs.SheetLaws.{both_held, both_same, read_written, stores_held, written_read}
use Rattle.sheet_write.specs.SameLaws.{sheet_same}
use Rattle.keeper.specs.Load.{filled, load}
use Rattle.keeper.specs.LoadLaws as loading
use Rattle.keeper.specs.Write.{Written, sheet_of, write, written}
use Rattle.keeper_promises.specs.Promises.{Acceptable, InOrder, OfBytes, Shape, moved}
use Rattle.keeper_promises.specs.BytesLaws.{load_bytes}
use Rattle.keeper_promises.specs.CallLaws.{write_done}
use Rattle.keeper_promises.specs.LoadLaws.{load_done, load_order}
use Rattle.keeper_promises.specs.OrderLaws.{order_fresh, order_shape}

-- ---- stores, sheet, stores

module _ (s : Stores) (h : InOrder s) (bytes : OfBytes s) where
  abbrev held : Rows
  held = both_held s.attributes s.classes

  -- the sheet of the stores gives the rows that they hold
  read_again : read_sheet (sheet_of s) ≡ sheet_out Read held
  read_again =
      written_read s.attributes s.classes bytes.attributes bytes.classes h.long.attributes h.long.classes (order_shape s h).formed

  same_rows : SameRows (schema_of s) (schema_from held)
  same_rows = both_same s.attributes s.classes bytes.attributes bytes.classes h.long.attributes h.long.classes (order_shape s h).formed

  written_acceptable : Acceptable (sheet_of s)
  written_acceptable =
      record {
        reads = ap (λ (x : SheetOut). x.answer) read_again;
        rules = subst (λ (x : SheetOut). Meets Nothing (schema_from x.rows)) (sym read_again)
            ((meets Nothing (schema_from held)).0 (kept_same same_rows Nothing ((meets Nothing (schema_of s)).1 h.rules)));
      }

  -- and their closure is the one that stood in the stores
  closure_again : closure_rows (schema_from held).classes ≡ part 0 closure_length s.closure
  closure_again = sym (fresh_bytes (schema_of s).classes s.closure (order_fresh s h) ∙ closure_rows_same (same_rows Classes))

  filled_again : (t : Stores) → filled held t ≡ moved s t
  unfolding filled moved
  filled_again t =
      let e = stores_held s.attributes s.classes bytes.attributes bytes.classes h.long.attributes h.long.classes
      (order_shape s h).formed in
      let p = sym e.0 in
      let q = sym e.1 in
      λ i. stores (splice 0 (p i) t.attributes) (splice 0 (q i) t.classes) (splice 0 (closure_again i) t.closure)

  -- stores in order, written as a sheet and loaded into any stores, are there in every byte
  sheet_loads : (t : Stores) → LongEnough t → load (sheet_of s) t ≡ result_of passed (moved s t)
  sheet_loads t room =
      load_done (sheet_of s) t room written_acceptable ∙ ap (result_of passed) (ap (λ (x : SheetOut). filled x.rows t) read_again ∙ filled_again t)

-- what a write has written, by the length that it gives back, loads again into any stores as the stores that were written
pub write_load : (s t : Stores) (out : List ℕ) → InOrder s → OfBytes s → LongEnough t → length (sheet_of s) ≤ length out
    → load (part 0 (write s out).answer.place (write s out).output) t ≡ result_of passed (moved s t)
write_load s t out h bytes room l =
    ap (λ (w : Written). load (part 0 w.answer.place w.output) t) (write_done s out h.long h.shape l)
    ∙ ap (λ (x : List ℕ). load x t) (part_splice_same 0 (sheet_of s) out (omega arith) (length (sheet_of s)) refl) ∙ sheet_loads s h bytes t room

pub load_write_load : (sheet : List ℕ) (s t : Stores) (out : List ℕ) → Bytes sheet → OfBytes s → LongEnough s → Acceptable sheet → LongEnough t
    → length (sheet_of (load sheet s).left) ≤ length out
    → load (part 0 (write (load sheet s).left out).answer.place (write (load sheet s).left out).output) t ≡ result_of passed (moved (load sheet s).left t)
load_write_load sheet s t out b bytes long h room l =
    write_load (load sheet s).left t out (load_order sheet s b long h) (load_bytes sheet s b bytes) room l

-- ---- sheet, stores, sheet

module _ (sheet : List ℕ) (s : Stores) (bytes : Bytes sheet) (long : LongEnough s) (h : Acceptable sheet) (exact : ExactSheet sheet) where
  lent : Lent s.attributes s.classes
  lent = record { attributes = long.attributes; classes = long.classes }

  filled_written : sheet_of (filled (read_sheet sheet).rows s) ≡ sheet
  unfolding filled
  filled_written =
      sheet_same (loading.both_same (read_sheet sheet).rows (sheet_sound sheet bytes) s.attributes s.classes lent)
      ∙ read_written sheet bytes exact h.reads

  -- an accepted sheet in which 08 stands exactly where oMSyntax is 127 is the sheet of the stores that it was loaded into
  pub load_write : sheet_of (load sheet s).left ≡ sheet
  load_write = ap (λ (x : Result). sheet_of x.left) (load_done sheet s long h) ∙ filled_written

  -- and a write gives it back, its length and nothing else
  pub load_writes : (out : List ℕ) → length sheet ≤ length out → write (load sheet s).left out ≡ written (done (length sheet)) (splice 0 sheet out)
  load_writes out room =
      let order = load_order sheet s bytes long h in
      write_done (load sheet s).left out order.long order.shape (omega (arith, ap length load_write))
      ∙ ap (λ (x : List ℕ). written (done (length x)) (splice 0 x out)) load_write

-- ---- how long a sheet can be

pub write_longest : (s : Stores) → Shape s → length (sheet_of s) ≤ longest_sheet
write_longest s h = written_longest (schema_of s) h.attributes.few h.classes.few
