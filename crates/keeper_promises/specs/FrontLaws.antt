-- A load comes from the sheet alone. Document 01: "Load never looks at what stood in the stores"; demand 3: "The rows in its stores are those that
-- sheet and changes alone give: at first as the sheet reads". docs/DECISIONS.md, R36: only the first bytes count; the rest is neither looked at nor
-- written.
use Rattle.std.specs.Prelude.{Bool, ◌≡◌, ℕ, ◌+◌, ◌≤◌, eqb, drop}
use Rattle.std.proofs.Math.Bool.{true, false, cond}
use mathlib.Core.List.{List, []}
use Rattle.std.proofs.Math.Path.{refl, ap}
use Rattle.std.proofs.Common.{sym, subst, ◌∙◌, arith}
use Rattle.std.proofs.Math.ListN.{length}
use Rattle.prelude.specs.Part.{part, splice, Bytes}
use Rattle.prelude.specs.PartLaws.{zeros_length}
use Rattle.prelude.specs.SpliceLaws.{splice_length, splice_after, part_splice_same}
use Rattle.schema.specs.Layout.{closure_length, store_length}
use Rattle.schema.specs.declared.answer.Answer.{Answer}
use Rattle.schema.specs.declared.number.TableId.{TableId}
use Rattle.schema.specs.declared.number.TableId.TheVariants.{Attributes, Classes}
use Rattle.schema.specs.Store.{LongEnough, Stores, Result, stores, result_of}
use Rattle.tables.specs.Filled.{empty_stores, filled_store, table_from}
use Rattle.tables.specs.FilledLaws.{store_length_lem}
use Rattle.graph.specs.Graph.{closure_rows}
use Rattle.graph.proofs.FreshLaws.{closure_rows_length}
use Rattle.sheet_read.specs.Reading.{read_sheet, rows_in}
use Rattle.sheet_read.specs.ReadingLaws.{sheet_sound}
use Rattle.keeper.specs.InShapeLaws.{not_short}
use Rattle.keeper.specs.Load.{emptied, read_answer, filled, loaded, load}
use Rattle.keeper.specs.LoadLaws.{load_long, empty_long}
use Rattle.keeper_promises.specs.Promises.{moved, SamePast}

-- ---- the front of a store replaced

module _ (n : ℕ) (p q : List ℕ) (e : length p ≡ n) (l : n ≤ length q) where
  fits : 0 + length p ≤ length q
  fits = omega arith

  pub put_front : part 0 n (splice 0 p q) ≡ p
  put_front = part_splice_same 0 p q fits n (sym e)

  pub put_long : n ≤ length (splice 0 p q)
  put_long = omega (arith, splice_length 0 p q fits)

  pub put_past : drop n (splice 0 p q) ≡ drop n q
  put_past = splice_after 0 p q fits n (omega arith)

-- ---- the fronts of the stores replaced

-- stores of exactly their lengths
record Exact (p : Stores) : Type 0 where
  pub attributes : length p.attributes ≡ store_length Attributes
  pub classes : length p.classes ≡ store_length Classes
  pub closure : length p.closure ≡ closure_length

-- p at the front of s
abbrev put : Stores → Stores → Stores
put p s = stores (splice 0 p.attributes s.attributes) (splice 0 p.classes s.classes) (splice 0 p.closure s.closure)

module _ (p s : Stores) (e : Exact p) (h : LongEnough s) where
  stores_past : SamePast (put p s) s
  stores_past =
      record {
        attributes = put_past (store_length Attributes) p.attributes s.attributes e.attributes h.attributes;
        classes = put_past (store_length Classes) p.classes s.classes e.classes h.classes;
        closure = put_past closure_length p.closure s.closure e.closure h.closure;
      }

  attributes_front : part 0 (store_length Attributes) (put p s).attributes ≡ p.attributes
  attributes_front = put_front (store_length Attributes) p.attributes s.attributes e.attributes h.attributes

  classes_front : part 0 (store_length Classes) (put p s).classes ≡ p.classes
  classes_front = put_front (store_length Classes) p.classes s.classes e.classes h.classes

  closure_front : part 0 closure_length (put p s).closure ≡ p.closure
  closure_front = put_front closure_length p.closure s.closure e.closure h.closure

-- put into one store, and moved into another
put_moved : (p s t : Stores) → Exact p → LongEnough s → moved (put p s) t ≡ put p t
unfolding moved
put_moved p s t e h =
    λ i. stores (splice 0 (attributes_front p s e h i) t.attributes) (splice 0 (classes_front p s e h i) t.classes)
    (splice 0 (closure_front p s e h i) t.closure)

empty_exact : Exact empty_stores
empty_exact = record {
  attributes = zeros_length (store_length Attributes);
  classes = zeros_length (store_length Classes);
  closure = zeros_length
      closure_length;
}

-- ---- a load

module _ (sheet : List ℕ) (bytes : Bytes sheet) where
  abbrev verdict : Answer
  verdict = read_answer (read_sheet sheet)

  -- what the sheet alone gives
  rows : Stores
  rows =
      stores (filled_store Attributes (read_sheet sheet).rows.attributes) (filled_store Classes (read_sheet sheet).rows.classes)
      (closure_rows (table_from (read_sheet sheet).rows.classes))

  given : Stores
  given = cond (eqb verdict.number 0) rows empty_stores

  given_exact : Exact given
  unfolding given rows
  given_exact = either (eqb verdict.number 0)
    where
      long : (t : TableId) → length (filled_store t (rows_in t (read_sheet sheet).rows)) ≡ store_length t
      long t = store_length_lem t _ [] (sheet_sound sheet bytes t).fit.wide (sheet_sound sheet bytes t).fit.few

      either : (b : Bool) → Exact (cond b rows empty_stores)
      either true = record { attributes = long Attributes; classes = long Classes; closure = closure_rows_length _ }
      either false = empty_exact

  load_given : (s : Stores) → LongEnough s → load sheet s ≡ result_of verdict (put given s)
  unfolding given rows loaded filled emptied
  load_given s h = load_long sheet s (not_short s h) ∙ ap (result_of verdict) (either (eqb verdict.number 0))
    where
      either : (b : Bool) → cond b (filled (read_sheet sheet).rows s) (emptied s) ≡ put (cond b rows empty_stores) s
      either true = refl
      either false = refl

  pub load_alone : (s : Stores) → LongEnough s → load sheet s ≡ result_of (load sheet empty_stores).answer (moved (load sheet empty_stores).left s)
  load_alone s h =
      load_given s h ∙ ap (result_of verdict) (sym (put_moved given empty_stores s given_exact empty_long))
      ∙ sym (ap (λ (x : Result). result_of x.answer (moved x.left s)) (load_given empty_stores empty_long))

  pub load_past : (s : Stores) → LongEnough s → SamePast (load sheet s).left s
  load_past s h = subst (λ (x : Result). SamePast x.left s) (sym (load_given s h)) (stores_past given s given_exact h)
