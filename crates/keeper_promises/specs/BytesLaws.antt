-- A sheet of bytes, loaded into stores of bytes, leaves stores of bytes, whatever the answer; and the closure that a change leaves is of bytes.
use Rattle.std.specs.Prelude.{List, [], ◌∷◌, ◌++◌, ℕ, zero, suc, ◌≤◌, ◌+◌, ◌*◌, eqb, length}
use Rattle.std.proofs.Common.{arith}
use Rattle.prelude.specs.Concat.{concat_below}
use Rattle.prelude.specs.Part.{Bytes, zeros}
use Rattle.prelude.specs.PartLaws.{part_bytes}
use Rattle.sets.specs.Sets.{set_of, union}
use Rattle.sets.specs.SetsLaws.{set_bytes, union_bytes}
use Rattle.prelude.specs.BytesLaws.{append_bytes, cons_bytes, digits_bytes, no_bytes, padded_bytes, splice_bytes, zeros_bytes}
use Rattle.prelude.specs.SaysLaws.{choose}
use Rattle.schema.specs.declared.number.TableId.{TableId}
use Rattle.schema.specs.declared.number.TableId.TheVariants.{Attributes, Classes}
use Rattle.schema.specs.Layout.{store_length, closure_length, closure_width, class_set, attribute_set}
use Rattle.schema.specs.Numbers.{limit, class_limit}
use Rattle.schema.specs.Store.{Result, Stores, Table, any_short, closure_at}
use Rattle.tables.specs.Filled.{filled_store, header, joined, table_from}
use Rattle.graph.specs.Graph.{closure_row, closure_rows, reaches, demands, allows}
use Rattle.change_read.specs.declared.read.Change.{Change}
use Rattle.change_read.specs.declared.read.Change.TheVariants.{Add, SetRange, Rename, Deactivate, Reactivate, AddEntry, RemoveEntry}
use Rattle.change_read.specs.declared.carried.OpenList.{OpenList}
use Rattle.change_read.specs.declared.carried.OpenList.TheVariants.{Optional, Auxiliary, Superior}
use Rattle.change_read.specs.Carried.{entry_of, list_of, target_of}
use Rattle.closure_change.specs.After.{closure_after, entry_joined}
use Rattle.closure_change.specs.Kept.{each_holding, holds, joined_into, named_sets, new_row, option_row, own_row, refreshed_at, row_where, with_new}
use Rattle.sheet_read.specs.Reading.{read_sheet, rows_in}
use Rattle.sheet_read.specs.ReadingLaws.{AllRows, sheet_sound}
use Rattle.keeper.specs.Load.{emptied, filled, load, loaded, read_answer}
use Rattle.keeper_promises.specs.Promises.{OfBytes}

joined_bytes : (list : List (List ℕ)) → AllRows Bytes list → Bytes (joined list)
unfolding joined
joined_bytes [] h = no_bytes
joined_bytes (r ∷ list) h = append_bytes r (joined list) h.0 (joined_bytes list h.1)

header_bytes_lem : (t : TableId) (n : ℕ) → n ≤ limit t → Bytes (header t n)
header_bytes_lem Attributes n l = digits_bytes 2 n
header_bytes_lem Classes n l = cons_bytes n (0 ∷ []) (omega arith) (cons_bytes 0 [] (omega arith) no_bytes)

filled_store_bytes : (t : TableId) (list : List (List ℕ)) → length list ≤ limit t → AllRows Bytes list → Bytes (filled_store t list)
unfolding filled_store
filled_store_bytes t list few h = padded_bytes (store_length t) (header t (length list) ++ joined list)
    (append_bytes (header t (length list)) (joined list) (header_bytes_lem t (length list) few) (joined_bytes list h))

-- ---- the closure, worked out afresh or by a quick change

concat_bytes : (n : ℕ) (f : ℕ → List ℕ) → ((k : ℕ) → Bytes (f k)) → Bytes (concat_below n f)
unfolding concat_below
concat_bytes zero f h = no_bytes
concat_bytes (suc n) f h = append_bytes (concat_below n f) (f n) (concat_bytes n f h) (h n)

closure_row_bytes : (t : Table) (c : ℕ) → Bytes (closure_row t c)
unfolding closure_row
closure_row_bytes t c =
    append_bytes (set_of class_set (reaches t c)) (set_of attribute_set (demands t c) ++ set_of attribute_set (allows t c)) (set_bytes class_set (reaches t c))
    (append_bytes (set_of attribute_set (demands t c)) (set_of attribute_set (allows t c)) (set_bytes attribute_set (demands t c))
    (set_bytes attribute_set (allows t c)))

pub closure_rows_bytes : (t : Table) → Bytes (closure_rows t)
unfolding closure_rows
closure_rows_bytes t = concat_bytes class_limit (closure_row t) (closure_row_bytes t)

module _ (closure : List ℕ) (b : Bytes closure) where
  each_bytes : (n k : ℕ) (f : ℕ → List ℕ → List ℕ) → ((c : ℕ) → Bytes (f c (closure_at closure c))) → Bytes (each_holding n k f closure)
  unfolding each_holding row_where
  each_bytes n k f h =
      splice_bytes 0 (concat_below class_limit (row_where n k f closure)) closure
      (concat_bytes class_limit (row_where n k f closure)
      (λ c. choose Bytes (holds n k c (closure_at closure c)) (λ e. h c) (λ e. part_bytes (0 + closure_width * c) closure_width closure b)))
      b

  joined_in_bytes : (n k : ℕ) (more : List ℕ) → Bytes (joined_into n k more closure)
  unfolding joined_into
  joined_in_bytes n k more = each_bytes n k (λ c row. union row more) (λ c. union_bytes (closure_at closure c) more)

  entry_bytes_lem : (list : OpenList) (e n k : ℕ) → Bytes (entry_joined list e n k closure)
  entry_bytes_lem Optional e n k = joined_in_bytes n k (option_row e)
  entry_bytes_lem Auxiliary e n k = joined_in_bytes n k (closure_at closure e)
  entry_bytes_lem Superior e n k = b

  pub closure_after_bytes : (change : Change) (r : List ℕ) (t : Table) (n : ℕ) → Bytes (closure_after change r t n closure)
  unfolding with_new new_row refreshed_at
  closure_after_bytes (Add Attributes) r t n = b
  closure_after_bytes (Add Classes) r t n =
      splice_bytes (closure_width * n) (new_row t closure n) closure (union_bytes (named_sets t closure n) (own_row n (t.row n))) b
  closure_after_bytes SetRange r t n = b
  closure_after_bytes (Rename u) r t n = b
  closure_after_bytes (Deactivate u) r t n = b
  closure_after_bytes (Reactivate u) r t n = b
  closure_after_bytes AddEntry r t n = entry_bytes_lem (list_of r) (entry_of r) n (target_of r)
  closure_after_bytes RemoveEntry r t n = each_bytes n (target_of r) (λ c row. closure_row t c) (closure_row_bytes t)

-- ---- load

module _ (sheet : List ℕ) (s : Stores) (bytes : Bytes sheet) (b : OfBytes s) where
  rows_bytes : (t : TableId) → Bytes (filled_store t (rows_in t (read_sheet sheet).rows))
  rows_bytes t = filled_store_bytes t (rows_in t (read_sheet sheet).rows) (sheet_sound sheet bytes t).fit.few (sheet_sound sheet bytes t).bytes

  filled_bytes : OfBytes (filled (read_sheet sheet).rows s)
  unfolding filled
  filled_bytes =
      record {
        attributes = splice_bytes 0 (filled_store Attributes (read_sheet sheet).rows.attributes) s.attributes (rows_bytes Attributes) b.attributes;
        classes = splice_bytes 0 (filled_store Classes (read_sheet sheet).rows.classes) s.classes (rows_bytes Classes) b.classes;
        closure = splice_bytes 0 (closure_rows (table_from (read_sheet sheet).rows.classes)) s.closure
            (closure_rows_bytes (table_from (read_sheet sheet).rows.classes)) b.closure;
      }

  emptied_bytes : OfBytes (emptied s)
  unfolding emptied
  emptied_bytes =
      record {
        attributes = splice_bytes 0 (zeros (store_length Attributes)) s.attributes (zeros_bytes (store_length Attributes)) b.attributes;
        classes = splice_bytes 0 (zeros (store_length Classes)) s.classes (zeros_bytes (store_length Classes)) b.classes;
        closure = splice_bytes 0 (zeros closure_length) s.closure (zeros_bytes closure_length) b.closure;
      }

  -- refused by 1, the stores stay as they were; accepted, they hold what was read; refused otherwise, they are emptied
  pub load_bytes : OfBytes (load sheet s).left
  unfolding load loaded
  load_bytes =
      choose (λ (r : Result). OfBytes r.left) (any_short s) (λ e. b)
      (λ e. choose OfBytes (eqb (read_answer (read_sheet sheet)).number 0) (λ z. filled_bytes) (λ z. emptied_bytes))
