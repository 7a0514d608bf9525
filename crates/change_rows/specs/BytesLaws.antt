-- A change that was read from bytes, made in a store of bytes, leaves bytes.
use Rattle.std.specs.Prelude.{ℕ, List, [], ◌∷◌, ◌≡◌, ◌⊎◌, false, true}
use Rattle.std.proofs.Common.{arith, inl, inr}
use Rattle.schema.specs.declared.number.TableId.{TableId}
use Rattle.schema.specs.Store.{table_in}
use Rattle.schema.specs.Layout.{defunct_at, name_at, range_lower_at, row_width}
use Rattle.change_read.specs.declared.read.Change.{Change}
use Rattle.change_read.specs.declared.read.Change.TheVariants.{Add, SetRange, Rename, Deactivate, Reactivate, AddEntry, RemoveEntry}
use Rattle.change_read.specs.Carried.{entry_of, list_of, new_name, new_range, target_of}
use Rattle.change_rows.specs.Lists.{open_at, open_of}
use Rattle.change_rows.specs.Rows.{edited_row, is_addition, table_for}
use Rattle.change_rows.specs.Stores.{Applicable, store_after}
use Rattle.sets.specs.SetsLaws.{with_bytes, without_bytes}
use Rattle.tables.specs.PutFrontLaws.{plus_bytes, put_bytes}
use Rattle.prelude.specs.Part.{Bytes}
use Rattle.prelude.specs.PartLaws.{part_bytes}
use Rattle.prelude.specs.BytesLaws.{cons_bytes, no_bytes, splice_bytes}
use Rattle.prelude.specs.SaysLaws.{true_or_false}

edited_bytes : (change : Change) (r row : List ℕ) → Bytes r → Bytes row → Bytes (edited_row change r row)
unfolding edited_row
edited_bytes (Add t) r row b c = part_bytes 0 (row_width t) r b
edited_bytes SetRange r row b c = splice_bytes range_lower_at (new_range r) row (part_bytes _ _ r b) c
edited_bytes (Rename t) r row b c = splice_bytes name_at (new_name r) row (part_bytes _ _ r b) c
edited_bytes (Deactivate t) r row b c = splice_bytes defunct_at (1 ∷ []) row (cons_bytes 1 [] (omega arith) no_bytes) c
edited_bytes (Reactivate t) r row b c = splice_bytes defunct_at (0 ∷ []) row (cons_bytes 0 [] (omega arith) no_bytes) c
edited_bytes AddEntry r row b c = splice_bytes (open_at (list_of r)) _ row (with_bytes (entry_of r) (open_of (list_of r) row)) c
edited_bytes RemoveEntry r row b c = splice_bytes (open_at (list_of r)) _ row (without_bytes (entry_of r) (open_of (list_of r) row)) c

pub after_bytes : (change : Change) (r s : List ℕ) → Applicable change r s → Bytes r → Bytes s → Bytes (store_after change r s)
unfolding store_after
after_bytes change r s ok carried bytes = go (true_or_false (is_addition change))
  where
    of : TableId
    of = table_for change

    go : (is_addition change ≡ true) ⊎ (is_addition change ≡ false) → Bytes (store_after change r s)
    go (inl e) = rw e (plus_bytes of (edited_row change r []) s (edited_bytes change r [] carried no_bytes) bytes (ok.room e))
    go (inr e) =
        let old = (table_in of s).row (target_of r) in
        rw e (put_bytes of (edited_row change r old) s (edited_bytes change r old carried (part_bytes _ _ s bytes)) bytes (target_of r))
