-- A change is made within the length of its store: what stands past it is neither looked at nor touched.
use Rattle.std.proofs.Math.ListN.{drop}
use Rattle.std.specs.Prelude.{length, ◌*◌, ◌+◌, ℕ, List, [], ◌≡◌, ◌⊎◌, false, true}
use Rattle.std.proofs.Common.{arith, ◌∙◌, ap₂, sym, inl, inr}
use Rattle.change_rows.specs.Stores.{Applicable, store_after}
use Rattle.change_rows.specs.RowsLaws.{edited_wide}
use Rattle.change_rows.specs.Rows.{edited_row, is_addition, table_for}
use Rattle.change_read.specs.declared.read.Change.{Change}
use Rattle.change_read.specs.Carried.{target_of}
use Rattle.schema.specs.declared.number.TableId.{TableId}
use Rattle.schema.specs.Store.{count_in, table_in}
use Rattle.schema.specs.Numbers.{limit}
use Rattle.schema.specs.Layout.{row_width, rows_at, store_length}
use Rattle.schema.specs.StoreLaws.{table_row_length}
use Rattle.tables.specs.Filled.{count_bytes, put_in}
use Rattle.tables.specs.SameLaws.{front_count}
use Rattle.tables.specs.PutFrontLaws.{plus_front, plus_past, put_front, put_past}
use Rattle.prelude.specs.Part.{part, splice}
use Rattle.prelude.specs.FrontLaws.{front_part}
use Rattle.prelude.specs.PartLaws.{row_fits}
use Rattle.prelude.specs.SaysLaws.{true_or_false}

module _ (change : Change) (r s : List ℕ) (ok : Applicable change r s) where
  abbrev of : TableId
  of = table_for change

  -- the row that was there, what becomes of it, and an added row have the width of their table
  pub old_wide : is_addition change ≡ false → length ((table_in of s).row (target_of r)) ≡ row_width of
  old_wide e = table_row_length of s (target_of r) ok.long (ok.within e)

  pub put_wide : is_addition change ≡ false → length (edited_row change r ((table_in of s).row (target_of r))) ≡ row_width of
  put_wide e = edited_wide change r ((table_in of s).row (target_of r)) ok.carried (inl (old_wide e))

  pub plus_wide : is_addition change ≡ true → length (edited_row change r []) ≡ row_width of
  plus_wide e = edited_wide change r [] ok.carried (inr e)

  pub after_past : drop (store_length of) (store_after change r s) ≡ drop (store_length of) s
  unfolding store_after
  after_past = go (true_or_false (is_addition change))
    where
      go : (is_addition change ≡ true) ⊎ (is_addition change ≡ false) → drop (store_length of) (store_after change r s) ≡ drop (store_length of) s
      go (inl e) = rw e (plus_past of s ok.long (edited_row change r []) (ok.room e) (plus_wide e))
      go (inr e) = rw e (put_past of s ok.long (target_of r) (edited_row change r ((table_in of s).row (target_of r))) (ok.within e) (put_wide e))

pub after_front : (change : Change) (r a b : List ℕ) → Applicable change r a → Applicable change r b
    → part 0 (store_length (table_for change)) a ≡ part 0 (store_length (table_for change)) b
    → part 0 (store_length (table_for change)) (store_after change r a) ≡ part 0 (store_length (table_for change)) (store_after change r b)
unfolding store_after
after_front change r a b p q front = go (true_or_false (is_addition change))
  where
    of : TableId
    of = table_for change

    n : ℕ
    n = store_length (table_for change)

    count : count_in (table_for change) a ≡ count_in (table_for change) b
    count = front_count (table_for change) a b front

    row : is_addition change ≡ false → (table_in (table_for change) a).row (target_of r) ≡ (table_in (table_for change) b).row (target_of r)
    row e = front_part (store_length (table_for change)) a b front (rows_at + row_width (table_for change) * target_of r) (row_width (table_for change))
        (row_fits rows_at (row_width (table_for change)) (limit (table_for change)) (target_of r) (store_length (table_for change)) (omega arith) (p.within e))

    go : (is_addition change ≡ true) ⊎ (is_addition change ≡ false)
        → part 0 (store_length (table_for change)) (store_after change r a) ≡ part 0 (store_length (table_for change)) (store_after change r b)
    go (inl e) =
        rw e
        (plus_front (table_for change) a p.long (edited_row change r []) (p.room e) (plus_wide change r a p e)
        ∙ ap₂ (λ (c : ℕ) (x : List ℕ). splice 0 (count_bytes (table_for change) (c + 1)) (put_in (table_for change) c (edited_row change r []) x)) count front
        ∙ sym (plus_front (table_for change) b q.long (edited_row change r []) (q.room e)
        (plus_wide change r b q e)))
    go (inr e) =
        rw e
        (put_front (table_for change) a p.long (target_of r) _ (p.within e)
        (put_wide change r a p e)
        ∙ ap₂ (λ (w x : List ℕ). put_in (table_for change) (target_of r) (edited_row change r w) x) (row e) front
        ∙ sym (put_front (table_for change) b q.long (target_of r) _ (q.within e)
        (put_wide change r b q e)))
