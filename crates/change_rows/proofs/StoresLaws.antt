-- What a change has done to a store can be taken back: the row and the count put back as they were, every byte is as it was.
use Rattle.std.specs.Prelude.{get_or, ◌*◌, ◌+◌, ◌<◌, ◌≤◌, ℕ, List, [], ◌∷◌, ◌≡◌, refl, ◌⊎◌, cond, false, true}
use Rattle.std.proofs.Math.ListN.{length}
use Rattle.std.proofs.Common.{drop-cons, arith, ◌∙◌, sym, inl, inr}
use Rattle.std.proofs.Math.Path.{ap}
use Rattle.change_rows.specs.Stores.{Applicable, row_changed, store_after, restored}
use Rattle.change_rows.specs.RowsLaws.{edited_wide}
use Rattle.change_rows.specs.Rows.{edited_row, is_addition, table_for}
use Rattle.schema.specs.declared.number.TableId.TheVariants.{Attributes, Classes}
use Rattle.schema.specs.declared.number.TableId.{TableId}
use Rattle.schema.specs.Store.{count_in, table_in}
use Rattle.schema.specs.NumbersLaws.{id_number}
use Rattle.schema.specs.Numbers.{limit, number_of}
use Rattle.schema.specs.Layout.{row_width, rows_at, store_length}
use Rattle.prelude.specs.Part.{Bytes, splice}
use Rattle.prelude.specs.BigEndianLaws.{bytes_length, bytes_of_number}
use Rattle.prelude.specs.PartLaws.{part_length, row_fits}
use Rattle.prelude.specs.SpliceLaws.{splice_apart, splice_length, splice_over, splice_part, splice_undo, splice_front}
use Rattle.prelude.specs.SaysLaws.{true_or_false}
use Rattle.change_read.specs.declared.read.Change.{Change}
use Rattle.change_read.specs.Carried.{target_of}
use Rattle.tables.specs.Filled.{count_bytes, plus_in, put_in}
use Rattle.tables.specs.PutLaws.{count_short}

-- the count that a store says, written again
count_same : (t : TableId) (s : List ℕ) → Bytes s → store_length t ≤ length s → splice 0 (count_bytes t (count_in t s)) s ≡ s
count_same Attributes s b long = ap (λ (x : List ℕ). splice 0 x s) (bytes_of_number s b 2 0 (omega arith)) ∙ splice_part 0 2 s (omega arith)
count_same Classes s b long = splice_front (get_or s 0 0 ∷ []) s ∙ sym (drop-cons s 0 0 (omega arith))

count_long : (t : TableId) (n m : ℕ) → length (count_bytes t n) ≡ length (count_bytes t m)
count_long Attributes n m = bytes_length 2 n ∙ sym (bytes_length 2 m)
count_long Classes n m = refl

module _ (t : TableId) (k : ℕ) (new s : List ℕ) (b : Bytes s) (long : store_length t ≤ length s) (within : k < limit t)
    (wide : length new ≡ row_width t) where
  inside : rows_at + row_width t * k + row_width t ≤ length s
  inside = row_fits rows_at (row_width t) (limit t) k (length s) long within

  abbrev back : List ℕ
  back = (table_in t s).row k

  back_wide : length back ≡ row_width t
  back_wide = part_length (rows_at + row_width t * k) (row_width t) s inside

  -- a row that was put in place
  pub put_restored : restored t k (count_in t s) ((table_in t s).row k) (put_in t k new s) ≡ s
  unfolding restored put_in
  put_restored =
      ap (splice 0 (count_bytes t (count_in t s))) (splice_undo (rows_at + row_width t * k) (row_width t) new s wide inside)
      ∙ count_same t s b long

  -- a row that was put last
  pub plus_restored : k ≡ count_in t s → restored t k (count_in t s) ((table_in t s).row k) (plus_in t new s) ≡ s
  unfolding restored put_in plus_in
  plus_restored e =
      let c = count_bytes t (count_in t s) in
      let d = count_bytes t (count_in t s + 1) in
      let cs = count_short t (count_in t s) in
      let ds = count_short t (count_in t s + 1) in
      let i = inside in
      let put : length (splice (rows_at + row_width t * k) new s) ≡ length s = splice_length (rows_at + row_width t * k) new s (omega arith) in
      ap (λ (n : ℕ). splice 0 c (splice (rows_at + row_width t * k) back (splice 0 d (splice (rows_at + row_width t * n) new s)))) (sym e)
      ∙ ap (splice 0 c) (sym (splice_apart 0 (rows_at + row_width t * k) d back (splice (rows_at + row_width t * k) new s) (omega arith)
      (omega (arith, back_wide))))
      ∙ splice_over 0 c d (splice (rows_at + row_width t * k) back (splice (rows_at + row_width t * k) new s)) (count_long t (count_in t s) (count_in t s + 1))
      (omega (arith, splice_length (rows_at + row_width t * k) back (splice (rows_at + row_width t * k) new s) (omega (arith, back_wide))))
      ∙ ap (splice 0 c) (splice_undo (rows_at + row_width t * k) (row_width t) new s wide inside)
      ∙ count_same t s b long

-- so what a change has done is taken back
pub change_restored : (change : Change) (r s : List ℕ) → Bytes s → Applicable change r s
    → restored (table_for change) (number_of (row_changed change r s)) (count_in (table_for change) s)
    ((table_in (table_for change) s).row (number_of (row_changed change r s))) (store_after change r s) ≡ s
unfolding store_after
change_restored change r s b ok =
    let t = table_for change in
    ap (λ (k : ℕ). restored t k (count_in t s) ((table_in t s).row k) (store_after change r s)) (id_number t _)
    ∙ go (true_or_false (is_addition change))
  where
    K : ℕ
    K = cond (is_addition change) (count_in (table_for change) s) (target_of r)

    go : (is_addition change ≡ true) ⊎ (is_addition change ≡ false)
        → restored (table_for change) K (count_in (table_for change) s) ((table_in (table_for change) s).row K) (store_after change r s) ≡ s
    go (inl q) = rw q (plus_restored (table_for change) (count_in (table_for change) s) (edited_row change r []) s b ok.long (ok.room q)
        (edited_wide change r [] ok.carried (inr q)) refl)
    go (inr q) = rw q (put_restored (table_for change) (target_of r) (edited_row change r ((table_in (table_for change) s).row (target_of r))) s b
        ok.long (ok.within q)
        (edited_wide change r _ ok.carried (inl (part_length (rows_at + row_width (table_for change) * target_of r) (row_width (table_for change)) s
        (row_fits rows_at (row_width (table_for change)) (limit (table_for change)) (target_of r) (length s) ok.long (ok.within q))))))
