-- A row of a store that was lent to be edited, and comes back.
use Rattle.std.specs.Option.{unwrap_or}
use Rattle.prelude.specs.SaysLaws.{says_lt, says_true}
use lib.ListN.{drop, length, take}
use native.Mathlib.Omega.{arith}
use Prim.Native.Nat.{◌*◌, ◌+◌, ◌-◌, ◌≤◌, ℕ}
use mathlib.Core.List.{List, ◌++◌}
use mathlib.Core.Path.{◌∙◌, ◌≡◌, ap, ap₂, refl, sym}
use mathlib.Core.Bool.{Bool, cond, false, true, false≢true}
use mathlib.Core.Logic.{inl}
use Rattle.change_read.specs.declared.read.Change.TheVariants.{Add, SetRange, Rename, Deactivate, Reactivate, AddEntry, RemoveEntry}
use Rattle.change_read.specs.declared.read.Change.{Change}
use Rattle.change_read.specs.Carried.{added_row, target_of}
use Rattle.schema.specs.declared.number.TableId.{TableId}
use Rattle.schema.specs.Layout.{row_width, rows_at}
use Rattle.schema.specs.Numbers.{limit, number_read, row_id, table_of, number_of}
use Rattle.schema.specs.NumbersLaws.{id_table, id_number}
use Rattle.schema.specs.declared.number.RowId.{RowId}
use Rattle.schema.specs.Store.{count_in, table_in}
use Rattle.change_rows.specs.Stores.{Applicable, row_changed, store_after}
use Rattle.change_rows.specs.RowsLaws.{edited_wide}
use Rattle.change_rows.specs.Rows.{edited_row, is_addition, table_for}
use Rattle.prelude.specs.LentLaws.{lent_back}
use Rattle.prelude.specs.Part.{part, splice}
use Rattle.prelude.specs.PartLaws.{part_cut, part_length, row_fits}
use Rattle.tables.specs.Filled.{plus_in, put_in}
use Rattle.std.specs.Prelude.{None, Some}

-- the row of a change that has a target
pub row_target : (change : Change) (r s : List ℕ) {id : RowId} → is_addition change ≡ false → id ≡ row_changed change r s
    → (table_of id ≡ table_for change) × (number_of id ≡ target_of r)
row_target change r s fixed e = (
  ap table_of e ∙ id_table (table_for change) _,
  ap number_of e ∙ id_number (table_for change) _ ∙ ap (λ (b : Bool). cond b (count_in (table_for change) s) (target_of r)) fixed,
)

-- its number is never beyond the limit
pub target_read : (change : Change) (r s : List ℕ) → Applicable change r s → is_addition change ≡ false → (other : RowId)
    → unwrap_or (number_read (table_for change) (target_of r)) other ≡ row_id (table_for change) (target_of r)
target_read change r s ok fixed other =
    let t = table_for change in
    let n = target_of r in
    ap (λ b. unwrap_or (cond b (Some (row_id t n)) None) other) (says_true (says_lt n (limit t)) (omega (arith, ok.within fixed)))

-- where it stands
pub target_start : (change : Change) (r s : List ℕ) {at : ℕ} {id : RowId} → is_addition change ≡ false → id ≡ row_changed change r s
    → at ≡ rows_at + row_width (table_of id) * number_of id → at ≡ rows_at + row_width (table_for change) * target_of r
target_start change r s fixed e f =
    let is = row_target change r s fixed e in
    f ∙ ap₂ (λ (t : TableId) (k : ℕ). rows_at + row_width t * k) is.0 is.1

module _ (change : Change) (r s : List ℕ) (ok : Applicable change r s) (fixed : is_addition change ≡ false) (w at : ℕ)
    (wide : w ≡ row_width (table_for change)) (begins : at ≡ rows_at + row_width (table_for change) * target_of r) where
  pub row_inside : at + w ≤ length s
  row_inside = rw (begins, wide) (row_fits rows_at (row_width (table_for change)) (limit (table_for change)) (target_of r) (length s) ok.long (ok.within fixed))

  lent : take (at + w - at) (drop at s) ≡ (table_in (table_for change) s).row (target_of r)
  lent = part_cut at w s (at + w) refl ∙ ap₂ (λ (x y : ℕ). part x y s) begins wide

  pub lent_wide : length (take (at + w - at) (drop at s)) ≡ row_width (table_for change)
  lent_wide = ap length (part_cut at w s (at + w) refl) ∙ part_length at w s row_inside ∙ wide

  pub edited_back : (back : List ℕ) → back ≡ edited_row change r (take (at + w - at) (drop at s))
      → take at s ++ (back ++ drop (at + w - at) (drop at s)) ≡ store_after change r s
  unfolding store_after put_in
  edited_back back e =
      let new = edited_row change r ((table_in (table_for change) s).row (target_of r)) in
      let long : length new ≡ row_width (table_for change) = edited_wide change r _ ok.carried (inl (sym (ap length lent) ∙ lent_wide)) in
      rw fixed
      (lent_back at (at + w) s back new (omega (arith, long, wide)) (e ∙ ap (edited_row change r) lent) ∙ ap (λ (x : ℕ). splice x new s) begins)

-- a row that was put last
pub added_store : (change : Change) (r s : List ℕ) {new after : List ℕ} {t : TableId} → is_addition change ≡ true → t ≡ table_for change
    → new ≡ added_row t r → after ≡ plus_in t new s → after ≡ store_after change r s
unfolding store_after edited_row
added_store (Add u) r s h q e p = p ∙ ap₂ (λ (x : TableId) (y : List ℕ). plus_in x y s) q (e ∙ ap (λ (x : TableId). added_row x r) q)
added_store SetRange r s h q e p = absurd (false≢true h)
added_store (Rename u) r s h q e p = absurd (false≢true h)
added_store (Deactivate u) r s h q e p = absurd (false≢true h)
added_store (Reactivate u) r s h q e p = absurd (false≢true h)
added_store AddEntry r s h q e p = absurd (false≢true h)
added_store RemoveEntry r s h q e p = absurd (false≢true h)
