-- What the shape of a store says, row by row, and what it gives to those who read the stores.
use Rattle.std.specs.Prelude.{true, ◌++◌, List, ◌≡◌, refl, ◌<◌, ◌*◌, ◌+◌, ◌-◌, ◌≤◌, ℕ, suc, zero, get_or, length}
use Rattle.std.proofs.Common.{ap, ap₂, sym, ◌∙◌, mul-le-mul_left, mul-add, arith}
use Rattle.prelude.specs.Says.{Says}
use Rattle.prelude.specs.Part.{is_zero, part, zeros}
use Rattle.prelude.specs.PartLaws.{part_add, part_length, part_none, part_part, part_zeros, says_zero, zeros_add}
use Rattle.prelude.specs.BelowLaws.{says_all}
use Rattle.prelude.specs.SaysLaws.{says_and, says_eq, says_iff, says_le, says_test}
use Rattle.schema.specs.declared.number.TableId.TheVariants.{Attributes, Classes}
use Rattle.schema.specs.declared.number.TableId.{TableId}
use Rattle.schema.specs.Store.{count_in, table_in}
use Rattle.schema.specs.Layout.{rows_at, store_length, row_width}
use Rattle.schema.specs.StoreLaws.{table_row_length}
use Rattle.schema.specs.Numbers.{limit}
use Rattle.tables.specs.Shaped.{Shaped, TableShaped}
use Rattle.graph.specs.Graph.{Readable}
use Rattle.rows_read.specs.FormedLaws.{formed_bounded}
use Rattle.rows_read.specs.WellFormed.{well_formed}
use Rattle.tables_shape.specs.Shape.{StoresFormed, TableFormed, beside_zero, stores_formed, table_formed, unused_rows}

-- ---- rows side by side are zero exactly where each of them is

rows_zero : (at w m : ℕ) (s : List ℕ) → ((j : ℕ) → j < m → part (at + w * j) w s ≡ zeros w) → part at (w * m) s ≡ zeros (w * m)
rows_zero at w zero s h = let z : w * 0 ≡ 0 = omega arith in rw z (part_none at s ∙ (unfold zeros in refl))
rows_zero at w (suc m) s h =
    let e : w * suc m ≡ w * m + w = omega arith in
    rw e (part_add at (w * m) w s ∙ ap₂ (λ (x y : List ℕ). x ++ y) (rows_zero at w m s (λ j l. h j (omega arith))) (h m (omega arith))
    ∙ sym (zeros_add (w * m) w))

zero_rows : (at w m : ℕ) (s : List ℕ) → part at (w * m) s ≡ zeros (w * m) → (j : ℕ) → j < m → part (at + w * j) w s ≡ zeros w
zero_rows at w m s e j l =
    let p : w * (j + 1) ≤ w * m = mul-le-mul_left w (omega arith) in
    let h : w * j + w ≤ w * m = omega arith in
    sym (part_part at (w * m) s (w * j) w h) ∙ ap (part (w * j) w) e ∙ part_zeros (w * j) w (w * m) h

-- ---- a store of either table

-- the rows in use and the unused ones fill the store
pub rows_split : (width m n : ℕ) → n ≤ m → width * n + width * (m - n) ≡ width * m
rows_split width m n l = let e : m ≡ n + (m - n) = omega arith in sym (mul-add width n (m - n)) ∙ ap (λ (x : ℕ). width * x) (sym e)

module _ (t : TableId) (n : ℕ) (s : List ℕ) (few : n ≤ limit t) (long : store_length t ≤ length s) where
  abbrev base : ℕ
  base = rows_at + row_width t * n

  unused_place : (k : ℕ) → n ≤ k → base + row_width t * (k - n) ≡ rows_at + row_width t * k
  unused_place k l = omega (arith, rows_split (row_width t) k n l)

  unused_length : length (unused_rows t n s) ≡ row_width t * (limit t - n)
  unused_length = part_length base (row_width t * (limit t - n)) s (omega (arith, rows_split (row_width t) (limit t) n few))

  unused_each : is_zero (unused_rows t n s) ≡ true → (k : ℕ) → n ≤ k → k < limit t → (table_in t s).row k ≡ zeros (row_width t)
  unused_each z k l m =
      let e : unused_rows t n s ≡ zeros (row_width t * (limit t - n)) = (says_zero (unused_rows t n s)).holds z ∙ ap zeros unused_length in
      ap (λ (at : ℕ). part at (row_width t) s) (sym (unused_place k l)) ∙ zero_rows base (row_width t) (limit t - n) s e (k - n) (omega arith)

  each_unused : ((k : ℕ) → n ≤ k → k < limit t → (table_in t s).row k ≡ zeros (row_width t)) → is_zero (unused_rows t n s) ≡ true
  each_unused h =
      (says_zero (unused_rows t n s)).passes
      (rows_zero base (row_width t) (limit t - n) s (λ j l. ap (λ (at : ℕ). part at (row_width t) s) (place j) ∙ h (n + j) (omega arith) (omega arith))
      ∙ ap zeros (sym unused_length))
    where
      place : (j : ℕ) → base + row_width t * j ≡ rows_at + row_width t * (n + j)
      place j = omega (arith, mul-add (row_width t) n j)

says_beside : (t : TableId) (s : List ℕ) → Says (beside_zero t s) (t ≡ Classes → get_or s 1 0 ≡ 0)
unfolding beside_zero
says_beside Attributes s = record { holds = λ e q. (let no : ◌≡◌ {A = ℕ} 0 1 = cc in absurd (omega arith)); passes = λ h. refl }
says_beside Classes s = says_iff (says_eq (get_or s 1 0) 0) (λ e q. e, λ h. h refl)

pub says_table_formed : (t : TableId) (s : List ℕ) → store_length t ≤ length s → Says (table_formed t s) (TableFormed t s)
unfolding table_formed
says_table_formed t s long =
    let n = count_in t s in
    says_iff
    (says_and (says_beside t s)
    (says_and (says_le n (limit t)) (says_and (says_all n (λ k l. says_test (well_formed t ((table_in t s).row k)))) (says_test (is_zero (unused_rows t n s)))))) (
      λ h. record { beside = h.0; few = h.1.0; rows = h.1.1.0; unused = unused_each t n s h.1.0 long h.1.1.1 },
      λ r. (r.beside, (r.few, (r.rows, each_unused t n s r.few long r.unused))),
    )

pub says_formed : (a c : List ℕ) → store_length Attributes ≤ length a → store_length Classes ≤ length c → Says (stores_formed a c) (StoresFormed a c)
unfolding stores_formed
says_formed a c la lc =
    says_iff (says_and (says_table_formed Attributes a la) (says_table_formed Classes c lc))
    (λ h. record { attributes = h.0; classes = h.1 }, λ r. (r.attributes, r.classes))

-- ---- what it gives: every row can be read

pub table_shaped : (t : TableId) (s : List ℕ) → store_length t ≤ length s → TableFormed t s → TableShaped t s
table_shaped t s long f =
    record {
      long = long;
      few = f.few;
      bounded = λ k l. formed_bounded t ((table_in t s).row k) (omega (arith, table_row_length t s k long (omega (arith, f.few)))) (f.rows k l);
    }

pub formed_shaped : (a c : List ℕ) → store_length Attributes ≤ length a → store_length Classes ≤ length c → stores_formed a c ≡ true → Shaped a c
formed_shaped a c la lc e =
    let f = (says_formed a c la lc).holds e in
    record { attributes = table_shaped Attributes a la f.attributes; classes = table_shaped Classes c lc f.classes }

pub formed_readable : (a c : List ℕ) → store_length Attributes ≤ length a → store_length Classes ≤ length c → stores_formed a c ≡ true → Readable c
formed_readable a c la lc e = let f = (says_formed a c la lc).holds e in record { long = lc; few = f.classes.few }
