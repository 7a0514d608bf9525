-- Stores that are longer than their lengths (docs/DECISIONS.md, R36): their shape is that of their first bytes. "Only the first bytes count; the rest
-- is neither looked at nor written."
use Rattle.std.specs.Prelude.{◌&&◌, Bool, List, refl, ◌≡◌, ◌*◌, ◌+◌, ◌-◌, ◌≤◌, ℕ, eqb, leb}
use Rattle.std.proofs.Common.{⊎_elim, ap, ap₂, ◌∙◌, arith}
use Rattle.prelude.specs.FrontLaws.{front_byte, front_part}
use Rattle.prelude.specs.BelowLaws.{all_cong}
use Rattle.prelude.specs.Part.{is_zero, part}
use Rattle.prelude.specs.PartLaws.{row_fits}
use Rattle.prelude.specs.SaysLaws.{says_le, says_split}
use Rattle.schema.specs.declared.number.TableId.TheVariants.{Attributes, Classes}
use Rattle.schema.specs.declared.number.TableId.{TableId}
use Rattle.schema.specs.Store.{count_in}
use Rattle.schema.specs.Numbers.{limit}
use Rattle.schema.specs.Layout.{row_width, rows_at, store_length}
use Rattle.tables.specs.SameLaws.{front_count}
use Rattle.rows_read.specs.WellFormed.{well_formed}
use Rattle.tables_shape.specs.Shape.{beside_zero, rows_formed, stores_formed, table_formed, unused_rows}
use Rattle.tables_shape.proofs.ShapeLaws.{rows_split}

module _ (t : TableId) (a b : List ℕ) (front : part 0 (store_length t) a ≡ part 0 (store_length t) b) where
  used_front : (n : ℕ) → n ≤ limit t → rows_formed t a n ≡ rows_formed t b n
  used_front n h =
      all_cong n _ _
      (λ k l. ap (well_formed t) (front_part (store_length t) a b front (rows_at + row_width t * k) (row_width t)
      (row_fits rows_at (row_width t) (limit t) k (store_length t) (omega arith) (omega arith))))

  unused_front : (n : ℕ) → n ≤ limit t → unused_rows t n a ≡ unused_rows t n b
  unused_front n h =
      front_part (store_length t) a b front (rows_at + row_width t * n) (row_width t * (limit t - n)) (omega (arith, rows_split (row_width t) (limit t) n h))

  rows_front : (n : ℕ) → (leb n (limit t) && (rows_formed t a n && is_zero (unused_rows t n a)))
      ≡ (leb n (limit t) && (rows_formed t b n && is_zero (unused_rows t n b)))
  rows_front n =
      ⊎_elim (λ q. ap₂ (λ (x : Bool) (y : List ℕ). leb n (limit t) && (x && is_zero y)) (used_front n q.1) (unused_front n q.1)) (λ q. rw q.0)
      (says_split (says_le n (limit t)))

beside_front : (t : TableId) (a b : List ℕ) → part 0 (store_length t) a ≡ part 0 (store_length t) b → beside_zero t a ≡ beside_zero t b
unfolding beside_zero
beside_front Attributes a b e = refl
beside_front Classes a b e = ap (λ (x : ℕ). eqb x 0) (front_byte (store_length Classes) a b e 1 (omega arith))

pub table_formed_front : (t : TableId) (a b : List ℕ) → part 0 (store_length t) a ≡ part 0 (store_length t) b → table_formed t a ≡ table_formed t b
unfolding table_formed
table_formed_front t a b e =
    ap₂ (λ (x y : Bool). x && y) (beside_front t a b e)
    (rows_front t a b e (count_in t a)
    ∙ ap (λ (n : ℕ). leb n (limit t) && (rows_formed t b n && is_zero (unused_rows t n b))) (front_count t a b e))

pub formed_front : (a b c d : List ℕ) → part 0 (store_length Attributes) a ≡ part 0 (store_length Attributes) b → part 0 (store_length Classes) c
    ≡ part 0 (store_length Classes) d
    → stores_formed a c ≡ stores_formed b d
unfolding stores_formed
formed_front a b c d e f = ap₂ (λ (x y : Bool). x && y) (table_formed_front Attributes a b e) (table_formed_front Classes c d f)
