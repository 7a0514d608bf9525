-- What the test of short stores says, the rows of a changed table, and a row of the closure store that was lent on and came back.
use Rattle.std.specs.Prelude.{false, List, ◌++◌, ◌⊎◌, ◌≡◌, ℕ, suc, ◌+◌, ◌-◌, ◌*◌, ◌≤◌, ◌<◌, length, take, drop}
use Rattle.std.proofs.Common.{inl, inr, ap, ap₂, sym, ◌∙◌, arith}
use Rattle.std.proofs.Math.Path.{refl}
use Rattle.prelude.specs.Says.{Says}
use Rattle.prelude.specs.SaysLaws.{says, says_fails, says_true, says_false, says_eq}
use Rattle.prelude.specs.LentLaws.{lent_back}
use Rattle.prelude.specs.Part.{part, splice}
use Rattle.prelude.specs.PartLaws.{row_length, row_wide}
use Rattle.schema.specs.declared.number.TableId.{TableId}
use Rattle.schema.specs.declared.number.TableId.TheVariants.{Attributes, Classes}
use Rattle.schema.specs.Numbers.{limit, class_limit, number_of, row_id, table_of}
use Rattle.schema.specs.Layout.{rows_at, row_width, store_length, closure_width, closure_length}
use Rattle.schema.specs.Store.{Table, table_in, closure_at, with_row, plus_row, Stores, any_short, LongEnough, schema_in, store_of, table}
use Rattle.schema.specs.declared.number.RowId.{RowId}
use Rattle.schema.specs.NumbersLaws.{id_number, id_table}

-- some store is shorter than its length
pub says_short : (s : Stores)
    → Says (any_short s) ((length s.attributes < store_length Attributes)
    ⊎ ((length s.classes < store_length Classes) ⊎ (length s.closure < closure_length)))
unfolding any_short
says_short s = search says

-- the test has failed: every store has its length
pub long_enough : (s : Stores) → any_short s ≡ false → LongEnough s
long_enough s e =
    let no = says_fails (says_short s) e in
    let a : length s.attributes < store_length Attributes → ⊥ = λ l. no (inl l) in
    let c : length s.classes < store_length Classes → ⊥ = λ l. no (inr (inl l)) in
    let k : length s.closure < closure_length → ⊥ = λ l. no (inr (inr l)) in
    record { attributes = omega arith; classes = omega arith; closure = omega arith }

-- ---- a changed table

module _ (t : Table) (k : ℕ) (new : List ℕ) where
  pub with_count : (with_row t k new).count ≡ t.count
  unfolding with_row
  with_count = refl

  pub with_same : (j : ℕ) → j ≡ k → (with_row t k new).row j ≡ new
  unfolding with_row
  with_same j e = rw (says_true (says_eq j k) e)

  pub with_other : (j : ℕ) → ¬ (j ≡ k) → (with_row t k new).row j ≡ t.row j
  unfolding with_row
  with_other j d = rw (says_false (says_eq j k) d)

module _ (t : Table) (new : List ℕ) where
  pub plus_count : (plus_row t new).count ≡ suc t.count
  unfolding plus_row
  plus_count = refl

  pub plus_last : (j : ℕ) → j ≡ t.count → (plus_row t new).row j ≡ new
  unfolding plus_row
  plus_last j e = rw (says_true (says_eq j t.count) e)

  pub plus_other : (j : ℕ) → j < t.count → (plus_row t new).row j ≡ t.row j
  unfolding plus_row
  plus_other j l = rw (says_false (says_eq j t.count) (λ e. omega arith))

-- ---- a row that was looked up is a whole row

pub table_row_length : (t : TableId) (s : List ℕ) (k : ℕ) → store_length t ≤ length s → k < limit t → length ((table_in t s).row k) ≡ row_width t
table_row_length t s k = row_length rows_at (row_width t) (limit t) k s

pub table_row_wide : (t : TableId) (s r : List ℕ) (k : ℕ) → store_length t ≤ length s → k < limit t → r ≡ (table_in t s).row k → row_width t ≤ length r
table_row_wide t s r k = row_wide rows_at (row_width t) (limit t) k s r

pub closure_wide : (s r : List ℕ) (k : ℕ) → closure_length ≤ length s → k < class_limit → r ≡ closure_at s k → closure_width ≤ length r
closure_wide s r k = row_wide 0 closure_width class_limit k s r

-- ---- the part of the closure store at one class

-- lent on, and come back as another row
pub closure_lent_back : (c at end : ℕ) (closure back new : List ℕ) → at ≡ closure_width * c → end ≡ at + closure_width → length new ≡ closure_width
    → back ≡ new → take at closure ++ (back ++ drop (end - at) (drop at closure)) ≡ splice (closure_width * c) new closure
closure_lent_back c at end closure back new e f w q =
    lent_back at end closure back new (f ∙ ap (λ (n : ℕ). at + n) (sym w)) q ∙ ap (λ (n : ℕ). splice n new closure) e

-- as it was lent
pub closure_lent : (c at end : ℕ) (closure : List ℕ) → at ≡ closure_width * c → end ≡ at + closure_width
    → take (end - at) (drop at closure) ≡ closure_at closure c
unfolding part
closure_lent c at end closure e f =
    let i : at ≡ 0 + closure_width * c = omega arith in
    let n : end - at ≡ closure_width = omega arith in
    ap₂ (λ (a b : ℕ). take a (drop b closure)) n i

-- ---- a row by the number that a table and a place in it make

pub id_row : (t : TableId) (k : ℕ) (s : List ℕ) {i : RowId} → i ≡ row_id t k → (table_in (table_of i) s).row (number_of i) ≡ (table_in t s).row k
id_row t k s e = rw (e, id_table t k, id_number t k)

pub id_within : (t : TableId) (k : ℕ) (s : List ℕ) {i : RowId} → i ≡ row_id t k → store_length t ≤ length s → k < limit t
    → (store_length (table_of i) ≤ length s) × (number_of i < limit (table_of i))
id_within t k s e long few = rw (e, id_table t k, id_number t k) (long, few)

-- the table of two stores that are lent
pub schema_table : (t : TableId) (a c : List ℕ) → table t (schema_in a c) ≡ table_in t (store_of t a c)
schema_table Attributes a c = refl
schema_table Classes a c = refl

pub schema_count : (t : TableId) (a c : List ℕ) {s : List ℕ} {n : ℕ} → s ≡ store_of t a c → n ≡ (table_in t s).count → n ≡ (table t (schema_in a c)).count
schema_count t a c e q = q ∙ ap (λ (x : List ℕ). (table_in t x).count) e ∙ sym (ap (λ (x : Table). x.count) (schema_table t a c))
