-- A replaced row and an added row are such changes.
use Rattle.std.specs.Prelude.{true, false, List, ◌⊎◌, ◌≡◌, refl, ℕ, suc, ◌<◌}
use Rattle.std.proofs.Common.{inl, inr, ⊎_elim, sym, arith}
use Rattle.std.proofs.Math.Decide.{ℕ_discrete}
use Rattle.prelude.specs.SaysLaws.{says_split, says_test}
use Rattle.schema.specs.Row.{is_defunct}
use Rattle.schema.specs.declared.number.TableId.{TableId}
use Rattle.schema.specs.declared.number.TableId.TheVariants.{Attributes, Classes}
use Rattle.schema.specs.Numbers.{SameRow}
use Rattle.schema.specs.NumbersLaws.{apart}
use Rattle.schema.specs.Store.{Table, Schema, table, with_row, plus_row}
use Rattle.schema.specs.StoreLaws.{with_count, with_other, plus_count, plus_other}
use Rattle.tables.specs.Live.{Live}
use Rattle.tables.specs.Changed.{ChangedAt, ChangedRow}

pub with_changed : (t : Table) (k : ℕ) (new : List ℕ) → k < t.count → ChangedAt k t (with_row t k new)
with_changed t k new h =
    let e : (with_row t k new).count ≡ t.count = with_count t k new in
    record { here = omega arith; stays = λ j l. omega arith; old = λ j l d. omega arith; other = λ j d l. with_other t k new j d }

pub plus_changed : (t : Table) (new : List ℕ) → ChangedAt t.count t (plus_row t new)
plus_changed t new =
    let e : (plus_row t new).count ≡ suc t.count = plus_count t new in
    record { here = omega arith; stays = λ j l. omega arith; old = λ j l d. omega arith; other = λ j d l. plus_other t new j l }

-- ---- what stays

module _ {k : ℕ} {t u : Table} (h : ChangedAt k t u) where
  -- a live row stays live, unless it is row k, which has become defunct, and the naming row is active
  pub live_stays : (naming : List ℕ) (n : ℕ)
      → (n ≡ k → is_defunct (u.row k) ≡ true → (is_defunct (t.row k) ≡ true) ⊎ (is_defunct naming ≡ true)) → Live t naming n → Live u naming n
  live_stays naming n ok l = (h.stays n l.0, go (ℕ_discrete n k))
    where
      State : Type 0
      State = (is_defunct naming ≡ true) ⊎ ¬ (is_defunct (u.row n) ≡ true)

      was : n ≡ k → ¬ (is_defunct (t.row n) ≡ true) → (is_defunct (t.row k) ≡ true) ⊎ (is_defunct naming ≡ true) → State
      was e active (inl q) = absurd (active (rw e q))
      was e active (inr q) = inl q

      here : n ≡ k → ¬ (is_defunct (t.row n) ≡ true) → ((is_defunct (u.row k) ≡ true) × (is_defunct (u.row k) ≡ true))
          ⊎ ((is_defunct (u.row k) ≡ false) × ¬ (is_defunct (u.row k) ≡ true)) → State
      here e active (inl q) = was e active (ok e q.0)
      here e active (inr q) = inr (rw e q.1)

      go : Dec (n ≡ k) → State
      go (yes e) = ⊎_elim inl (λ active. here e active (says_split (says_test (is_defunct (u.row k))))) l.1
      go (no d) = rw (h.other n d l.0) l.1

-- ---- a schema

-- which table a row is of
pub table_or_other : (t u : TableId) → (t ≡ u) ⊎ ¬ (t ≡ u)
table_or_other Attributes Attributes = inl refl
table_or_other Attributes Classes = inr apart
table_or_other Classes Attributes = inr (λ e. apart (sym e))
table_or_other Classes Classes = inl refl

module _ {t : TableId} {k : ℕ} {m n : Schema} (h : ChangedRow t k m n) where
  pub row_stays : (u : TableId) (j : ℕ) → j < (table u m).count → j < (table u n).count
  row_stays u j l = ⊎_elim (λ e. rw (← e) (h.own.stays j (rw (← e) at l))) (λ d. rw (h.rest u d) l) (table_or_other t u)

  -- a row but the changed one was there, and is as it was
  module _ (u : TableId) (j : ℕ) (other : ¬ (SameRow t k u j)) where
    pub row_old : j < (table u n).count → j < (table u m).count
    row_old l = ⊎_elim (λ e. rw (← e) (h.own.old j (rw (← e) at l) (λ q. other (e, sym q)))) (λ d. rw (h.rest u d) at l) (table_or_other t u)

    pub row_other : j < (table u m).count → (table u n).row j ≡ (table u m).row j
    row_other l = ⊎_elim (λ e. rw (← e) (h.own.other j (λ q. other (e, sym q)) (rw (← e) at l))) (λ d. rw (h.rest u d)) (table_or_other t u)
