-- What depends only on the rows that a table holds; and stores with the same bytes hold the same rows.
use Rattle.std.specs.Prelude.{Bool, true, false, ◌&&◌, ◌||◌, List, ◌⊎◌, ◌≡◌, refl, ℕ, ◌+◌, ◌*◌, ◌≤◌, ◌<◌, ltb, length}
use Rattle.std.proofs.Math.Bool.{not}
use Rattle.std.proofs.Common.{inl, inr, sym, ap, ap₂, ◌∙◌, arith}
use Rattle.prelude.specs.SaysLaws.{says_lt, says_split, says_true, says_false}
use Rattle.prelude.specs.Below.{any_below}
use Rattle.prelude.specs.BelowLaws.{any_cong}
use Rattle.prelude.specs.Part.{part, row_at, splice}
use Rattle.prelude.specs.PartLaws.{row_fits}
use Rattle.prelude.specs.FrontLaws.{front_byte, front_number, front_part}
use Rattle.schema.specs.Numbers.{limit}
use Rattle.schema.specs.Layout.{rows_at, row_width, store_length}
use Rattle.schema.specs.Row.{is_defunct}
use Rattle.schema.specs.Store.{Table, count_in, table_in}
use Rattle.schema.specs.declared.number.TableId.{TableId}
use Rattle.schema.specs.declared.number.TableId.TheVariants.{Attributes, Classes}
use Rattle.tables.specs.Live.{live}
use Rattle.tables.specs.Same.{Same}
use Rattle.tables.specs.Filled.{AllWide, filled_store, table_from}
use Rattle.tables.specs.FilledLaws.{store_count, store_row}

pub same_reflexive : (t : Table) → Same t t
same_reflexive t = record { count = refl; rows = λ k l. refl }

pub same_symmetric : {t u : Table} → Same t u → Same u t
same_symmetric s = record { count = sym s.count; rows = λ k l. sym (s.rows k (omega (arith, s.count))) }

pub same_transitive : {t u v : Table} → Same t u → Same u v → Same t v
same_transitive p q = record { count = p.count ∙ q.count; rows = λ k l. p.rows k l ∙ q.rows k (omega (arith, p.count)) }

-- ---- what is looked up in such tables

module _ {t u : Table} (s : Same t u) where
  -- a test of every row
  pub any_same : (p q : ℕ → Bool) → ((k : ℕ) → k < t.count → p k ≡ q k) → any_below t.count p ≡ any_below u.count q
  any_same p q h = any_cong t.count p q h ∙ ap (λ (n : ℕ). any_below n q) s.count

  -- row n, where it is looked at only if it is there
  pub row_same : {A : Type 0} (n : ℕ) (f : Bool → List ℕ → A) → ((x y : List ℕ) → f false x ≡ f false y) → f (ltb n t.count) (t.row n)
      ≡ f (ltb n u.count) (u.row n)
  row_same {A} n f unseen = go (says_split (says_lt n t.count))
    where
      there : n < t.count → ltb n u.count ≡ true
      there l = says_true (says_lt n u.count) (omega (arith, s.count))

      absent : ¬ (n < t.count) → ltb n u.count ≡ false
      absent d = says_false (says_lt n u.count) (λ l. d (omega (arith, s.count)))

      go : ((ltb n t.count ≡ true) × (n < t.count)) ⊎ ((ltb n t.count ≡ false) × ¬ (n < t.count)) → f (ltb n t.count) (t.row n)
          ≡ f (ltb n u.count) (u.row n)
      go (inl q) = ap₂ f (q.0 ∙ sym (there q.1)) (s.rows n q.1)
      go (inr q) = rw (q.0, absent q.1) (unseen (t.row n) (u.row n))

  pub live_same : (naming : List ℕ) (n : ℕ) → live t naming n ≡ live u naming n
  unfolding live
  live_same naming n = row_same n (λ b r. b && (is_defunct naming || not (is_defunct r))) (λ x y. refl)

-- ---- stores whose first n bytes are the same

module _ (n : ℕ) (a b : List ℕ) (front : part 0 n a ≡ part 0 n b) where
  front_row : (width rows k : ℕ) → rows_at + width * rows ≤ n → k < rows → row_at rows_at width a k ≡ row_at rows_at width b k
  front_row width rows k h l = front_part n a b front (rows_at + width * k) width (row_fits rows_at width rows k n h l)

pub front_count : (t : TableId) (a b : List ℕ) → part 0 (store_length t) a ≡ part 0 (store_length t) b → count_in t a ≡ count_in t b
front_count Attributes a b e = front_number (store_length Attributes) a b e 2 0 (omega arith)
front_count Classes a b e = front_byte (store_length Classes) a b e 0 (omega arith)

-- a store, whatever stands past its length
pub store_same : (t : TableId) (a b : List ℕ) → part 0 (store_length t) a ≡ part 0 (store_length t) b → (table_in t a).count ≤ limit t
    → Same (table_in t a) (table_in t b)
store_same t a b e few =
    record {
      count = front_count t a b e;
      rows = λ k l. front_row (store_length t) a b e (row_width t) (limit t) k (omega arith) (omega arith);
    }

-- a store that was filled with rows holds them
pub filled_same : (t : TableId) (rows : List (List ℕ)) (s : List ℕ) → AllWide (row_width t) rows → length rows ≤ limit t
    → Same (table_in t (splice 0 (filled_store t rows) s)) (table_from rows)
filled_same t rows s wide few =
    record { count = store_count t rows s wide few; rows = λ k l. store_row t rows s wide few k (omega (arith, store_count t rows s wide few)) }
