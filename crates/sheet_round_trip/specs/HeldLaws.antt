-- A store in shape is its own rows, byte for byte: the converse of `filled_formed`.
use Rattle.std.proofs.Math.Bool.{true}
use mathlib.Core.List.{List, [], ◌∷◌, ◌++◌, append_assoc}
use Rattle.std.specs.Prelude.{◌≡◌}
use Rattle.std.proofs.Math.Path.{refl, ap}
use Rattle.std.proofs.Common.{sym, ap₂, ◌∙◌}
use Prim.Native.Nat.{ℕ, zero, suc, ◌+◌, ◌-◌, ◌*◌, ◌≤◌, ◌<◌}
use Rattle.std.proofs.Math.Decide.{dec_lt}
use native.Mathlib.Omega.{arith}
use Rattle.std.proofs.Math.ListN.{length, get_or, length-append, get_or-append}
use Rattle.std.proofs.Math.Seq.{get_or_at}
use Rattle.prelude.specs.SaysLaws.{says_and, says_le, says_test}
use Rattle.prelude.specs.Part.{part, row_at, zeros, padded, is_zero, Bytes}
use Rattle.prelude.specs.PartLaws.{part_length, part_none, part_add, part_cons, part_bytes, zero_zeros}
use Rattle.prelude.specs.BigEndianLaws.{bytes_of_number}
use Rattle.schema.specs.declared.number.TableId.{TableId}
use Rattle.schema.specs.declared.number.TableId.TheVariants.{Attributes, Classes}
use Rattle.schema.specs.Numbers.{limit}
use Rattle.schema.specs.Layout.{rows_at, row_width, store_length}
use Rattle.schema.specs.Store.{count_in, table_in}
use Rattle.schema.specs.StoreLaws.{table_row_length}
use Rattle.tables.specs.Filled.{joined, AllWide, header, filled_store, table_from}
use Rattle.tables.specs.FilledLaws.{wide_append, joined_append}
use Rattle.tables.specs.Same.{Same}
use Rattle.rows_read.specs.WellFormed.{well_formed}
use Rattle.sheet_read.specs.ReadingLaws.{AllRows, all_append, Sound}
use Rattle.tables_shape.specs.Shape.{unused_rows, rows_formed, beside_zero, table_formed, TableFormed}
use Rattle.tables_shape.proofs.ShapeLaws.{rows_split, says_table_formed}

-- ---- the first rows of a table

unfoldable pub rows_below : (ℕ → List ℕ) → ℕ → List (List ℕ)
rows_below row zero = []
rows_below row (suc n) = rows_below row n ++ (row n ∷ [])

-- the rows that a store holds
abbrev pub rows_held : TableId → List ℕ → List (List ℕ)
rows_held t s = rows_below (table_in t s).row (table_in t s).count

module _ (row : ℕ → List ℕ) where
  below_length : (n : ℕ) → length (rows_below row n) ≡ n
  unfolding rows_below
  below_length zero = refl
  below_length (suc n) = omega (arith, length-append (rows_below row n) (row n ∷ []), below_length n)

  below_wide : (w n : ℕ) → ((k : ℕ) → k < n → length (row k) ≡ w) → AllWide w (rows_below row n)
  unfolding rows_below
  below_wide w zero h = tt
  below_wide w (suc n) h = wide_append w (rows_below row n) (row n) (below_wide w n (λ k l. h k (omega arith))) (h n (omega arith))

  below_all : (P : List ℕ → Type 0) (n : ℕ) → ((k : ℕ) → k < n → P (row k)) → AllRows P (rows_below row n)
  unfolding rows_below
  below_all P zero h = tt
  below_all P (suc n) h = all_append P (rows_below row n) (row n) (below_all P n (λ k l. h k (omega arith))) (h n (omega arith))

  below_row : (n k : ℕ) → k < n → get_or (rows_below row n) k [] ≡ row k
  unfolding rows_below
  below_row zero k l = absurd (omega arith)
  below_row (suc n) k l = go (λ m. below_row n k m) (dec_lt k n)
    where
      go : (k < n → get_or (rows_below row n) k [] ≡ row k) → Dec (k < n) → get_or (rows_below row n ++ (row n ∷ [])) k [] ≡ row k
      go ih (yes m) = get_or-append (rows_below row n) (row n ∷ []) [] k (omega (arith, below_length n)) ∙ ih m
      go ih (no d) = let same : k ≡ n = omega arith in get_or_at (rows_below row n) (row n) [] [] k (omega (arith, below_length n)) ∙ ap row (sym same)

-- ---- a store

-- rows side by side
rows_joined : (w n : ℕ) (s : List ℕ) → part rows_at (w * n) s ≡ joined (rows_below (row_at rows_at w s) n)
unfolding rows_below joined
rows_joined w zero s = let z : w * 0 ≡ 0 = omega arith in rw z (part_none rows_at s)
rows_joined w (suc n) s =
    let e : w * suc n ≡ w * n + w = omega arith in
    rw e (part_add rows_at (w * n) w s ∙ ap (λ (x : List ℕ). x ++ row_at rows_at w s n) (rows_joined w n s)
    ∙ sym (joined_append (rows_below (row_at rows_at w s) n) (row_at rows_at w s n)))

-- header, rows and zeros
store_is : (w most n : ℕ) (s h : List ℕ) → part 0 rows_at s ≡ h → n ≤ most → rows_at + w * most ≤ length s → part (rows_at + w * n) (w * (most - n)) s
    ≡ zeros (w * (most - n))
    → part 0 (rows_at + w * most) s ≡ padded (rows_at + w * most) (h ++ joined (rows_below (row_at rows_at w s) n))
unfolding padded
store_is w most n s h e few long rest =
    let unused : ℕ = w * (most - n) in
    let rows : List ℕ = joined (rows_below (row_at rows_at w s) n) in
    let split : w * n + unused ≡ w * most = rows_split w most n few in
    let two : length h ≡ rows_at = sym (ap length e) ∙ part_length 0 rows_at s (omega arith) in
    let wide : length rows ≡ w * n = sym (ap length (rows_joined w n s)) ∙ part_length rows_at (w * n) s (omega arith) in
    let left : rows_at + w * most - length (h ++ rows) ≡ unused = omega (arith, length-append h rows) in
    ap (λ (m : ℕ). part 0 (rows_at + m) s) (sym split) ∙ part_add 0 rows_at (w * n + unused) s
    ∙ ap (λ (x : List ℕ). part 0 rows_at s ++ x) (part_add rows_at (w * n) unused s)
    ∙ ap₂ (λ (x y : List ℕ). x ++ (y ++ part (rows_at + w * n) unused s)) e (rows_joined w n s) ∙ ap (λ (x : List ℕ). h ++ (rows ++ x)) rest
    ∙ sym (append_assoc h rows (zeros unused)) ∙ ap (λ (m : ℕ). (h ++ rows) ++ zeros m) (sym left)

-- how it begins
header_is : (t : TableId) (s : List ℕ) → Bytes s → store_length t ≤ length s → (t ≡ Classes → get_or s 1 0 ≡ 0) → part 0 rows_at s ≡ header t (count_in t s)
header_is Attributes s bytes long beside = sym (bytes_of_number s bytes 2 0 (omega arith))
header_is Classes s bytes long beside =
    part_cons 0 1 s (omega arith)
    ∙ ap (λ (x : List ℕ). get_or s 0 0 ∷ x) (part_cons 1 0 s (omega arith) ∙ ap₂ (λ (b : ℕ) (x : List ℕ). b ∷ x) (beside refl) (part_none 2 s))

module _ (t : TableId) (s : List ℕ) (bytes : Bytes s) (long : store_length t ≤ length s) (e : table_formed t s ≡ true) where
  formed : TableFormed t s
  formed = (says_table_formed t s long).holds e

  row_wide : (k : ℕ) → k < (table_in t s).count → length ((table_in t s).row k) ≡ row_width t
  row_wide k l = table_row_length t s k long (omega (arith, formed.few))

  -- its first bytes are those of its rows
  pub store_held : part 0 (store_length t) s ≡ filled_store t (rows_held t s)
  unfolding filled_store
  store_held =
      let n : ℕ = (table_in t s).count in
      let z : is_zero (unused_rows t n s) ≡ true = unused e in
      let l : length (unused_rows t n s) ≡ row_width t * (limit t - n) = part_length _ _ s (omega (arith, rows_split (row_width t) (limit t) n formed.few)) in
      store_is (row_width t) (limit t) n s (header t n) (header_is t s bytes long formed.beside) formed.few long (zero_zeros _ _ l z)
      ∙ ap (λ (m : ℕ). padded (store_length t) (header t m ++ joined (rows_held t s))) (sym (below_length (table_in t s).row n))
    where
      unused : table_formed t s ≡ true → is_zero (unused_rows t (table_in t s).count s) ≡ true
      unused q = unfold table_formed in
          ((says_and (says_test (beside_zero t s))
          (says_and (says_le (count_in t s) (limit t))
          (says_and (says_test (rows_formed t s (count_in t s))) (says_test (is_zero (unused_rows t (count_in t s) s)))))).holds q).1.1.1

  -- they are sound
  pub held_sound : Sound t (rows_held t s)
  held_sound =
      let n : ℕ = (table_in t s).count in
      let row : ℕ → List ℕ = (table_in t s).row in
      record {
        fit = record { wide = below_wide row (row_width t) n row_wide; few = omega (arith, below_length row n, formed.few) };
        formed = below_all row (λ r. well_formed t r ≡ true) n formed.rows;
        bytes = below_all row Bytes n (λ k l. part_bytes (rows_at + row_width t * k) (row_width t) s bytes);
      }

  -- and those that the store holds
  pub held_same : Same (table_in t s) (table_from (rows_held t s))
  held_same = record {
    count = sym (below_length (table_in t s).row (table_in t s).count);
    rows = λ k l. sym
        (below_row (table_in t s).row (table_in t s).count k l);
  }
