-- A row put in place, and a row put last, in a store that may hold anything: the other rows, the count, and what stands past the store stay.
use Rattle.std.specs.Prelude.{List, [], ◌≡◌, refl, ℕ, suc, ◌+◌, ◌*◌, ◌≤◌, ◌<◌, get_or}
use Rattle.std.proofs.Common.{sym, ap, ◌∙◌, mul-le-mul_left}
use Rattle.std.proofs.Math.Decide.{ℕ_discrete, dec_lt}
use Rattle.std.proofs.Math.Numerals.{add-one}
use native.Mathlib.Omega.{arith}
use Rattle.std.proofs.Math.ListN.{length}
use Rattle.prelude.specs.Part.{row_at, splice}
use Rattle.prelude.specs.PartLaws.{row_fits}
use Rattle.prelude.specs.SpliceLaws.{splice_length, splice_at_before, part_splice_before, part_splice_same, part_splice_after, splice_at_after}
use Rattle.prelude.specs.BigEndianLaws.{bytes_length, number_of_bytes, two_bytes}
use Rattle.schema.specs.Numbers.{limit}
use Rattle.schema.specs.Layout.{rows_at, row_width, store_length}
use Rattle.schema.specs.Store.{with_row, plus_row, count_in, table_in}
use Rattle.schema.specs.StoreLaws.{with_count, with_same, with_other, plus_count, plus_last, plus_other}
use Rattle.schema.specs.declared.number.TableId.{TableId}
use Rattle.schema.specs.declared.number.TableId.TheVariants.{Attributes, Classes}
use Rattle.schema.specs.NumbersLaws.{apart}
use Rattle.tables.specs.Filled.{count_bytes, put_in, plus_in}
use Rattle.tables.specs.Same.{Same}

-- ---- rows side by side

module _ (base w k : ℕ) (row s : List ℕ) (wide : length row ≡ w) (fits : base + w * k + w ≤ length s) where
  within : base + w * k + length row ≤ length s
  within = omega (arith, wide)

  pub row_put_here : row_at base w (splice (base + w * k) row s) k ≡ row
  row_put_here = part_splice_same (base + w * k) row s within w (sym wide)

  pub row_put_other : (j : ℕ) → ¬ (j ≡ k) → row_at base w (splice (base + w * k) row s) j ≡ row_at base w s j
  row_put_other j d = go (dec_lt j k)
    where
      before : j < k → row_at base w (splice (base + w * k) row s) j ≡ row_at base w s j
      before l = let m : w * (j + 1) ≤ w * k = mul-le-mul_left w (omega arith) in part_splice_before (base + w * k) row s within (base + w * j) w
          (omega arith)

      behind : k < j → row_at base w (splice (base + w * k) row s) j ≡ row_at base w s j
      behind l = let m : w * (k + 1) ≤ w * j = mul-le-mul_left w (omega arith) in part_splice_after (base + w * k) row s within (base + w * j) w
          (omega (arith, wide))

      go : Dec (j < k) → row_at base w (splice (base + w * k) row s) j ≡ row_at base w s j
      go (yes l) = before l
      go (no n) = behind (omega arith)

-- ---- a row of a table put in place

-- what stands before the rows says how many there are
count_front : (t : TableId) (a b : List ℕ) → ((i : ℕ) → i < rows_at → get_or a i 0 ≡ get_or b i 0) → count_in t a ≡ count_in t b
count_front Attributes a b e = let x = e 0 (omega arith) in let y = e 1 (omega arith) in two_bytes 0 a ∙ (omega (arith, x, y)) ∙ sym (two_bytes 0 b)
count_front Classes a b e = e 0 (omega arith)

module _ (t : TableId) (k : ℕ) (row s : List ℕ) (long : store_length t ≤ length s) (few : k < limit t) (wide : length row ≡ row_width t) where
  fits : rows_at + row_width t * k + row_width t ≤ length s
  fits = row_fits rows_at (row_width t) (limit t) k (length s) long few

  pub put_length : length (put_in t k row s) ≡ length s
  unfolding put_in
  put_length = splice_length (rows_at + row_width t * k) row s (omega (arith, fits, wide))

  pub put_byte : (i : ℕ) → i < rows_at → get_or (put_in t k row s) i 0 ≡ get_or s i 0
  unfolding put_in
  put_byte i l = splice_at_before (rows_at + row_width t * k) row s (omega (arith, fits, wide)) i (omega arith)

  pub put_count : count_in t (put_in t k row s) ≡ count_in t s
  put_count = count_front t (put_in t k row s) s put_byte

  pub put_here : (table_in t (put_in t k row s)).row k ≡ row
  unfolding put_in
  put_here = row_put_here rows_at (row_width t) k row s wide fits

  pub put_other : (j : ℕ) → ¬ (j ≡ k) → (table_in t (put_in t k row s)).row j ≡ (table_in t s).row j
  unfolding put_in
  put_other j d = row_put_other rows_at (row_width t) k row s wide fits j d

  -- the table has become that with the row replaced
  pub put_same : Same (table_in t (put_in t k row s)) (with_row (table_in t s) k row)
  put_same =
      record {
        count = put_count ∙ sym (with_count (table_in t s) k row);
        rows = λ j l. go j (ℕ_discrete j k);
      }
    where
      go : (j : ℕ) → Dec (j ≡ k) → (table_in t (put_in t k row s)).row j ≡ (with_row (table_in t s) k row).row j
      go j (yes e) = ap (table_in t (put_in t k row s)).row e ∙ put_here ∙ sym (with_same (table_in t s) k row j e)
      go j (no d) = put_other j d ∙ sym (with_other (table_in t s) k row j d)

-- ---- a row put last

-- a count that is written is read back, and the rows stay
written_count : (t : TableId) (n : ℕ) (s : List ℕ) → n ≤ limit t → count_in t (splice 0 (count_bytes t n) s) ≡ n
unfolding splice
written_count Attributes n s l = number_of_bytes 2 n [] _ (omega arith)
written_count Classes n s l = refl

pub count_short : (t : TableId) (n : ℕ) → length (count_bytes t n) ≤ rows_at
count_short Attributes n = omega (arith, bytes_length 2 n)
count_short Classes n = omega arith

module _ (t : TableId) (n : ℕ) (s : List ℕ) (long : store_length t ≤ length s) where
  count_fits : 0 + length (count_bytes t n) ≤ length s
  count_fits = omega (arith, count_short t n)

  count_length : length (splice 0 (count_bytes t n) s) ≡ length s
  count_length = splice_length 0 (count_bytes t n) s count_fits

  count_row : (j : ℕ) → (table_in t (splice 0 (count_bytes t n) s)).row j ≡ (table_in t s).row j
  count_row j = part_splice_after 0 (count_bytes t n) s count_fits (rows_at + row_width t * j) (row_width t) (omega (arith, count_short t n))

module _ (t : TableId) (row s : List ℕ) (long : store_length t ≤ length s) (room : count_in t s < limit t) (wide : length row ≡ row_width t) where
  put_long : store_length t ≤ length (put_in t (count_in t s) row s)
  put_long = omega (arith, put_length t (count_in t s) row s long room wide)

  pub plus_length : length (plus_in t row s) ≡ length s
  unfolding plus_in
  plus_length = count_length t (count_in t s + 1) (put_in t (count_in t s) row s) put_long ∙ put_length t (count_in t s) row s long room wide

  pub plus_row_lem : (j : ℕ) → (table_in t (plus_in t row s)).row j ≡ (table_in t (put_in t (count_in t s) row s)).row j
  unfolding plus_in
  plus_row_lem = count_row t (count_in t s + 1) (put_in t (count_in t s) row s) put_long

  pub plus_counted : count_in t (plus_in t row s) ≡ suc (count_in t s)
  unfolding plus_in
  plus_counted = written_count t (count_in t s + 1) (put_in t (count_in t s) row s) (omega arith) ∙ add-one (count_in t s)

  -- the byte beside the count of classes is not written
  pub plus_beside : t ≡ Classes → get_or (plus_in t row s) 1 0 ≡ get_or s 1 0
  unfolding plus_in
  plus_beside e =
      splice_at_after 0 (count_bytes t (count_in t s + 1)) (put_in t (count_in t s) row s) (count_fits t (count_in t s + 1) (put_in t (count_in t s) row s) put_long) 1
      (one t e)
      ∙ put_byte t (count_in t s) row s long room wide 1 (omega arith)
    where
      one : (u : TableId) → u ≡ Classes → 0 + length (count_bytes u (count_in t s + 1)) ≤ 1
      one Attributes q = absurd (apart q)
      one Classes q = omega arith

  -- the table has become that with the row added
  pub plus_same : Same (table_in t (plus_in t row s)) (plus_row (table_in t s) row)
  plus_same =
      record {
        count = plus_counted ∙ sym (plus_count (table_in t s) row);
        rows = λ j l. plus_row_lem j ∙ go j (ℕ_discrete j (count_in t s)) (omega (arith, plus_counted));
      }
    where
      go : (j : ℕ) → Dec (j ≡ count_in t s) → j ≤ count_in t s → (table_in t (put_in t (count_in t s) row s)).row j ≡ (plus_row (table_in t s) row).row j
      go j (yes e) l = ap (table_in t (put_in t (count_in t s) row s)).row e ∙ put_here t (count_in t s) row s long room wide
          ∙ sym (plus_last (table_in t s) row j e)
      go j (no d) l = put_other t (count_in t s) row s long room wide j d ∙ sym (plus_other (table_in t s) row j (omega arith))
