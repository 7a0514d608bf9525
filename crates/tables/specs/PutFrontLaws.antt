-- A row is put within the length of its store: what stands past it is neither looked at nor touched. Bytes stay bytes.
use Rattle.std.specs.Prelude.{drop, length, ◌*◌, ◌+◌, ◌<◌, ◌≤◌, ℕ, List, [], ◌≡◌}
use Rattle.std.proofs.Common.{arith, ◌∙◌}
use Rattle.std.proofs.Math.Path.{ap}
use Rattle.schema.specs.declared.number.TableId.{TableId}
use Rattle.schema.specs.declared.number.TableId.TheVariants.{Attributes, Classes}
use Rattle.schema.specs.Store.{count_in}
use Rattle.schema.specs.Numbers.{limit}
use Rattle.schema.specs.Layout.{row_width, rows_at, store_length}
use Rattle.tables.specs.Filled.{count_bytes, plus_in, put_in}
use Rattle.tables.specs.PutLaws.{count_short, put_length}
use Rattle.prelude.specs.Part.{Bytes, part, splice}
use Rattle.prelude.specs.SpliceLaws.{part_splice_inside, splice_after}
use Rattle.prelude.specs.BytesLaws.{cons_bytes, digits_bytes, no_bytes, splice_bytes}
use Rattle.prelude.specs.PartLaws.{row_fits}

-- a part written within the first n bytes
front_splice : (at n : ℕ) (new s : List ℕ) → at + length new ≤ n → n ≤ length s → part 0 n (splice at new s) ≡ splice at new (part 0 n s)
front_splice at n new s h l =
    let e : at ≡ 0 + at = omega arith in ap (λ (i : ℕ). part 0 n (splice i new s)) e ∙ part_splice_inside 0 n at new s h (omega arith)

module _ (t : TableId) (s : List ℕ) (long : store_length t ≤ length s) where
  abbrev n : ℕ
  n = store_length t

  put_within : (k : ℕ) (row : List ℕ) → k < limit t → length row ≡ row_width t → rows_at + row_width t * k + length row ≤ n
  put_within k row l w = omega (arith, row_fits rows_at (row_width t) (limit t) k n (omega arith) l)

  -- a row put in place
  pub put_front : (k : ℕ) (row : List ℕ) → k < limit t → length row ≡ row_width t → part 0 n (put_in t k row s) ≡ put_in t k row (part 0 n s)
  unfolding put_in
  put_front k row l w = front_splice (rows_at + row_width t * k) n row s (put_within k row l w) (omega arith)

  pub put_past : (k : ℕ) (row : List ℕ) → k < limit t → length row ≡ row_width t → drop n (put_in t k row s) ≡ drop n s
  unfolding put_in
  put_past k row l w =
      splice_after (rows_at + row_width t * k) row s (omega (arith, put_within k row l w)) n (put_within k row l w)

  count_within : (c : ℕ) → 0 + length (count_bytes t c) ≤ n
  count_within c = omega (arith, count_short t c)

  -- a row put last
  pub plus_front : (row : List ℕ) → count_in t s < limit t → length row ≡ row_width t
      → part 0 n (plus_in t row s) ≡ splice 0 (count_bytes t (count_in t s + 1)) (put_in t (count_in t s) row (part 0 n s))
  unfolding plus_in
  plus_front row l w =
      front_splice 0 n (count_bytes t (count_in t s + 1)) (put_in t (count_in t s) row s) (count_within (count_in t s + 1))
      (omega (arith, put_length t (count_in t s) row s long l w))
      ∙ ap (splice 0 (count_bytes t (count_in t s + 1))) (put_front (count_in t s) row l w)

  pub plus_past : (row : List ℕ) → count_in t s < limit t → length row ≡ row_width t → drop n (plus_in t row s) ≡ drop n s
  unfolding plus_in
  plus_past row l w =
      splice_after 0 (count_bytes t (count_in t s + 1)) (put_in t (count_in t s) row s)
      (omega (arith, count_within (count_in t s + 1), put_length t (count_in t s) row s long l w)) n (count_within (count_in t s + 1))
      ∙ put_past (count_in t s) row l w

-- ---- bytes

count_bytes_lem : (t : TableId) (n : ℕ) → n ≤ limit t → Bytes (count_bytes t n)
count_bytes_lem Attributes n l = digits_bytes 2 n
count_bytes_lem Classes n l = cons_bytes n [] (omega arith) no_bytes

module _ (t : TableId) (row s : List ℕ) (new : Bytes row) (bytes : Bytes s) where
  pub put_bytes : (k : ℕ) → Bytes (put_in t k row s)
  unfolding put_in
  put_bytes k = splice_bytes (rows_at + row_width t * k) row s new bytes

  pub plus_bytes : count_in t s < limit t → Bytes (plus_in t row s)
  unfolding plus_in
  plus_bytes l =
      splice_bytes 0 (count_bytes t (count_in t s + 1)) (put_in t (count_in t s) row s) (count_bytes_lem t (count_in t s + 1) (omega arith))
      (put_bytes (count_in t s))
