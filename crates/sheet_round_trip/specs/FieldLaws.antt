-- The fields that stand in the bytes of a row that was written: one for each column whose cell has a value, with that value, and no other.
use Rattle.std.specs.Prelude.{true, false, ◌⊎◌, ◌≡◌, ℕ, zero, suc, ◌+◌, ◌-◌, ◌≤◌, ◌<◌, drop, take}
use Rattle.std.proofs.Common.{true≢false, inl, inr, sym, ap₂, subst, ◌∙◌, arith, length-append}
use mathlib.Core.List.{List, [], ◌∷◌, ◌++◌, append_assoc}
use Rattle.std.proofs.Math.Path.{refl, ap}
use Rattle.std.proofs.Math.Nat.{add-zero}
use Rattle.std.proofs.Math.ListN.{length}
use Rattle.std.proofs.Math.Seq.{length-take-le}
use Rattle.prelude.specs.SaysLaws.{true_or_false}
use Rattle.prelude.specs.Part.{part, splice}
use Rattle.prelude.specs.PartLaws.{part_length}
use Rattle.prelude.specs.SpliceLaws.{splice_part}
use Rattle.wire.specs.Wire.{field_at, field_bytes}
use Rattle.wire.specs.WireLaws.{one_field, field_is, field_length, field_read, value_read_lem}
use Rattle.rows_format.specs.declared.column.Column.{Column}
use Rattle.rows_format.specs.Columns.{column_width, cell_at, has_value, value_of, field_of, write_by, laid, Sound}
use Rattle.rows_format.proofs.ColumnsLaws.{laid_cons, field_none, field_some, width_small}
use Rattle.rows_format.specs.declared.format.Format.{Format}
use Rattle.rows_format.specs.Formats.{columns_of, format_width}
use Rattle.rows_format.proofs.FormatsLaws.{distinct, format_distinct, format_laid}
use Rattle.rows_format.proofs.ShortLaws.{field_bound}
use Rattle.rows_read.specs.Stopping.{FieldStands, column_at, value_at}
use Rattle.rows_read.specs.OneStopLaws.{one_column}
use Rattle.rows_read.specs.PlaceLaws.{field_stands}
use Rattle.sheet_round_trip.specs.Exact.{FieldsStand, none, more, Stands}
use Rattle.wire.specs.FieldRead as fields

-- ---- a field that is read stands there

pub read_stands : (s : List ℕ) (at end tag start stop : ℕ) → field_at s at end ≡ fields.Field tag start stop → FieldStands s end at tag stop
read_stands s at end tag start stop e =
    let w = field_is s at end tag start stop e in
    record { tagged = sym w.tag_is; header = omega (arith, w.stop_is, w.within); ends = w.stop_is; within = w.within }

pub fields_forward : {s : List ℕ} {end from at : ℕ} → FieldsStand s end from at → from ≤ at
fields_forward none = omega arith
fields_forward (more f b) = omega (arith, f.ends, fields_forward b)

-- one more field behind
pub fields_more : {s : List ℕ} {end from at tag stop : ℕ} → FieldsStand s end from at → FieldStands s end at tag stop → FieldsStand s end from stop
fields_more none g = more g none
fields_more (more f b) g = more f (fields_more b g)

-- ---- the columns that have a value

abbrev pub HasAt : List Column → ℕ → List ℕ → Type 0
HasAt columns j row = has_value (column_at columns j).presence (cell_at (column_at columns j) row) ≡ true

abbrev pub value_in : List Column → ℕ → List ℕ → List ℕ
value_in columns j row = value_of (column_at columns j) (cell_at (column_at columns j) row)

-- some column has the tag, and the value in its cell
record Has (columns : List Column) (row : List ℕ) (tag : ℕ) (v : List ℕ) : Type 0 where
  place : ℕ
  below : place < length columns
  tagged : (column_at columns place).tag ≡ tag
  has : HasAt columns place row
  value : value_in columns place row ≡ v

next_has : {r : Column} {rs : List Column} {row : List ℕ} {tag : ℕ} {v : List ℕ} → Has rs row tag v → Has (r ∷ rs) row tag v
next_has h = record { place = suc h.place; below = omega (arith, h.below); tagged = h.tagged; has = h.has; value = h.value }

-- where the tags differ, it is the column with that tag
has_at : (columns : List Column) (row v : List ℕ) (j : ℕ) → distinct columns ≡ true → j < length columns → Has columns row (column_at columns j).tag v
    → HasAt columns j row × (value_in columns j row ≡ v)
has_at columns row v j d l h =
    subst (λ (k : ℕ). HasAt columns k row × (value_in columns k row ≡ v)) (one_column columns d h.place j h.below l h.tagged) (h.has, h.value)

value_short : (r : Column) (row : List ℕ) → Sound r → has_value r.presence (cell_at r row) ≡ true → length (value_of r (cell_at r row)) < 65536
value_short r row s h =
    omega (arith, field_bound r row, ap length (field_some r row h), field_length r.tag (value_of r (cell_at r row)), width_small r s)

-- ---- the first field of a written row

module _ (s p q : List ℕ) (tag : ℕ) (v w : List ℕ) (e : s ≡ p ++ ((field_bytes tag v ++ w) ++ q)) (end : ℕ)
    (ends : end ≡ length p + length (field_bytes tag v ++ w)) (short : length v < 65536) where
  apart : s ≡ p ++ (field_bytes tag v ++ (w ++ q))
  apart = e ∙ ap (λ (x : List ℕ). p ++ x) (append_assoc (field_bytes tag v) w q)

  sizes : length (field_bytes tag v ++ w) ≡ 3 + length v + length w
  sizes = length-append (field_bytes tag v) w ∙ ap (λ (n : ℕ). n + length w) (field_length tag v)

  first_read : field_at s (length p) end ≡ fields.Field tag (length p + 3) (length p + 3 + length v)
  first_read = rw apart (field_read p (w ++ q) tag v end short (omega (arith, sizes)))

  first_value : part (length p + 3) (length p + 3 + length v - (length p + 3)) s ≡ v
  first_value =
      let span : length p + 3 + length v - (length p + 3) ≡ length v = omega arith in
      rw (span, apart) (value_read_lem p (w ++ q) tag v)

  next_place : length (p ++ field_bytes tag v) ≡ length p + 3 + length v
  next_place = length-append p (field_bytes tag v) ∙ omega (arith, field_length tag v)

  next_bytes : s ≡ (p ++ field_bytes tag v) ++ (w ++ q)
  next_bytes = apart ∙ sym (append_assoc p (field_bytes tag v) (w ++ q))

  next_end : end ≡ length (p ++ field_bytes tag v) + length w
  next_end = omega (arith, sizes, next_place)

-- ---- all fields of a written row

-- one stands there, with a value
pub record Found (s : List ℕ) (from end tag : ℕ) (v : List ℕ) : Type 0 where
  pub at : ℕ
  pub stop : ℕ
  pub stands : Stands s from end tag at stop
  pub value : value_at s at stop ≡ v

module _ (row s : List ℕ) (end : ℕ) where
  -- the bytes w stand in s, up to the end
  record Written (w p q : List ℕ) : Type 0 where
    bytes : s ≡ p ++ (w ++ q)
    ends : end ≡ length p + length w

  -- each field that stands in them is a column's
  abbrev AllHave : List Column → List ℕ → Type 0
  AllHave columns w = (p q : List ℕ) → Written w p q → (at tag stop : ℕ) → FieldsStand s end (length p) at → FieldStands s end at tag stop
      → Has columns row tag (value_at s at stop)

  -- and a column's value is there
  abbrev AllFound : List Column → List ℕ → Type 0
  AllFound columns w = (p q : List ℕ) → Written w p q → (j : ℕ) → j < length columns → HasAt columns j row
      → Found s (length p) end (column_at columns j).tag (value_in columns j row)

  module _ (r : Column) (rs : List Column) (w : List ℕ) (sound : Sound r) where
    module _ (k : has_value r.presence (cell_at r row) ≡ true) where
      abbrev v : List ℕ
      v = value_of r (cell_at r row)

      short : length v < 65536
      short = value_short r row sound k

      module _ (p q : List ℕ) (e : Written (field_bytes r.tag v ++ w) p q) where
        first : field_at s (length p) end ≡ fields.Field r.tag (length p + 3) (length p + 3 + length v)
        first = first_read s p q r.tag v w e.bytes end e.ends short

        behind : length (p ++ field_bytes r.tag v) ≡ length p + 3 + length v
        behind = next_place s p q r.tag v w e.bytes end e.ends short

        next : Written w (p ++ field_bytes r.tag v) q
        next = record {
          bytes = next_bytes s p q r.tag v w e.bytes end e.ends short;
          ends = next_end s p q r.tag v w e.bytes end e.ends short;
        }

        value : value_at s (length p) (length p + 3 + length v) ≡ v
        value = first_value s p q r.tag v w e.bytes end e.ends short

        -- what stands in front is the column's field
        in_front : (from tag stop : ℕ) → from ≡ length p → FieldStands s end from tag stop → (r.tag ≡ tag) × (stop ≡ length p + 3 + length v)
        in_front from tag stop is g =
            let same : fields.Field r.tag (length p + 3) (length p + 3 + length v) ≡ fields.Field tag (from + 3) stop =
            sym first ∙ ap (λ (n : ℕ). field_at s n end) (sym is) ∙ field_stands g in
            let f = one_field same in
            (f.0, sym f.2)

        present_have : AllHave rs w → (from : ℕ) → from ≡ length p → (at tag stop : ℕ) → FieldsStand s end from at → FieldStands s end at tag stop
            → Has (r ∷ rs) row tag (value_at s at stop)
        present_have rest from is at tag stop none f =
            let x = in_front at tag stop is f in
            record { place = 0; below = omega arith; tagged = x.0; has = k; value = sym (ap₂ (value_at s) is x.1 ∙ value) }
        present_have rest from is at tag stop (more {tag = t} {stop = z} g b) f =
            let x = in_front from t z is g in
            next_has (rest (p ++ field_bytes r.tag v) q next at tag stop (subst (λ (n : ℕ). FieldsStand s end n at) (x.1 ∙ sym behind) b) f)

        own : FieldStands s end (length p) r.tag (length p + 3 + length v)
        own = read_stands s (length p) end r.tag (length p + 3) (length p + 3 + length v) first

        present_found : AllFound rs w → (j : ℕ) → j < length (r ∷ rs) → HasAt (r ∷ rs) j row
            → Found s (length p) end (column_at (r ∷ rs) j).tag (value_in (r ∷ rs) j row)
        present_found rest zero l h = record { at = length p; stop = length p + 3 + length v; stands = record { before = none; field = own }; value = value }
        present_found rest (suc i) l h =
            let y = rest (p ++ field_bytes r.tag v) q next i (omega arith) h in
            record {
              at = y.at;
              stop = y.stop;
              stands = record { before = more own (subst (λ (n : ℕ). FieldsStand s end n y.at) behind y.stands.before); field = y.stands.field };
              value = y.value;
            }

    absent_have : AllHave rs w → AllHave (r ∷ rs) w
    absent_have rest p q e at tag stop b f = next_has (rest p q e at tag stop b f)

    absent_found : has_value r.presence (cell_at r row) ≡ false → AllFound rs w → AllFound (r ∷ rs) w
    absent_found k rest p q e zero l h = absurd (true≢false (sym h ∙ k))
    absent_found k rest p q e (suc i) l h = rest p q e i (omega arith) h

  table_have : (columns : List Column) (o n : ℕ) → laid columns o n ≡ true → AllHave columns (write_by columns row)
  unfolding write_by
  table_have [] o n h = λ p q e at tag stop b f. absurd (omega (arith, e.ends, add-zero (length p), fields_forward b, f.header))
  table_have (r ∷ rs) o n h = go (table_have rs (o + column_width r) n (laid_cons r rs o n h).rest) (true_or_false (has_value r.presence (cell_at r row)))
    where
      go : AllHave rs (write_by rs row) → (has_value r.presence (cell_at r row) ≡ true) ⊎ (has_value r.presence (cell_at r row) ≡ false)
          → AllHave (r ∷ rs) (field_of r row ++ write_by rs row)
      go rest (inl k) = rw (field_some r row k)
          (λ p q e at tag stop. present_have r rs (write_by rs row) (laid_cons r rs o n h).sound k p q e rest (length p) refl at tag stop)
      go rest (inr k) = rw (field_none r row k) (absent_have r rs (write_by rs row) (laid_cons r rs o n h).sound rest)

  table_found : (columns : List Column) (o n : ℕ) → laid columns o n ≡ true → AllFound columns (write_by columns row)
  unfolding write_by
  table_found [] o n h = λ p q e j l k. absurd (omega arith)
  table_found (r ∷ rs) o n h = go (table_found rs (o + column_width r) n (laid_cons r rs o n h).rest) (true_or_false (has_value r.presence (cell_at r row)))
    where
      go : AllFound rs (write_by rs row) → (has_value r.presence (cell_at r row) ≡ true) ⊎ (has_value r.presence (cell_at r row) ≡ false)
          → AllFound (r ∷ rs) (field_of r row ++ write_by rs row)
      go rest (inl k) = rw (field_some r row k)
          (λ p q e. present_found r rs (write_by rs row) (laid_cons r rs o n h).sound k p q e rest)
      go rest (inr k) = rw (field_none r row k) (absent_found r rs (write_by rs row) (laid_cons r rs o n h).sound k rest)

-- ---- a value s[start..end) that a row of a format is written as

module _ (format : Format) (row s : List ℕ) (start end : ℕ) (from : start ≤ end) (within : end ≤ length s)
    (is : write_by (columns_of format) row ≡ part start (end - start) s) where
  inside : start + (end - start) ≤ length s
  inside = omega arith

  lent : Written row s end (write_by (columns_of format) row) (take start s) (drop (start + length (write_by (columns_of format) row)) s)
  unfolding splice
  lent = record {
    bytes = rw is (sym (splice_part start (end - start) s inside));
    ends = omega (arith, length-take-le start s (omega arith), ap length is, part_length start (end - start) s inside);
  }

  place : length (take start s) ≡ start
  place = length-take-le start s (omega arith)

  module _ (j : ℕ) (l : j < length (columns_of format)) where
    -- a field with a column's tag has the value of its cell
    pub field_column : (at stop : ℕ) → Stands s start end (column_at (columns_of format) j).tag at stop
        → HasAt (columns_of format) j row × (value_in (columns_of format) j row ≡ value_at s at stop)
    field_column at stop f = has_at (columns_of format) row (value_at s at stop) j (format_distinct format) l
        (table_have row s end (columns_of format) 0 (format_width format) (format_laid format) _ _ lent at _ stop
        (subst (λ (n : ℕ). FieldsStand s end n at) (sym place) f.before) f.field)

    -- and a cell with a value has its field
    pub column_field : HasAt (columns_of format) j row → Found s start end (column_at (columns_of format) j).tag (value_in (columns_of format) j row)
    column_field h = subst (λ (n : ℕ). Found s n end (column_at (columns_of format) j).tag (value_in (columns_of format) j row)) place
        (table_found row s end (columns_of format) 0 (format_width format) (format_laid format) _ _ lent j l h)
