-- The round trips of whole rows. What the reader accepts is well-formed, and is written as the bytes that were read, an attribute row where 08 stands
-- exactly where oMSyntax is 127; a well-formed row that is written is read back.
use Rattle.std.specs.Prelude.{true, Err, ◌≡◌, refl, length, drop}
use Rattle.std.proofs.Math.Bool.{false}
use mathlib.Core.List.{List, [], ◌++◌}
use Rattle.std.proofs.Math.Path.{sym, ap}
use Rattle.std.proofs.Common.{◌∙◌, arith, drop_of_length-le}
use Prim.Native.Nat.{ℕ, ◌+◌, ◌-◌, ◌≤◌}
use Rattle.prelude.specs.Part.{part, Bytes}
use Rattle.schema.specs.declared.number.TableId.{TableId}
use Rattle.schema.specs.Layout.{row_width}
use Rattle.rows_format.specs.declared.format.Format.{Format}
use Rattle.rows_format.specs.Columns.{well_formed_by, write_by}
use Rattle.rows_format.specs.Formats.{columns_of, format_width}
use Rattle.rows_format.proofs.FormatsLaws.{format_laid, format_distinct}
use Rattle.rows_format.specs.declared.format.Format.TheVariants.{NewRow, Row}
use Rattle.rows_read.specs.RowRead.{RowRead}
use Rattle.rows_read.specs.RowRead.{Read}
use Rattle.rows_read.specs.Reading.{Out, out, read_by}
use Rattle.rows_read.specs.ReadBackLaws.{read_back}
use Rattle.rows_read.specs.WriteReadLaws.{write_read}
use Rattle.rows_read.specs.ObjectClass.{finished, finish, read_row, finished_row}
use Rattle.rows_read.specs.WellFormed.{stands_exactly, well_formed}
use Rattle.rows_read.specs.FormedLaws.{added_row_lem}
use Rattle.rows_read.specs.WellFormedLaws.{finished_exact, finished_formed, finished_length, finished_same, formed_parts}

-- ---- what the reader accepts is well-formed

module _ (format : Format) (s : List ℕ) (start end : ℕ) (row new : List ℕ) (bytes : Bytes s) (le : end ≤ length s)
    (fits : format_width format ≤ length row) where
  -- the fields as they are read, before they are finished
  pub fields_back : read_by s end (columns_of format) start false row ≡ out Read new
      → (length new ≡ length row) × ((well_formed_by (columns_of format) new ≡ true) × (write_by (columns_of format) new ≡ part start (end - start) s))
  fields_back e =
      let b = read_back s end (columns_of format) 0 (format_width format) start false row new bytes le (format_laid format) fits e in
      (b.long, (b.formed, b.written))

-- a row that was read: its fields were, and then it was finished
pub row_read_lem : (format : Format) (s : List ℕ) (start end : ℕ) (row new : List ℕ) → read_row format s start end row ≡ out Read new
    → (read_by s end (columns_of format) start false row ≡ out Read (read_by s end (columns_of format) start false row).row)
    × (new ≡ finished format (read_by s end (columns_of format) start false row).row)
unfolding read_row finish
row_read_lem format s start end row new e = go o.answer refl e
  where
    o : Out
    o = read_by s end (columns_of format) start false row

    go : (a : RowRead) → o.answer ≡ a → finish format a o.row ≡ out Read new → (o ≡ out Read o.row) × (new ≡ finished format o.row)
    go Read p q = (λ i. record { answer = p i; row = o.row }, sym (ap (λ (x : Out). x.row) q))
    go (Err bad) p q = let a : Err bad ≡ Read = ap (λ (x : Out). x.answer) q in let no : ◌≡◌ {A = ℕ} 0 1 = cc in absurd (omega arith)

module _ (t : TableId) (s : List ℕ) (start end : ℕ) (row new : List ℕ) (bytes : Bytes s) (le : end ≤ length s) (fits : row_width t ≤ length row) where
  abbrev raw : List ℕ
  raw = (read_by s end (columns_of (Row t)) start false row).row

  module _ (e : read_row (Row t) s start end row ≡ out Read new) where
    is : new ≡ finished_row t raw
    unfolding finished
    is = (row_read_lem (Row t) s start end row new e).1

    back : (length raw ≡ length row) × ((well_formed_by (columns_of (Row t)) raw ≡ true) × (write_by (columns_of (Row t)) raw ≡ part start (end - start) s))
    unfolding format_width
    back = fields_back (Row t) s start end row raw bytes le fits (row_read_lem (Row t) s start end row new e).0

    -- a row that was read is as long as the one lent for it
    pub row_read_length : length new ≡ length row
    row_read_length = ap length is ∙ finished_length t raw (omega (arith, back.0)) ∙ back.0

    pub row_read_formed : well_formed t new ≡ true
    row_read_formed = rw is (finished_formed t raw (omega (arith, back.0)) back.1.0)

    -- and is written as the bytes that were read, an attribute row where 08 stands exactly where oMSyntax is 127
    pub row_read_written : stands_exactly t raw ≡ true → write_by (columns_of (Row t)) new ≡ part start (end - start) s
    row_read_written x = ap (write_by (columns_of (Row t))) (is ∙ finished_exact t raw (omega (arith, back.0)) back.1.0 x) ∙ back.1.1

  -- an added row too is one of the table
  pub added_row_formed : read_row (NewRow t) s start end row ≡ out Read new → well_formed t new ≡ true
  unfolding finished format_width
  added_row_formed e =
      let new-raw : List ℕ = (read_by s end (columns_of (NewRow t)) start false row).row in
      let r = row_read_lem (NewRow t) s start end row new e in
      let b = fields_back (NewRow t) s start end row new-raw bytes le fits r.0 in
      rw r.1 (finished_formed t new-raw (omega (arith, b.0)) (added_row_lem t new-raw b.1.0))

-- ---- a well-formed row is what the reader gives back for what the writer writes

-- for any format: a row whose cells are well-formed, read into a row that has the same bytes behind the cells
pub written_value_read : (format : Format) (p q row old : List ℕ) → Bytes row → format_width format ≤ length row → length old ≡ length row
    → drop (format_width format) old ≡ drop (format_width format) row → well_formed_by (columns_of format) row ≡ true
    → read_row format (p ++ (write_by (columns_of format) row ++ q)) (length p) (length p + length (write_by (columns_of format) row)) old
    ≡ out Read (finished format row)
unfolding read_row finish
written_value_read format p q row old bytes fits k rest f =
    rw (write_read (columns_of format) (format_width format) row (format_laid format) (format_distinct format) fits bytes f p q old k rest)

nothing_behind : (n : ℕ) (s : List ℕ) → length s ≡ n → drop n s ≡ []
nothing_behind n s e = let short : length s ≤ n = omega arith in drop_of_length-le s short

module _ (t : TableId) (p q row old : List ℕ) (bytes : Bytes row) where
  pub written_row_read : length row ≡ row_width t → length old ≡ row_width t → well_formed t row ≡ true
      → read_row (Row t) (p ++ (write_by (columns_of (Row t)) row ++ q)) (length p) (length p + length (write_by (columns_of (Row t)) row)) old ≡ out Read row
  unfolding finished format_width
  written_row_read l k f =
      written_value_read (Row t) p q row old bytes (omega arith) (k ∙ sym l)
      (nothing_behind (row_width t) old k ∙ sym (nothing_behind (row_width t) row l)) (formed_parts t row f).0
      ∙ ap (out Read) (finished_same t row (omega arith) f)
