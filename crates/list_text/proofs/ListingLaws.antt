-- What the program prints, case by case. Theorems for a reader: `listed_long` for a sheet that is too long, `refused_text` for one that is refused,
-- `accepted_text` and `accepted_listing` for one that is accepted: its listing, and what the counts in it are. The other laws serve the proofs.
use mathlib.Core.List.{List, ◌++◌, [], ◌∷◌}
use Rattle.std.specs.Prelude.{◌≡◌, length}
use Rattle.std.proofs.Math.Path.{refl, ap, ap₂}
use Rattle.std.proofs.Common.{sym, ◌∙◌, arith, eq-eqb, lt-ltb, le-ltb}
use Prim.Native.Nat.{ℕ, zero, suc, ◌≤◌, ◌<◌}
use Rattle.prelude.specs.SpliceLaws.{splice_all}
use Rattle.prelude.specs.SaysLaws.{says_eq, says_false}
use Rattle.prelude.specs.Part.{splice, zeros, Bytes}
use Rattle.prelude.specs.PartLaws.{zeros_length}
use Rattle.prelude.specs.Concat.{concat_below}
use Rattle.prelude.specs.ConcatLaws.{concat_same}
use Rattle.schema.specs.declared.answer.Answer.{Answer}
use Rattle.schema.specs.Numbers.{class_limit}
use Rattle.schema.specs.Layout.{closure_length}
use Rattle.schema.specs.Store.{Table, closure_at, Stores, Result, table_in}
use Rattle.schema.specs.declared.number.TableId.TheVariants.{Classes}
use Rattle.schema.specs.Row.{name_of}
use Rattle.tables.specs.Shaped.{TableShaped}
use Rattle.tables.specs.Filled.{empty_stores}
use Rattle.tables.specs.Same.{Same}
use Rattle.graph.specs.Graph.{closure_row, closure_rows}
use Rattle.graph.proofs.FreshLaws.{closure_rows_length, closure_rows_at}
use Rattle.sheet_read.specs.Held.{Lent}
use Rattle.sheet_read.specs.Reading.{read_sheet, schema_from}
use Rattle.sheet_read.specs.ReadingLaws.{sheet_sound}
use Rattle.keeper.specs.Load.{read_answer, filled, loaded, load}
use Rattle.keeper.specs.InShapeLaws.{not_short}
use Rattle.keeper.specs.LoadLaws.{load_long, load_accepted, both_same, both_shaped, empty_long}
use Rattle.list_text.specs.Listing.{kept_counts, defined_counts, class_line, class_lines, head_line, listing, refused_line, too_long, sheet_limit}
use Rattle.list_text.specs.Listing.{loaded_text, listed, ListingOf, Counts, identifier_text}
use Rattle.list_text.specs.CountsLaws.{must_members, may_members, demanded_count, allowed_count}
use Rattle.list_text.specs.Text.{decimal, text_line}

-- ---- the text for a sheet

pub listed_long : (sheet : List ℕ) → sheet_limit < length sheet → listed sheet ≡ too_long
unfolding listed
listed_long sheet l = rw (lt-ltb sheet_limit (length sheet) l)

pub listed_loaded : (sheet : List ℕ) → length sheet ≤ sheet_limit → listed sheet ≡ loaded_text (load sheet empty_stores)
unfolding listed
listed_loaded sheet l = rw (le-ltb sheet_limit (length sheet) l)

pub text_accepted : (r : Result) → r.answer.number ≡ 0 → loaded_text r ≡ listing (kept_counts r.left.closure) (table_in Classes r.left.classes)
unfolding loaded_text
text_accepted r e = rw (eq-eqb r.answer.number 0 e)

pub text_refused : (r : Result) → ¬ (r.answer.number ≡ 0) → loaded_text r ≡ refused_line r.answer
unfolding loaded_text
text_refused r d = rw (says_false (says_eq r.answer.number 0) d)

-- ---- tables with the same rows

listing_same : {t u : Table} → Same t u → (n : Counts) → listing n t ≡ listing n u
unfolding listing class_lines class_line
listing_same {t} {u} s n =
    ap (λ (x : List ℕ). head_line ++ x)
    (concat_same t.count _ _
    (λ c l. ap (λ (r : List ℕ). text_line (decimal c ∷ name_of r ∷ identifier_text r ∷ decimal (n.must c) ∷ decimal (n.may c) ∷ [])) (s.rows c l))
    ∙ ap (λ (m : ℕ). concat_below m (class_line n u)) s.count)

-- ---- the listing of a closure that is that of the rows

module _ (t : Table) (closure : List ℕ) (few : t.count ≤ class_limit) (fresh : (c : ℕ) → c < class_limit → closure_at closure c ≡ closure_row t c) where
  line_defined : (c : ℕ) → c < class_limit → class_line (kept_counts closure) t c ≡ class_line (defined_counts t) t c
  unfolding class_line
  line_defined c l = rw (must_members t closure c (fresh c l), may_members t closure c (fresh c l))

  lines_defined : (n : ℕ) → n ≤ class_limit → concat_below n (class_line (kept_counts closure) t) ≡ concat_below n (class_line (defined_counts t) t)
  unfolding concat_below
  lines_defined zero l = refl
  lines_defined (suc n) l = ap₂ (λ (x y : List ℕ). x ++ y) (lines_defined n (omega arith)) (line_defined n (omega arith))

  listing_defined : listing (kept_counts closure) t ≡ listing (defined_counts t) t
  unfolding listing class_lines
  listing_defined = ap (λ (x : List ℕ). head_line ++ x) (lines_defined t.count few)

-- ---- a load into empty stores

all_written : (new : List ℕ) → length new ≡ closure_length → splice 0 new empty_stores.closure ≡ new
all_written new e = splice_all new (zeros closure_length) (zeros_length closure_length ∙ sym e)

module _ (sheet : List ℕ) where
  -- the classes that are read of it
  abbrev pub classes_read : Table
  classes_read = (schema_from (read_sheet sheet).rows).classes

  read_answer_lem : (load sheet empty_stores).answer ≡ read_answer (read_sheet sheet)
  unfolding loaded
  read_answer_lem = ap (λ (r : Result). r.answer) (load_long sheet empty_stores (not_short empty_stores empty_long))

  module _ (accepted : (load sheet empty_stores).answer.number ≡ 0) where
    accepted_stores : (load sheet empty_stores).left ≡ filled (read_sheet sheet).rows empty_stores
    accepted_stores =
        let z : (read_answer (read_sheet sheet)).number ≡ 0 = sym (ap (λ (a : Answer). a.number) read_answer_lem) ∙ accepted in
        ap (λ (r : Result). r.left) (load_accepted sheet empty_stores (not_short empty_stores empty_long) z)

    pub accepted_closure : (load sheet empty_stores).left.closure ≡ closure_rows classes_read
    unfolding filled
    accepted_closure = ap (λ (s : Stores). s.closure) accepted_stores ∙ all_written (closure_rows classes_read) (closure_rows_length classes_read)

    module _ (bytes : Bytes sheet) where
      lent : Lent empty_stores.attributes empty_stores.classes
      lent = record { attributes = empty_long.attributes; classes = empty_long.classes }

      pub accepted_shaped : TableShaped Classes (load sheet empty_stores).left.classes
      unfolding filled
      accepted_shaped = rw accepted_stores (both_shaped (read_sheet sheet).rows (sheet_sound sheet bytes) empty_stores.attributes
          empty_stores.classes lent).classes

      -- the classes that the store holds are those of the sheet
      accepted_same : Same (table_in Classes (load sheet empty_stores).left.classes) classes_read
      unfolding filled
      accepted_same = rw accepted_stores (both_same (read_sheet sheet).rows (sheet_sound sheet bytes) empty_stores.attributes empty_stores.classes
          lent Classes)

      -- an accepted sheet: the listing of its rows, with the counts of the sets as they are defined
      pub accepted_text : length sheet ≤ sheet_limit → listed sheet ≡ listing (defined_counts classes_read) classes_read
      accepted_text l =
          listed_loaded sheet l ∙ text_accepted (load sheet empty_stores) accepted
          ∙ ap (λ (x : List ℕ). listing (kept_counts x) (table_in Classes (load sheet empty_stores).left.classes)) accepted_closure
          ∙ listing_same accepted_same (kept_counts (closure_rows classes_read))
          ∙ listing_defined classes_read (closure_rows classes_read) (sheet_sound sheet bytes Classes).fit.few (closure_rows_at classes_read)

      -- in each of its lines stand the numbers of attributes that the classes reached list
      pub accepted_listing : length sheet ≤ sheet_limit → ListingOf classes_read (listed sheet)
      accepted_listing l = record {
        counts = defined_counts classes_read;
        demanded = demanded_count classes_read;
        allowed = allowed_count classes_read;
        is
            = accepted_text l;
      }

  -- a refused one: its line
  pub refused_text : length sheet ≤ sheet_limit → ¬ ((load sheet empty_stores).answer.number ≡ 0) → listed sheet ≡ refused_line (read_answer (read_sheet sheet))
  refused_text l d = listed_loaded sheet l ∙ text_refused (load sheet empty_stores) d ∙ ap refused_line read_answer_lem
