-- Field by field through a sheet: each turn goes on behind the field, within the sheet.
use Rattle.std.specs.Prelude.{Ok, Err}
use mathlib.Core.Bool.{Bool, cond, not, true, false}
use mathlib.Core.List.{List}
use mathlib.Core.Path.{subst₂, ap, refl, sym, ◌∙◌, ◌≡◌}
use Prim.Native.Nat.{◌<◌, ℕ, ◌≤◌}
use native.Mathlib.Omega.{arith}
use lib.Dec.{eqb}
use lib.ListN.{length}
use borrow.Author.Tests.{eqb-true, eqb-false, not-true, not-false}
use Rattle.prelude.specs.Part.{splice, zeros, Bytes}
use Rattle.prelude.specs.SpliceLaws.{splice_length, splice_over}
use Rattle.prelude.specs.PartLaws.{zeros_length}
use Rattle.schema.specs.declared.number.TableId.TheVariants.{Attributes, Classes}
use Rattle.schema.specs.declared.number.TableId.{TableId}
use Rattle.schema.specs.Layout.{store_length}
use Rattle.tables.specs.Filled.{filled_store}
use Rattle.tables.specs.FilledLaws.{store_empty, store_length_lem}
use Rattle.sheet_read.specs.declared.read.Phase.{Phase}
use Rattle.sheet_read.specs.declared.read.Phase.TheVariants.{Start}
use Rattle.sheet_read.specs.Turn.{Turn}
use Rattle.sheet_read.specs.declared.read.SheetError.{SheetError}
use Rattle.sheet_read.specs.declared.read.Progress.{Progress}
use Rattle.sheet_read.specs.SheetRead.{SheetRead}
use Rattle.sheet_read.specs.SheetRead.{Read, Bad}
use Rattle.sheet_read.specs.Reading.{Rows, SheetOut, no_rows, read_sheet, sheet_out, take_field}
use Rattle.sheet_read.specs.Held.{Stepped, Held, Left, Lent, Steps, Fitting}
use Rattle.sheet_read.proofs.TurnLaws.{Stands, stands_start, stands_end, stands_stop, stands_forward, stands_on}
use Rattle.sheet_read.specs.ReadingLaws.{no_rows_sound, sheet_sound}

-- where the loop stands: the stores hold the rows read so far
pub record Reading (s a c attributes classes : List ℕ) (at : ℕ) (phase : Phase) (missing : Bool) : Type 0 where
  pub lent : Lent attributes classes
  pub rows : Rows
  pub held : Held rows a c attributes classes
  pub stands : Stands s at phase missing rows

-- the stores are emptied first
pub reading_start : (s a c : List ℕ) → Lent a c → Reading s a c (splice 0 (zeros (store_length Attributes)) a)
    (splice 0 (zeros (store_length Classes)) c) 0 Start true
reading_start s a c o =
    let la : length (splice 0 (zeros (store_length Attributes)) a)
    ≡ length a = splice_length 0 (zeros (store_length Attributes)) a (omega (arith, zeros_length (store_length Attributes), o.attributes)) in
    let lc : length (splice 0 (zeros (store_length Classes)) c)
    ≡ length c = splice_length 0 (zeros (store_length Classes)) c (omega (arith, zeros_length (store_length Classes), o.classes)) in
    record {
      lent = record { attributes = omega (arith, la, o.attributes); classes = omega (arith, lc, o.classes) };
      rows = no_rows;
      held = record {
        attributes_fit = (no_rows_sound Attributes).fit;
        classes_fit = (no_rows_sound Classes).fit;
        attributes_are = ap (λ (x : List ℕ). splice 0 x a) (sym (store_empty Attributes));
        classes_are = ap (λ (x : List ℕ). splice 0 x c) (sym (store_empty Classes));
      };
      stands = stands_start s;
    }

module _ {s a c attributes classes : List ℕ} {at : ℕ} {phase : Phase} {missing : Bool} (r : Reading s a c attributes classes at phase missing) where
  left_as : (o : SheetOut) → o ≡ read_sheet s → o.rows ≡ r.rows → Left (read_sheet s) a c o.answer attributes classes
  left_as o e q =
      record {
        answer = ap (λ (y : SheetOut). y.answer) e;
        attributes = r.held.attributes_are ∙ ap (λ (y : Rows). splice 0 (filled_store Attributes y.attributes) a)
            (sym q ∙ ap (λ (y : SheetOut). y.rows) e);
        classes = r.held.classes_are ∙ ap (λ (y : Rows). splice 0 (filled_store Classes y.classes) c) (sym q ∙ ap (λ (y : SheetOut). y.rows) e);
      }

  -- the end of the sheet, with and without a heading before it
  pub reading_end : (b : Bool) → missing ≡ b → length s ≤ at → Left (read_sheet s) a c (cond b (Bad at) Read) attributes classes
  reading_end b e l =
      left_as (sheet_out (cond b (Bad at) Read) r.rows)
      (sym (stands_end r.stands l ∙ ap (λ (z : Bool). sheet_out (cond z (Bad at) Read) r.rows) e)) refl

  -- the loop asks whether the place is the end
  module _ (ended : Bool) (asked : ended ≡ eqb at (length s)) where
    pub reading_before : not ended ≡ true → at < length s
    reading_before e = let apart = eqb-false at (length s) (sym asked ∙ not-true ended e) in omega (arith, r.stands.within, apart)

    pub reading_over : not ended ≡ false → length s ≤ at
    reading_over e = omega (arith, eqb-true at (length s) (sym asked ∙ not-false ended e))

  -- one field more
  module _ (l : at < length s) (t : Turn) (b d : List ℕ) (stepped : Steps (take_field s at phase missing) attributes classes t b d) where
    y : Stepped (take_field s at phase missing r.rows) a c t b d
    y = stepped r.rows a c r.held

    pub reading_stop : (error : SheetError) → t ≡ Err error → (came : SheetRead) → came ≡ Err error → Left (read_sheet s) a c came b d
    reading_stop error e came f =
        let stop : read_sheet s ≡ sheet_out (Err error) (take_field s at phase missing r.rows).rows = stands_stop r.stands l _ refl error (sym y.went ∙ e) in
        record {
          answer = f ∙ sym (ap (λ (z : SheetOut). z.answer) stop);
          attributes = y.held.attributes_are ∙ ap (λ (z : SheetOut). splice 0 (filled_store Attributes z.rows.attributes) a) (sym stop);
          classes = y.held.classes_are ∙ ap (λ (z : SheetOut). splice 0 (filled_store Classes z.rows.classes) c) (sym stop);
        }

    pub reading_forward : (progress : Progress) → t ≡ Ok progress → (at < progress.at) × (progress.at ≤ length s)
    reading_forward progress e = stands_forward r.stands l _ refl progress (sym y.went ∙ e)

    pub reading_on : (progress : Progress) → t ≡ Ok progress → length b ≡ length attributes → length d ≡ length classes
        → Reading s a c b d progress.at progress.phase progress.missing
    reading_on progress e p q =
        record {
          lent = record { attributes = omega (arith, r.lent.attributes); classes = omega (arith, r.lent.classes) };
          rows = (take_field s at phase missing r.rows).rows;
          held = y.held;
          stands = stands_on r.stands l _ refl progress (sym y.went ∙ e);
        }

-- ---- stores that were emptied before

emptied_again : (n : ℕ) (a e : List ℕ) → n ≤ length a → e ≡ splice 0 (zeros n) a → splice 0 (zeros n) e ≡ e
emptied_again n a e long q = ap (splice 0 (zeros n)) q ∙ splice_over 0 (zeros n) (zeros n) a refl (omega (arith, zeros_length n)) ∙ sym q

emptied_long : (n : ℕ) (a e : List ℕ) → n ≤ length a → e ≡ splice 0 (zeros n) a → length e ≡ length a
emptied_long n a e long q = ap length q ∙ splice_length 0 (zeros n) a (omega (arith, zeros_length n))

module _ (s a c e f : List ℕ) (lent : Lent a c) (p : e ≡ splice 0 (zeros (store_length Attributes)) a) (q : f ≡ splice 0 (zeros (store_length Classes)) c) where
  pub emptied_lent : Lent e f
  emptied_lent =
      record {
        attributes = omega (arith, lent.attributes, emptied_long (store_length Attributes) a e lent.attributes p);
        classes = omega (arith, lent.classes, emptied_long (store_length Classes) c f lent.classes q);
      }

  pub reading_begun : Reading s e f e f 0 Start true
  reading_begun =
      subst₂ (λ (x y : List ℕ). Reading s e f x y 0 Start true) (emptied_again (store_length Attributes) a e lent.attributes p)
      (emptied_again (store_length Classes) c f lent.classes q) (reading_start s e f emptied_lent)

  pub left_emptied : Bytes s → {r : SheetRead} {a' c' : List ℕ} → Left (read_sheet s) e f r a' c' → Left (read_sheet s) a c r a' c'
  left_emptied bytes {r} h =
      record {
        answer = h.answer;
        attributes = h.attributes ∙ over Attributes (read_sheet s).rows.attributes (sheet_sound s bytes Attributes).fit a e lent.attributes p;
        classes = h.classes ∙ over Classes (read_sheet s).rows.classes (sheet_sound s bytes Classes).fit c f lent.classes q;
      }
    where
      over : (t : TableId) (list : List (List ℕ)) → Fitting t list → (u v : List ℕ) → store_length t ≤ length u → v ≡ splice 0 (zeros (store_length t)) u
          → splice 0 (filled_store t list) v ≡ splice 0 (filled_store t list) u
      over t list fit u v long g =
          let n : length (filled_store t list) ≡ store_length t = store_length_lem t list u fit.wide fit.few in
          ap (splice 0 (filled_store t list)) g
          ∙ splice_over 0 (filled_store t list) (zeros (store_length t)) u (n ∙ sym (zeros_length (store_length t)))
          (omega (arith, zeros_length (store_length t)))
