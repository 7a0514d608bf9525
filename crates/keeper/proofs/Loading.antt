-- How a load goes on: what reading gave is judged, and the stores are filled or emptied by the answer.
use mathlib.Core.Bool.{true, false}
use mathlib.Core.List.{List}
use mathlib.Core.Path.{◌≡◌, sym, ap, ap₂, ◌∙◌}
use Prim.Native.Nat.{ℕ, ◌≤◌}
use native.Mathlib.Omega.{arith}
use Rattle.prelude.specs.Part.{splice, zeros, Bytes}
use Rattle.schema.specs.declared.answer.Answer.{Answer}
use Rattle.schema.specs.declared.number.TableId.{TableId}
use Rattle.schema.specs.declared.number.TableId.TheVariants.{Attributes, Classes}
use Rattle.schema.specs.Answers.{refused}
use Rattle.schema.specs.Numbers.{class_limit}
use Rattle.schema.specs.Layout.{closure_length}
use Rattle.schema.specs.Store.{Stores, stores, result_of, any_short, schema_in, table_in}
use Rattle.schema.specs.StoreLaws.{long_enough}
use Rattle.tables.specs.Filled.{filled_store}
use Rattle.tables.specs.SameLaws.{filled_same}
use Rattle.tables.specs.Shaped.{Shaped}
use Rattle.graph.specs.Graph.{closure_rows}
use Rattle.graph.proofs.SameLaws.{closure_rows_same}
use Rattle.sheet_read.specs.SheetRead.{SheetRead}
use Rattle.sheet_read.specs.SheetRead.{Read}
use Rattle.sheet_read.specs.Held.{Lent, Left}
use Rattle.sheet_read.specs.Reading.{Rows, rows_in, schema_from, sheet_out, read_sheet}
use Rattle.sheet_read.specs.ReadingLaws.{Sound, sheet_sound}
use Rattle.rules.specs.declared.row.Added.TheVariants.{Nothing}
use Rattle.rules.specs.Judge.{judged}
use Rattle.rules.proofs.SameLaws.{judged_same}
use Rattle.keeper.specs.LoadLaws.{held_emptied, both_shaped, both_same, read_judged, load_short, load_accepted}
use Rattle.keeper.specs.LoadLaws.{load_rejected}
use Rattle.keeper.specs.Load.{emptied, filled, read_answer, load, ReadAndJudged}
use Rattle.schema.specs.Refusals as refusal

-- ---- reading and judging

module _ (sheet : List ℕ) (bytes : Bytes sheet) (a c : List ℕ) (lent : Lent a c) where
  abbrev x : Rows
  x = (read_sheet sheet).rows

  sound : (t : TableId) → Sound t (rows_in t (read_sheet sheet).rows)
  sound = sheet_sound sheet bytes

  module _ {r : SheetRead} {a' c' : List ℕ} (left : Left (read_sheet sheet) a c r a' c') where
    -- what was read can be judged, and is judged as the rows of the sheet are
    pub read_shaped : Shaped a' c'
    read_shaped = rw (left.attributes, left.classes) (both_shaped x sound a c lent)

    pub read_judge : judged Nothing (schema_in a' c') ≡ judged Nothing (schema_from x)
    read_judge = rw (left.attributes, left.classes) (judged_same (both_same x sound a c lent) Nothing)

    -- the answer by what reading came to
    pub read_ends : {q : SheetRead} {y : Answer} → r ≡ q → y ≡ read_answer (sheet_out q x) → ReadAndJudged (read_sheet sheet) a c y a' c'
    read_ends {q} e g =
        record {
          answer = g ∙ ap (λ (z : SheetRead). read_answer (sheet_out z x)) (sym e ∙ left.answer);
          attributes = left.attributes;
          classes = left.classes;
        }

    pub judge_ends : {y : Answer} → y ≡ judged Nothing (schema_in a' c') → y ≡ read_answer (sheet_out Read x)
    judge_ends e = e ∙ read_judge ∙ read_judged x

-- ---- the whole load

pub stores_lent : (s : Stores) → any_short s ≡ false → Lent s.attributes s.classes
stores_lent s e = let l = long_enough s e in record { attributes = l.attributes; classes = l.classes }

-- the class store says no more rows than there are numbers
pub read_few : (sheet : List ℕ) → Bytes sheet → (c : List ℕ)
    → (table_in Classes (splice 0 (filled_store Classes (read_sheet sheet).rows.classes) c)).count ≤ class_limit
read_few sheet bytes c =
    let fit = (sheet_sound sheet bytes Classes).fit in
    omega (arith, (filled_same Classes (read_sheet sheet).rows.classes c fit.wide fit.few).count, fit.few)

module _ (sheet : List ℕ) (s : Stores) where
  pub short_ends : {y : Answer} → y ≡ refused refusal.short_store → any_short s ≡ true → result_of y s ≡ load sheet s
  short_ends e f = ap (λ (y : Answer). result_of y s) e ∙ sym (load_short sheet s f)

  module _ (long : any_short s ≡ false) (bytes : Bytes sheet) where
    abbrev rows : Rows
    rows = (read_sheet sheet).rows

    -- the tables as reading left them
    abbrev attributes_read : List ℕ
    attributes_read = splice 0 (filled_store Attributes rows.attributes) s.attributes

    abbrev classes_read : List ℕ
    classes_read = splice 0 (filled_store Classes rows.classes) s.classes

    lent : Lent s.attributes s.classes
    lent = stores_lent s long

    -- with the closure worked out from them
    pub filled_ends : (read_answer (read_sheet sheet)).number ≡ 0
        → load sheet s
        ≡ result_of (read_answer (read_sheet sheet)) (stores attributes_read classes_read (splice 0 (closure_rows (table_in Classes classes_read)) s.closure))
    filled_ends z = load_accepted sheet s long z ∙ ap (result_of (read_answer (read_sheet sheet))) (sym same)
      where
        closure : closure_rows (table_in Classes classes_read) ≡ closure_rows (schema_from rows).classes
        closure = closure_rows_same (both_same rows (sheet_sound sheet bytes) s.attributes s.classes lent Classes)

        same : stores attributes_read classes_read (splice 0 (closure_rows (table_in Classes classes_read)) s.closure) ≡ filled rows s
        same = unfold filled in ap (λ (v : List ℕ). stores attributes_read classes_read (splice 0 v s.closure)) closure

    -- emptied again
    pub emptied_ends : ¬ ((read_answer (read_sheet sheet)).number ≡ 0)
        → load sheet s ≡ result_of (read_answer (read_sheet sheet)) (emptied (stores attributes_read classes_read s.closure))
    emptied_ends d = load_rejected sheet s long d ∙ ap (result_of (read_answer (read_sheet sheet))) (sym again)
      where
        again : emptied (stores attributes_read classes_read s.closure) ≡ emptied s
        again = unfold emptied in
            ap₂ (λ (a c : List ℕ). stores a c (splice 0 (zeros closure_length) s.closure))
            (held_emptied Attributes _ (sheet_sound sheet bytes Attributes) s.attributes lent.attributes)
            (held_emptied Classes _ (sheet_sound sheet bytes Classes) s.classes lent.classes)

-- what the check looks up for load: no answer names a branch behind the reading, so an edit of one is refused by the promise that it breaks
pub ruleset load_ends = (filled_ends, emptied_ends, read_few)
