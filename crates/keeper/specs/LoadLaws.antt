-- Stores that hold the rows of a sheet: they are in shape, as long as they were, and empty again once they are emptied; and a load by its cases.
use Rattle.std.specs.Prelude.{◌&&◌, Bool, false, true, ◌≡◌, ◌≤◌, ℕ, length}
use mathlib.Core.List.{[], List}
use Rattle.std.proofs.Math.Path.{ap₂, refl, sym}
use Rattle.std.proofs.Common.{◌∙◌, arith}
use Rattle.prelude.specs.Part.{splice, zeros}
use Rattle.prelude.specs.PartLaws.{zeros_length}
use Rattle.prelude.specs.SaysLaws.{says_eq, says_false, says_true}
use Rattle.prelude.specs.SpliceLaws.{splice_length, splice_over}
use Rattle.schema.specs.declared.answer.Answer.{Answer}
use Rattle.schema.specs.declared.number.TableId.{TableId}
use Rattle.schema.specs.declared.number.TableId.TheVariants.{Attributes, Classes}
use Rattle.schema.specs.Answers.{refused, unreadable, full}
use Rattle.schema.specs.Layout.{store_length, closure_length}
use Rattle.schema.specs.Store.{LongEnough, Stores, any_short, result_of, schema_in, table_in}
use Rattle.tables.specs.Filled.{empty_stores, filled_store, table_from}
use Rattle.tables.specs.FilledLaws.{store_length_lem}
use Rattle.tables.specs.Same.{Same, SameRows}
use Rattle.tables.specs.SameLaws.{filled_same}
use Rattle.tables.specs.Shaped.{Shaped}
use Rattle.graph.specs.Graph.{Readable}
use Rattle.rows_read.specs.WellFormed.{well_formed}
use Rattle.sheet_read.specs.SheetRead.{Bad, Full, Read}
use Rattle.sheet_read.specs.Held.{Lent}
use Rattle.sheet_read.specs.Reading.{Rows, SheetOut, rows_in, schema_from, sheet_answer, sheet_out, read_sheet}
use Rattle.sheet_read.specs.ReadingLaws.{Sound, all_at}
use Rattle.rules.specs.declared.row.Added.TheVariants.{Nothing}
use Rattle.rules.specs.Judge.{judged}
use Rattle.tables_shape.proofs.FilledShapeLaws.{filled_formed}
use Rattle.tables_shape.specs.Shape.{stores_formed, table_formed}
use Rattle.tables_shape.proofs.ShapeLaws.{formed_readable, formed_shaped}
use Rattle.schema.specs.AnsweringLaws.{first_last, first_passed, first_refused}
use Rattle.keeper.specs.Load.{emptied, filled, load, loaded, read_answer}
use Rattle.schema.specs.Refusals as refusal

-- ---- a store that some rows were put into

module _ (t : TableId) (list : List (List ℕ)) (sound : Sound t list) (s₀ : List ℕ) (long : store_length t ≤ length s₀) where
  abbrev held : List ℕ
  held = splice 0 (filled_store t list) s₀

  filled_long : length (filled_store t list) ≡ store_length t
  filled_long = store_length_lem t list s₀ sound.fit.wide sound.fit.few

  pub held_length : length held ≡ length s₀
  held_length = splice_length 0 (filled_store t list) s₀ (omega (arith, filled_long, long))

  -- emptied, it is the store emptied at first
  pub held_emptied : splice 0 (zeros (store_length t)) held ≡ splice 0 (zeros (store_length t)) s₀
  held_emptied = splice_over 0 (zeros (store_length t)) (filled_store t list) s₀ (zeros_length (store_length t) ∙ sym filled_long)
      (omega (arith, filled_long, long))

  held_formed : table_formed t held ≡ true
  held_formed = filled_formed t list s₀ long sound.fit.wide sound.fit.few (all_at (λ r. well_formed t r ≡ true) list sound.formed)

  held_same : Same (table_in t held) (table_from list)
  held_same = filled_same t list s₀ sound.fit.wide sound.fit.few

-- ---- both

module _ (x : Rows) (sound : (t : TableId) → Sound t (rows_in t x)) (a c : List ℕ) (lent : Lent a c) where
  abbrev attributes_held : List ℕ
  attributes_held = splice 0 (filled_store Attributes x.attributes) a

  abbrev classes_held : List ℕ
  classes_held = splice 0 (filled_store Classes x.classes) c

  pub both_formed : stores_formed attributes_held classes_held ≡ true
  unfolding stores_formed
  both_formed =
      ap₂ (λ (p q : Bool). p && q) (held_formed Attributes x.attributes (sound Attributes) a lent.attributes)
      (held_formed Classes x.classes (sound Classes) c lent.classes)

  attributes_long : store_length Attributes ≤ length attributes_held
  attributes_long = omega (arith, held_length Attributes x.attributes (sound Attributes) a lent.attributes, lent.attributes)

  classes_long_lem : store_length Classes ≤ length classes_held
  classes_long_lem = omega (arith, held_length Classes x.classes (sound Classes) c lent.classes, lent.classes)

  pub both_lent : Lent attributes_held classes_held
  both_lent = record { attributes = attributes_long; classes = classes_long_lem }

  pub both_shaped : Shaped attributes_held classes_held
  both_shaped = formed_shaped attributes_held classes_held attributes_long classes_long_lem both_formed

  pub both_readable : Readable classes_held
  both_readable = formed_readable attributes_held classes_held attributes_long classes_long_lem both_formed

  pub both_same : SameRows (schema_in attributes_held classes_held) (schema_from x)
  both_same Attributes = held_same Attributes x.attributes (sound Attributes) a lent.attributes
  both_same Classes = held_same Classes x.classes (sound Classes) c lent.classes

-- ---- the answer, by what reading came to

module _ (x : Rows) where
  abbrev verdict : Answer
  verdict = judged Nothing (schema_from x)

  pub read_judged : verdict ≡ read_answer (sheet_out Read x)
  unfolding read_answer
  read_judged = sym (first_passed (sheet_answer Read) [] verdict refl ∙ first_last verdict)

  pub read_bad : (at : ℕ) → unreadable at ≡ read_answer (sheet_out (Bad at) x)
  unfolding read_answer
  read_bad at = sym (first_refused (sheet_answer (Bad at)) [] verdict (λ z. omega arith))

  pub read_full : (t : TableId) → full t ≡ read_answer (sheet_out (Full t) x)
  unfolding read_answer
  read_full t = sym (first_refused (sheet_answer (Full t)) [] verdict (λ z. omega arith))

-- ---- the whole load, by its three cases

module _ (sheet : List ℕ) (s : Stores) where
  abbrev out : SheetOut
  out = read_sheet sheet

  -- a store is too short: nothing is touched
  pub load_short : any_short s ≡ true → load sheet s ≡ result_of (refused refusal.short_store) s
  unfolding load
  load_short e = rw e

  module _ (long : any_short s ≡ false) where
    pub load_long : load sheet s ≡ loaded out s
    unfolding load
    load_long = rw long

    -- accepted: the rows that were read, and their closure
    pub load_accepted : (read_answer out).number ≡ 0 → load sheet s ≡ result_of (read_answer out) (filled out.rows s)
    load_accepted z = load_long ∙ (unfold loaded in (rw (says_true (says_eq (read_answer out).number 0) z)))

    -- refused: every store byte zero
    pub load_rejected : ¬ ((read_answer out).number ≡ 0) → load sheet s ≡ result_of (read_answer out) (emptied s)
    load_rejected d = load_long ∙ (unfold loaded in (rw (says_false (says_eq (read_answer out).number 0) d)))

-- ---- empty stores of exactly their lengths

pub empty_long : LongEnough empty_stores
empty_long =
    record {
      attributes = omega (arith, zeros_length (store_length Attributes));
      classes = omega (arith, zeros_length (store_length Classes));
      closure = omega (arith, zeros_length closure_length);
    }
