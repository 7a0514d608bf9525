-- What a plain change gives where its field, its value or its target cannot be read: the answers by their definitions.
use Rattle.std.specs.Prelude.{Bool, true, false, ◌&&◌, List, ◌≡◌, refl, ℕ, ◌≤◌, ◌+◌, eqb, leb, length, Some, Option, None, Ok, Err}
use Rattle.std.proofs.Math.Bool.{not}
use Rattle.std.proofs.Common.{sym, ◌∙◌, arith, eqb-true}
use Rattle.std.proofs.Math.Path.{ap, ap₂}
use Rattle.prelude.specs.First.{first_of}
use Rattle.prelude.specs.SaysLaws.{says_lt, says_false}
use Rattle.wire.specs.Wire.{field_at, value_end}
use Rattle.wire.specs.FieldRead.{FieldRead}
use Rattle.schema.specs.declared.answer.Answer.{Answer}
use Rattle.schema.specs.declared.number.TableId.{TableId}
use Rattle.schema.specs.declared.number.TableId.TheVariants.{Attributes, Classes}
use Rattle.schema.specs.Answers.{field_answer, number_answer, refused, unreadable}
use Rattle.schema.specs.Numbers.{limit, number_read}
use Rattle.schema.specs.NumbersLaws.{number_beyond}
use Rattle.schema.specs.Store.{Stores, result_of, schema_of, table}
use Rattle.rows_read.specs.RowRead.{RowRead}
use Rattle.rows_read.specs.Reading.{row_answer}
use Rattle.change_read.specs.declared.read.Change.{Change}
use Rattle.change_read.specs.ChangeRead.{Read}
use Rattle.change_read.specs.Carried.{target_of}
use Rattle.change_read.specs.Reading.{change_of, change_out, field_out, read_change, read_value, tagged_out, whole_read}
use Rattle.change_rows.specs.Rows.{is_addition, table_for}
use Rattle.change_asked.specs.Asked.{target_absent}
use Rattle.change_model.specs.Model.{change_number}
use Rattle.change_model.specs.ModelLaws.{answer_refused}
use Rattle.keeper_change.specs.Plain.{plain_change}
use Rattle.keeper_promises.specs.Promises.{InOrder, value_read}
use Rattle.keeper_promises.specs.PlainLaws.{plain_kept, plain_bad, read_answer_lem}
use Rattle.schema.specs.Refusals as refusal
use Rattle.wire.specs.FieldRead as fields
use Rattle.rows_read.specs.RowRead as rows
use Rattle.schema.specs.declared.number.RowId.{RowId}

-- nothing is left only at the end
end_is : (s : List ℕ) (at end : ℕ) → field_at s at end ≡ fields.End → at ≡ end
unfolding field_at
end_is s at end e = go (eqb at end) refl (leb (at + 3) end) refl (leb (value_end s at) end) refl
  where
    go : (x : Bool) → eqb at end ≡ x → (y : Bool) → leb (at + 3) end ≡ y → (z : Bool) → leb (value_end s at) end ≡ z → at ≡ end
    go true p y q z r = eqb-true at end p
    go false p false q z r = let no : ◌≡◌ {A = ℕ} 0 1 = cc in absurd (omega arith)
    go false p true q false r = let no : ◌≡◌ {A = ℕ} 0 1 = cc in absurd (omega arith)
    go false p true q true r = let no : ◌≡◌ {A = ℕ} 0 1 = cc in absurd (omega arith)

module _ (x : List ℕ) (s : Stores) (h : InOrder s) where
  -- ---- the field

  read_field : {f : FieldRead} → field_at x 0 (length x) ≡ f → (read_change x).answer ≡ (field_out f x).answer
  unfolding read_change
  read_field e = ap (λ (f : FieldRead). (field_out f x).answer) e

  pub plain_field : ¬ ((field_answer (length x) (field_at x 0 (length x))).number ≡ 0)
      → plain_change x s ≡ result_of (field_answer (length x) (field_at x 0 (length x))) s
  plain_field = go (field_at x 0 (length x)) refl
    where
      go : (f : FieldRead) → field_at x 0 (length x) ≡ f → ¬ ((field_answer (length x) f).number ≡ 0) → plain_change x s ≡ result_of (field_answer (length x) f) s
      go (Ok (Some f)) e d = absurd (d refl)
      go fields.End e d =
          plain_bad x s h 0 (read_field e ∙ (unfold field_out in refl)) ∙ ap (λ (n : ℕ). result_of (unreadable n) s) (end_is x 0 (length x) e)
      go (Err bad) e d = plain_bad x s h bad.at (read_field e ∙ (unfold field_out in refl))

  -- ---- its value

  read_value_lem : (tag start stop : ℕ) (change : Change) → field_at x 0 (length x) ≡ fields.Field tag start stop → change_of tag ≡ Some change
      → (read_change x).answer ≡ whole_read change x stop (value_read change x start stop)
  unfolding field_out tagged_out read_value
  read_value_lem tag start stop change field known = read_field field ∙ ap (λ (t : Option Change). (tagged_out t x start stop).answer) known

  pub plain_value : (tag start stop : ℕ) (change : Change) → field_at x 0 (length x) ≡ fields.Field tag start stop → change_of tag ≡ Some change
      → ¬ ((row_answer (value_read change x start stop)).number ≡ 0) → plain_change x s ≡ result_of (row_answer (value_read change x start stop)) s
  plain_value tag start stop change field known = go (value_read change x start stop) refl
    where
      go : (r : RowRead) → value_read change x start stop ≡ r → ¬ ((row_answer r).number ≡ 0) → plain_change x s ≡ result_of (row_answer r) s
      go rows.Read e d = absurd (d refl)
      go (Err bad) e d =
          plain_bad x s h bad.at (read_value_lem tag start stop change field known ∙ ap (whole_read change x stop) e ∙ (unfold whole_read in refl))

  -- ---- its target

  few : (t : TableId) → (table t (schema_of s)).count ≤ limit t
  few Attributes = h.shape.attributes.few
  few Classes = h.shape.classes.few

  absent : (change : Change) (r : List ℕ) → is_addition change ≡ false → limit (table_for change) ≤ target_of r → target_absent change r (schema_of s) ≡ true
  unfolding target_absent
  absent change r other l =
      ap₂ (λ (a b : Bool). not a && not b) other
      (says_false (says_lt (target_of r) (table (table_for change) (schema_of s)).count) (λ q. omega (arith, few (table_for change))))

  five : (change : Change) (r : List ℕ) → target_absent change r (schema_of s) ≡ true → change_number change r (schema_of s) ≡ refusal.no_such_row
  unfolding change_number first_of
  five change r e = rw e

  pub plain_target : (change : Change) (r : List ℕ) → read_change x ≡ change_out (Read change) r → is_addition change ≡ false
      → ¬ ((number_answer (number_read (table_for change) (target_of r))).number ≡ 0)
      → plain_change x s ≡ result_of (number_answer (number_read (table_for change) (target_of r))) s
  plain_target change r reads other = go (number_read (table_for change) (target_of r)) refl
    where
      told : limit (table_for change) ≤ target_of r → (plain_change x s).answer ≡ refused refusal.no_such_row
      told l =
          let e = five change r (absent change r other l) in
          read_answer_lem x s h change r reads ∙ answer_refused change r (schema_of s) (λ z. omega (arith, e)) ∙ ap refused e

      go : (n : Option RowId) → number_read (table_for change) (target_of r) ≡ n → ¬ ((number_answer n).number ≡ 0) → plain_change x s ≡ result_of (number_answer n) s
      go (Some id) e d = absurd (d refl)
      go None e d =
          let a = told (number_beyond (table_for change) (target_of r) e) in
          ap₂ result_of a (plain_kept x s (λ z. (let q : ◌≡◌ {A = ℕ} 5 0 = ap (λ (y : Answer). y.number) (sym a) ∙ z in omega arith)))
