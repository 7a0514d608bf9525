-- On stores in order, a quick change is the plain one: the same answer, and the same stores in every byte.
use Rattle.std.specs.Prelude.{Bool, List, ◌≡◌, refl, ◌<◌, ◌≤◌, ℕ, length, Err}
use Rattle.std.proofs.Math.Bool.{cond}
use Rattle.std.proofs.Common.{◌∙◌}
use Rattle.std.proofs.Math.Path.{ap, ap₂, sym}
use Rattle.std.proofs.Math.Decide.{ℕ_discrete}
use Rattle.prelude.specs.Part.{Bytes, splice}
use Rattle.prelude.specs.SaysLaws.{says_eq, says_true}
use Rattle.schema.specs.Layout.{row_width}
use Rattle.schema.specs.Numbers.{limit}
use Rattle.schema.specs.Store.{Schema, Stores, result_of, schema_of, stores, table, table_store}
use Rattle.schema.specs.StoreLaws.{table_row_length}
use Rattle.schema.specs.declared.answer.Answer.{Answer}
use Rattle.schema.specs.declared.number.TableId.{TableId}
use Rattle.schema.specs.declared.number.TableId.TheVariants.{Attributes, Classes}
use Rattle.graph.proofs.SameLaws.{closure_rows_same}
use Rattle.rules.proofs.MeetsLaws.{meets}
use Rattle.rules.specs.declared.row.Added.TheVariants.{Nothing}
use Rattle.change_read.specs.ChangeLaws.{Reads, change_length}
use Rattle.change_read.specs.Reading.{ChangeOut, change_out, read_change}
use Rattle.change_read.specs.declared.read.Change.{Change}
use Rattle.change_read.specs.ChangeRead.{ChangeRead}
use Rattle.change_read.specs.ChangeRead.{Bad, Read}
use Rattle.change_rows.specs.Rows.{table_for}
use Rattle.change_rows.specs.Stores.{store_after}
use Rattle.change_asked.specs.Asked.{first_asked}
use Rattle.change_model.specs.Sound.{Passed, Sound}
use Rattle.change_model.proofs.AgreeLaws.{closure_refreshed, number_agrees}
use Rattle.change_model.specs.Model.{answer_by, answer_to, change_number}
use Rattle.change_model.specs.ModelLaws.{asked_zero}
use Rattle.keeper_change.specs.DoneLaws.{closure_stays}
use Rattle.keeper_change.specs.Made.{refreshed, rows_made}
use Rattle.keeper_change.specs.MadeLaws.{made_same}
use Rattle.keeper_change.specs.Plain.{plain_change}
use Rattle.keeper_change.specs.Quick.{quick_change, quick_made, quick_number, quick_read, quick_to}
use Rattle.keeper_promises.specs.OrderLaws.{order_shape}
use Rattle.keeper_promises.specs.PlainLaws.{left_made, number_is, plain_kept, plain_bad, read_answer_lem}
use Rattle.keeper_promises.specs.Promises.{InOrder}
use Rattle.keeper_promises.specs.QuickFrontLaws.{row_zero}
use Rattle.keeper_promises.specs.QuickLaws.{quick_kept, quick_shaped, quick_bad}

-- ---- stores in order hold a schema that the laws of the model speak of

row_wide : (s : Stores) → InOrder s → (t : TableId) (k : ℕ) → k < limit t → length ((table t (schema_of s)).row k) ≡ row_width t
row_wide s h Attributes k = table_row_length Attributes s.attributes k h.long.attributes
row_wide s h Classes k = table_row_length Classes s.classes k h.long.classes

few_rows : (s : Stores) → InOrder s → (t : TableId) → (table t (schema_of s)).count ≤ limit t
few_rows s h Attributes = h.shape.attributes.few
few_rows s h Classes = h.shape.classes.few

order_sound : (s : Stores) → InOrder s → (r : List ℕ) → length r ≡ row_width Classes → Sound r (schema_of s) s.closure
order_sound s h r wide = record {
  carried = wide;
  wide = row_wide s h;
  few = few_rows s h;
  kept = (meets Nothing (schema_of s)).1 h.rules;
  long = h.long.closure;
  fresh = h.fresh;
}

-- ---- a change that was read

module _ (x : List ℕ) (s : Stores) (bytes : Bytes x) (h : InOrder s) (change : Change) (r : List ℕ) (reads : Reads x change r) where
  abbrev m : Schema
  m = schema_of s

  sound : Sound r m s.closure
  sound = order_sound s h r (change_length x change r bytes reads)

  same_number : quick_number change r m s.closure ≡ change_number change r m
  unfolding quick_number
  same_number = number_agrees change r m s.closure sound

  same_answer : (quick_change x s).answer ≡ (plain_change x s).answer
  unfolding answer_to
  same_answer =
      quick_shaped x s (order_shape s h) ∙ ap (λ (o : ChangeOut). quick_to o.answer o.row s) reads ∙ ap (answer_by change r m) same_number
      ∙ sym (read_answer_lem x s h change r reads)

  -- ---- done

  module _ (zero : (plain_change x s).answer.number ≡ 0) where
    number_zero : change_number change r m ≡ 0
    number_zero = sym (number_is x s h change r reads) ∙ zero

    asked : first_asked change r m ≡ 0
    asked = asked_zero change r m number_zero

    accepted : Passed change r m s.closure
    accepted = record { sound = sound; asked = asked; passed = row_zero change r m s.closure (same_number ∙ number_zero) }

    quick_made_lem : (quick_change x s).left ≡ quick_made (Read change) r s
    unfolding quick_change quick_read
    quick_made_lem =
        ap (λ (b : Bool). cond b (quick_made (read_change x).answer (read_change x).row s) s)
        (says_true (says_eq (quick_change x s).answer.number 0) (ap (λ (a : Answer). a.number) same_answer ∙ zero))
        ∙ ap (λ (o : ChangeOut). quick_made o.answer o.row s) reads

    -- the rows made are those after the change, and so is the closure that they give
    same_made : quick_made (Read change) r s ≡ refreshed (rows_made change r s)
    unfolding refreshed rows_made
    same_made =
        ap (stores (rows_made change r s).attributes (rows_made change r s).classes)
        (closure_refreshed change r m s.closure accepted
        ∙ ap₂ (splice 0) (sym (closure_rows_same (made_same change x r s bytes reads (order_shape s h) asked Classes)))
        (sym (closure_stays (table_for change) (store_after change r (table_store (table_for change) s)) s)))

    done_left : (quick_change x s).left ≡ (plain_change x s).left
    done_left = quick_made_lem ∙ same_made ∙ sym (left_made x s zero change r reads)

  -- ---- done or refused

  same_left : (quick_change x s).left ≡ (plain_change x s).left
  same_left = go (ℕ_discrete (plain_change x s).answer.number 0)
    where
      go : Dec ((plain_change x s).answer.number ≡ 0) → (quick_change x s).left ≡ (plain_change x s).left
      go (yes z) = done_left z
      go (no d) = quick_kept x s (λ z. d (sym (ap (λ (a : Answer). a.number) same_answer) ∙ z)) ∙ sym (plain_kept x s d)

  read_agrees : quick_change x s ≡ plain_change x s
  read_agrees = ap₂ result_of same_answer same_left

-- ---- any change: one that does not read gets the same 4

pub quick_plain : (x : List ℕ) (s : Stores) → Bytes x → InOrder s → quick_change x s ≡ plain_change x s
quick_plain x s bytes h = go (read_change x).answer refl
  where
    go : (y : ChangeRead) → (read_change x).answer ≡ y → quick_change x s ≡ plain_change x s
    go (Err bad) e = quick_bad x s h.long h.shape bad.at e ∙ sym (plain_bad x s h bad.at e)
    go (Read change) e = read_agrees x s bytes h change (read_change x).row (ap (λ (y : ChangeRead). change_out y (read_change x).row) e)
