-- A change of one row, judged by that row alone: where the schema before it keeps every rule, the rules that it breaks are those that the changed row
-- breaks.
use Rattle.schema.specs.declared.number.TableId.TheVariants.{Attributes, Classes}
use Rattle.schema.specs.AttributeRow.{link_of}
use Rattle.schema.specs.StoreLaws.{plus_count, with_same, with_count}
use Rattle.tables.specs.ChangedLaws.{plus_changed, with_changed}
use Rattle.rules_attribute.proofs.LinksLaws.{says_forward}
use Rattle.change_read.specs.declared.read.Change.TheVariants.{Add, SetRange, Rename, Deactivate, Reactivate, AddEntry, RemoveEntry}
use Rattle.rules.specs.Rules.{schema_rules, row_cases}
use Rattle.change_asked.specs.AskedLaws.{asked_there, asked_none, asked_room}
use Rattle.change_model.specs.Model.{added_by}
use Rattle.std.proofs.Common.{arith, true≢false, sym, ◌∙◌}
use Rattle.std.specs.Prelude.{◌⊎◌, false, true, ◌≡◌, length, List, [], ℕ, ◌≤◌, ◌<◌, ◌%◌}
use Rattle.std.proofs.Math.Logic.{inl, inr, ⊎_elim}
use Rattle.tables.proofs.NamedLaws.{says_names}
use Rattle.rules.specs.declared.row.Added.TheVariants.{Nothing}
use Rattle.rules.specs.RowChangeLaws.{AddedAt, changed_alone}
use Rattle.change_read.specs.Carried.{target_of}
use Rattle.rules.specs.Judge.{AllKept, broken_cases}
use Rattle.change_model.specs.EditedLaws.{Deactivates, edited_fixed, edited_state}
use Rattle.change_rows.specs.Rows.{table_for, is_addition, schema_after, number_for, table_after, edited_row}
use Rattle.schema.specs.Row.{is_defunct}
use Rattle.change_model.proofs.ConditionsLaws.{needed_among}
use Rattle.change_model.specs.Conditions.{DeactivatedNeeded}
use Rattle.prelude.specs.FirstLaws.{none_among}
use Rattle.prelude.specs.SaysLaws.{says_false, says_eq, true_or_false}
use Rattle.schema.specs.Numbers.{limit}
use Rattle.change_model.specs.Conditions.{Needed}
use Rattle.change_asked.specs.Asked.{first_asked}
use Rattle.rules.specs.RowChange.{Unneeded, Fixed, RowChange}
use Rattle.schema.specs.Layout.{class_width, row_width}
use Rattle.tables.specs.Changed.{ChangedAt}
use Rattle.std.proofs.Math.Path.{refl}
use Rattle.schema.specs.Store.{Schema, Table, table, with_table, plus_row, with_row}
use Rattle.change_read.specs.declared.read.Change.{Change}
use Rattle.schema.specs.declared.number.TableId.{TableId}
use Rattle.rules_attribute.specs.Links.{is_back_link}

-- ---- number 11

-- a row that is not needed
unneeded : (m : Schema) (t : TableId) (k : ℕ) → ¬ (Needed m t k) → Unneeded m t k
unfolding is_back_link
unneeded m t k free = record {
  classes = λ j l d active. says_false (says_names t (m.classes.row j) k)
      (λ named. free (inl (record { at = j; below = l; is = record { other = d; active = λ q. true≢false (sym q ∙ active); named = named } })));
  links = λ q j l active back. says_false (says_forward (m.attributes.row j) (m.attributes.row k))
      (λ f. free (inr (
        q,
        record {
          at = j;
          below = l;
          is = record { active = λ p. true≢false (sym p ∙ active); back = (says_eq (link_of (m.attributes.row j) % 2) 1).holds back; forward = f };
        },
      )));
}

-- ---- one table replaced

replaced : (t : TableId) (k : ℕ) (u : Table) (m : Schema) → ChangedAt k (table t m) u → u.count ≤ limit t
    → (k < (table t m).count → Fixed t ((table t m).row k) (u.row k))
    → (k < (table t m).count → is_defunct (u.row k) ≡ true → (is_defunct ((table t m).row k) ≡ true) ⊎ Unneeded m t k)
    → RowChange t k m (with_table t u m)
replaced Attributes k u m c few fixed state = record { changed = record { own = c; rest = rest }; few = few; fixed = fixed; state = state }
  where
    rest : (v : TableId) → ¬ (Attributes ≡ v) → table v (with_table Attributes u m) ≡ table v m
    rest Attributes d = absurd (d refl)
    rest Classes d = refl
replaced Classes k u m c few fixed state = record { changed = record { own = c; rest = rest }; few = few; fixed = fixed; state = state }
  where
    rest : (v : TableId) → ¬ (Classes ≡ v) → table v (with_table Classes u m) ≡ table v m
    rest Attributes d = refl
    rest Classes d = absurd (d refl)

-- ---- a change that was read, of which numbers 5 to 11 say nothing

module _ (change : Change) (r : List ℕ) (m : Schema) (carried : length r ≡ class_width) (asked : first_asked change r m ≡ 0)
    (wide : (t : TableId) (k : ℕ) → k < limit t → length ((table t m).row k) ≡ row_width t) (few : (t : TableId) → (table t m).count ≤ limit t) where
  abbrev of : TableId
  of = table_for change

  abbrev old : Table
  old = table of m

  -- number 11 has passed
  still_unneeded : Deactivates change → Unneeded m of (target_of r)
  still_unneeded d = go change d (λ h. none_among (asked_none change r m asked) (needed_among change r m h))
    where
      go : (x : Change) → Deactivates x → ¬ (DeactivatedNeeded x (target_of r) m) → Unneeded m (table_for x) (target_of r)
      go (Add t) d e = absurd d
      go SetRange d e = absurd d
      go (Rename t) d e = absurd d
      go (Deactivate t) d e = unneeded m t (target_of r) e
      go (Reactivate t) d e = absurd d
      go AddEntry d e = absurd d
      go RemoveEntry d e = absurd d

  -- the target is a whole row
  pub target_wide : is_addition change ≡ false → length (old.row (target_of r)) ≡ row_width of
  target_wide e = wide of (target_of r) (omega (arith, asked_there change r m asked e, few of))

  pub row_change : RowChange of (number_for change r m) m (schema_after change r m)
  unfolding schema_after table_after number_for
  row_change = go (true_or_false (is_addition change))
    where
      go : (is_addition change ≡ true) ⊎ (is_addition change ≡ false) → RowChange of (number_for change r m) m (schema_after change r m)
      go (inl e) =
          let room = asked_room change r m asked e in
          rw e (replaced of old.count (plus_row old (edited_row change r [])) m (plus_changed old (edited_row change r []))
          (omega (arith, plus_count old (edited_row change r []))) (λ l. absurd (omega arith)) (λ l. absurd (omega arith)))
      go (inr e) =
          let k = target_of r in
          let new = edited_row change r (old.row k) in
          let there = asked_there change r m asked e in
          let is : (with_row old k new).row k ≡ new = with_same old k new k refl in
          rw e (replaced of k (with_row old k new) m (with_changed old k new there) (omega (arith, with_count old k new, few of))
          (λ l. rw is (edited_fixed change r (old.row k) e carried (target_wide e)))
          (λ l dead. ⊎_elim inl (λ d. inr (still_unneeded d)) (edited_state change r (old.row k) e carried (target_wide e) (rw is at dead))))

  -- what it adds is at that row
  pub added_at : AddedAt (added_by change r m.classes.count) of (number_for change r m)
  unfolding number_for
  added_at = go change
    where
      go : (x : Change) → AddedAt (added_by x r m.classes.count) (table_for x) (number_for x r m)
      go (Add Attributes) = tt
      go (Add Classes) = (refl, refl)
      go SetRange = tt
      go (Rename t) = tt
      go (Deactivate t) = tt
      go (Reactivate t) = tt
      go AddEntry = (refl, refl)
      go RemoveEntry = tt

  -- the judge of all rows and of the changed row alone
  pub cases_agree : AllKept Nothing m
      → broken_cases (schema_rules (added_by change r m.classes.count)) (schema_after change r m)
      ≡ row_cases (schema_rules (added_by change r m.classes.count)) (schema_after change r m) of (number_for change r m)
  cases_agree kept = changed_alone (added_by change r m.classes.count) of (number_for change r m) m (schema_after change r m) row_change added_at kept
