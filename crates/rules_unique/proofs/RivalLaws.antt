-- Uniqueness where one row was changed or added: no two other rows clash, so some row has a rival exactly if the changed row has one.
use Rattle.std.specs.Prelude.{false, true, ◌||◌, ◌⊎◌, ◌≡◌, ℕ, ◌<◌}
use Rattle.std.proofs.Common.{inl, inr, ⊎_elim, sym}
use Rattle.prelude.specs.SaysLaws.{says_or, says_iff, says_same, says_fails, says_split}
use Rattle.prelude.specs.Below.{any_below, Some}
use Rattle.prelude.specs.BelowLaws.{says_any}
use Rattle.schema.specs.declared.number.TableId.{TableId}
use Rattle.schema.specs.declared.number.TableId.TheVariants.{Attributes, Classes}
use Rattle.schema.specs.Numbers.{same_row, SameRow}
use Rattle.schema.specs.NumbersLaws.{says_same_row}
use Rattle.schema.specs.Store.{Schema, table}
use Rattle.tables.specs.Changed.{ChangedRow}
use Rattle.tables.specs.ChangedLaws.{row_old, row_other}
use Rattle.rules_unique.specs.declared.Key.{Key}
use Rattle.rules_unique.specs.Unique.{Counting, taken, Clash, Rival}
use Rattle.rules_unique.proofs.UniqueLaws.{says_taken, clash_turned}

module _ (counts : Counting) (key : Key) {t : TableId} {k : ℕ} {m n : Schema} (h : ChangedRow t k m n)
    (calm : (u : TableId) (j : ℕ) → j < (table u m).count → ¬ (Rival counts key m u j)) where
  -- a row that has a rival: it is the changed one, or its rival is
  rival_here : (u : TableId) (j : ℕ) → j < (table u n).count → Rival counts key n u j → Rival counts key n t k
  rival_here u j l r = own (says_split (says_same_row t k u j))
    where
      turned : SameRow t k r.of r.at → Rival counts key n t k
      turned e = rw (e.0, e.1)
          (record {
            has = r.its;
            of = u;
            its = r.has;
            at = j;
            below = l;
            other = λ q. r.other (sym q.0, sym q.1);
            clash = clash_turned
                r.clash;
          })

      old : ¬ (SameRow t k u j) → ¬ (SameRow t k r.of r.at) → Rival counts key m u j
      old d e =
          let was = row_old h u j d l in
          let below = row_old h r.of r.at e r.below in
          let same : Clash counts key ((table u m).row j) ((table r.of m).row r.at) = rw
          (row_other h u j d was, row_other h r.of r.at e below) at r.clash in
          record { has = r.has; of = r.of; its = r.its; at = r.at; below = below; other = r.other; clash = same }

      its : ¬ (SameRow t k u j) → ((same_row t k r.of r.at ≡ true) × SameRow t k r.of r.at)
          ⊎ ((same_row t k r.of r.at ≡ false) × ¬ (SameRow t k r.of r.at))
          → Rival counts key n t k
      its d (inl q) = turned q.1
      its d (inr q) = absurd (calm u j (row_old h u j d l) (old d q.1))

      own : ((same_row t k u j ≡ true) × SameRow t k u j) ⊎ ((same_row t k u j ≡ false) × ¬ (SameRow t k u j)) → Rival counts key n t k
      own (inl q) = rw (q.1.0, q.1.1) r
      own (inr q) = its q.1 (says_split (says_same_row t k r.of r.at))

  some_rival : Rival counts key n t k → Some n.attributes.count (Rival counts key n Attributes) ⊎ Some n.classes.count (Rival counts key n Classes)
  some_rival r = go t h.own.here r
    where
      go : (u : TableId) → k < (table u n).count → Rival counts key n u k → Some n.attributes.count (Rival counts key n Attributes)
          ⊎ Some n.classes.count (Rival counts key n Classes)
      go Attributes l q = inl (record { at = k; below = l; is = q })
      go Classes l q = inr (record { at = k; below = l; is = q })

-- rules 13, 15, 16, 24 and 28 after a change
pub taken_here : (counts : Counting) (key : Key) {t : TableId} {k : ℕ} {m n : Schema} → ChangedRow t k m n
    → ((u : TableId) (j : ℕ) → j < (table u m).count → taken counts key m u j ≡ false)
    → (any_below n.attributes.count (taken counts key n Attributes) || any_below n.classes.count (taken counts key n Classes)) ≡ taken counts key n t k
taken_here counts key {t} {k} {m} {n} h none =
    says_same
    (says_iff (says_or (says_any n.attributes.count (λ j l. says_taken counts key n Attributes j))
    (says_any n.classes.count (λ j l. says_taken counts key n Classes j))) (
      ⊎_elim (λ s. rival_here counts key h calm Attributes s.at s.below s.is)
          (λ s. rival_here counts key h calm Classes s.at s.below s.is),
      some_rival counts key h calm,
    ))
    (says_taken counts key n t k)
  where
    calm : (u : TableId) (j : ℕ) → j < (table u m).count → ¬ (Rival counts key m u j)
    calm u j l = says_fails (says_taken counts key m u j) (none u j l)
