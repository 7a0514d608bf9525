-- One plain change on stores in order, refused or done: the rows that it leaves are the model's, the stores stay in order, every class that was there
-- demands what it did, and all else stays.
use Rattle.std.specs.Prelude.{Bool, false, true, List, ◌⊎◌, ◌≡◌, refl, ◌<◌, ◌≤◌, ℕ, Err}
use Rattle.std.proofs.Common.{inl, inr, ◌∙◌, sym, arith}
use Rattle.std.proofs.Math.Path.{ap, subst}
use Rattle.std.proofs.Math.Decide.{dec_lt, ℕ_discrete}
use Rattle.prelude.specs.Part.{Bytes, same_bytes, zeros}
use Rattle.prelude.specs.SaysLaws.{says_eq, says_false, says_split, says_true}
use Rattle.sets.specs.Sets.{set_of}
use Rattle.sets.specs.SetsLaws.{says_same_sets, set_cong}
use Rattle.schema.specs.Answers.{RowChanged}
use Rattle.schema.specs.Layout.{attribute_set, row_width}
use Rattle.schema.specs.Numbers.{SameRow, attribute_limit, class_limit, limit}
use Rattle.schema.specs.Store.{Schema, Stores, Table, closure_at, schema_of, table}
use Rattle.schema.specs.declared.answer.Answer.{Answer}
use Rattle.schema.specs.declared.number.TableId.{TableId}
use Rattle.schema.specs.declared.number.TableId.TheVariants.{Attributes, Classes}
use Rattle.tables.specs.Changed.{ChangedAt, ChangedRow}
use Rattle.tables.specs.ChangedLaws.{row_old, row_other, row_stays, table_or_other}
use Rattle.tables.specs.Same.{Same, SameRows}
use Rattle.tables.specs.SameLaws.{same_reflexive, same_transitive}
use Rattle.graph.proofs.FreshLaws.{kept_demand}
use Rattle.graph.specs.Graph.{closure_row, demanded_set, demands}
use Rattle.graph.proofs.SameLaws.{closure_row_same, demands_same}
use Rattle.graph.proofs.UnreachedLaws.{closure_unreached}
use Rattle.change_read.specs.Reading.{ChangeOut, read_change}
use Rattle.change_read.specs.declared.read.Change.{Change}
use Rattle.change_read.specs.ChangeRead.{ChangeRead}
use Rattle.change_read.specs.ChangeRead.{Bad, Read}
use Rattle.change_rows.specs.Rows.{number_for, schema_after, table_for}
use Rattle.change_model.specs.Conditions.{DemandDiffers}
use Rattle.change_model.specs.Model.{answer_to, change_number, rows_after}
use Rattle.change_model.specs.ModelLaws.{answer_done, asked_zero}
use Rattle.keeper_change.specs.Plain.{plain_change}
use Rattle.keeper_promises.specs.AfterLaws.{after_changed}
use Rattle.keeper_promises.specs.Demand3.{ReachesIn, ReachesNone, SameDemand, Stays, model_after}
use Rattle.keeper_promises.specs.OrderLaws.{order_fresh}
use Rattle.keeper_promises.specs.PlainFrontLaws.{plain_past}
use Rattle.keeper_promises.specs.PlainLaws.{number_is, plain_answer_lem, plain_done, plain_kept, plain_ordered, plain_rows, plain_zero}
use Rattle.keeper_promises.specs.Promises.{Accepted, InOrder, Shape}

-- ---- rows that are the same

pub rows_reflexive : (m : Schema) → SameRows m m
rows_reflexive m t = same_reflexive (table t m)

pub rows_transitive : {m n o : Schema} → SameRows m n → SameRows n o → SameRows m o
rows_transitive p q t = same_transitive (p t) (q t)

-- a row was changed or added, also by stores that hold the same rows
changed_same : {k : ℕ} {t u v : Table} → ChangedAt k t u → Same v u → ChangedAt k t v
changed_same h s = record {
  here = omega (arith, h.here, s.count);
  stays = λ j l. (let n = h.stays j l in omega (arith, s.count));
  old = λ j l d. h.old j (omega (arith, s.count)) d;
  other = λ j d l. s.rows j (let n = h.stays j l in omega (arith, s.count)) ∙ h.other j d l;
}

-- "unused rows zero"
unused_row : (u : TableId) (s : Stores) → Shape s → (k : ℕ) → (table u (schema_of s)).count ≤ k → k < limit u → (table u (schema_of s)).row k ≡ zeros (row_width u)
unused_row Attributes s f k = f.attributes.unused k
unused_row Classes s f k = f.classes.unused k

-- ---- what a class demands

-- where the rows demand the same, so do the kept sets of stores in order
same_demand : (s t : Stores) → InOrder s → InOrder t → (c : ℕ) → c < class_limit
    → ((b : ℕ) → b < attribute_limit → demands (schema_of s).classes c b ≡ demands (schema_of t).classes c b) → SameDemand c s t
unfolding demanded_set
same_demand s t p q c l e = record {
  rows = e;
  kept = kept_demand (schema_of s).classes s.closure (order_fresh s p) c l
      ∙ set_cong attribute_set (demands (schema_of s).classes c) (demands (schema_of t).classes c) e
      ∙ sym (kept_demand (schema_of t).classes t.closure (order_fresh t q) c l);
}

-- 30 does not hold: every class that was there demands what it did
demands_kept : (t u : Table) → ¬ (DemandDiffers t u) → (c : ℕ) → c < t.count → (b : ℕ) → b < attribute_limit → demands t c b ≡ demands u c b
demands_kept t u d c l = go (says_split (says_same_sets attribute_set (demands t c) (demands u c)))
  where
    Equal : Type 0
    Equal = (b : ℕ) → b < attribute_limit → demands t c b ≡ demands u c b

    test : Bool
    test = same_bytes (set_of attribute_set (demands t c)) (set_of attribute_set (demands u c))

    go : ((test ≡ true) × Equal) ⊎ ((test ≡ false) × ¬ Equal) → Equal
    go (inl e) = e.1
    go (inr e) = absurd (d (record { at = c; below = l; is = e.1 }))

-- ---- a change

-- refused, the model's rows stay
refused_stays : (read : ChangeRead) (r : List ℕ) (m : Schema) → ¬ ((answer_to read r m).number ≡ 0) → rows_after read r m ≡ m
unfolding rows_after
refused_stays (Err bad) r m d = refl
refused_stays (Read change) r m d =
    rw (says_false (says_eq (change_number change r m) 0) (λ z. d (ap (λ (a : Answer). a.number) (answer_done change r m z))))

module _ (x : List ℕ) (bytes : Bytes x) (s : Stores) (h : InOrder s) where
  abbrev m : Schema
  m = schema_of s

  abbrev left : Stores
  left = (plain_change x s).left

  abbrev Done : Type 0
  Done = (plain_change x s).answer.number ≡ 0

  decided : Dec Done
  decided = ℕ_discrete (plain_change x s).answer.number 0

  -- ---- refused

  refused_rows : ¬ Done → model_after x m ≡ m
  refused_rows d = refused_stays (read_change x).answer (read_change x).row m (λ z. d (ap (λ (a : Answer). a.number) (plain_answer_lem x s h) ∙ z))

  -- ---- done

  module _ (z : Done) where
    accepted : Accepted x m
    accepted = ((plain_zero x s).0 z).1

    abbrev change : Change
    change = accepted.change

    abbrev r : List ℕ
    r = accepted.carried

    abbrev number : ℕ
    number = number_for change r m

    zero_number : change_number change r m ≡ 0
    zero_number = sym (number_is x s h change r accepted.reads) ∙ z

    -- the rows left are those of the schema after the change
    done_rows : SameRows (schema_of left) (schema_after change r m)
    unfolding rows_after
    done_rows = subst (SameRows (schema_of left)) after (plain_rows x s bytes z)
      where
        after : model_after x m ≡ schema_after change r m
        after = ap (λ (o : ChangeOut). rows_after o.answer o.row m) accepted.reads ∙ rw (says_true (says_eq (change_number change r m) 0) zero_number)

    one_row : ChangedRow (table_for change) number m (schema_after change r m)
    one_row = after_changed change r m (asked_zero change r m zero_number)

    -- any other row stays put
    done_row : (u : TableId) (k : ℕ) → k < limit u → ¬ (SameRow (table_for change) number u k) → (table u (schema_of left)).row k ≡ (table u m).row k
    done_row u k l other = go (dec_lt k (table u m).count)
      where
        go : Dec (k < (table u m).count) → (table u (schema_of left)).row k ≡ (table u m).row k
        go (yes q) =
            let e = row_stays one_row u k q in
            (done_rows u).rows k (omega (arith, (done_rows u).count)) ∙ row_other one_row u k other q
        go (no d) =
            let e : ¬ (k < (table u (schema_of left)).count) = λ q. d (row_old one_row u k other (omega (arith, (done_rows u).count))) in
            unused_row u left (plain_ordered x s bytes z).shape k (omega arith) l ∙ sym (unused_row u s h.shape k (omega arith) l)

    -- and so do the kept sets of a class that does not reach it
    done_closure : (c : ℕ) → (table_for change ≡ Classes → ¬ (ReachesIn (schema_of left).classes c number)) → closure_row (schema_of left).classes c
        ≡ closure_row m.classes c
    done_closure c never = go (table_or_other (table_for change) Classes)
      where
        go : (table_for change ≡ Classes) ⊎ ¬ (table_for change ≡ Classes) → closure_row (schema_of left).classes c ≡ closure_row m.classes c
        go (inl e) = closure_unreached (changed_same (rw e at one_row.own) (done_rows Classes)) c (never e)
        go (inr d) = closure_row_same (done_rows Classes) c ∙ ap (λ (t : Table). closure_row t c) (one_row.rest Classes d)

  -- ---- either way

  pub step_order : InOrder left
  step_order = go decided
    where
      go : Dec Done → InOrder left
      go (yes z) = plain_ordered x s bytes z
      go (no d) = subst InOrder (sym (plain_kept x s d)) h

  pub step_rows : SameRows (schema_of left) (model_after x m)
  step_rows = go decided
    where
      go : Dec Done → SameRows (schema_of left) (model_after x m)
      go (yes z) = plain_rows x s bytes z
      go (no d) = rw (refused_rows d, plain_kept x s d) (rows_reflexive m)

  pub step_demand : (c : ℕ) → c < m.classes.count → (c < (schema_of left).classes.count) × SameDemand c s left
  step_demand c l = go decided
    where
      few : c < class_limit
      few = omega (arith, h.shape.classes.few)

      go : Dec Done → (c < (schema_of left).classes.count) × SameDemand c s left
      go (yes z) =
          let n = row_stays (one_row z) Classes c l in
          let stay = demands_kept m.classes _ (accepted z).demands c l in (
            omega (arith, (done_rows z Classes).count),
            same_demand s left h step_order c few (λ b q. stay b q ∙ sym (demands_same (done_rows z Classes) c b)),
          )
      go (no d) = rw (plain_kept x s d) (l, record { rows = λ b q. refl; kept = refl })

  pub step_stays : Stays (plain_change x s).answer s left
  step_stays = record {
    refused = plain_kept x s;
    rows = λ u k l other. rows u k l other decided;
    closure = λ c l never. closure c l never decided;
    past = plain_past x bytes s;
  }
    where
      told : (z : Done) → RowChanged (plain_change x s).answer (table_for (change z)) (number z)
      told z = plain_done x s h (accepted z)

      rows : (u : TableId) (k : ℕ) → k < limit u → ¬ (RowChanged (plain_change x s).answer u k) → Dec Done → (table u (schema_of left)).row k ≡ (table u m).row k
      rows u k l other (yes z) = done_row z u k l (λ q. other (rw (← q.0, ← q.1) (told z)))
      rows u k l other (no d) = rw (plain_kept x s d)

      closure : (c : ℕ) → c < class_limit → ReachesNone (plain_change x s).answer (schema_of left).classes c → Dec Done
          → closure_at left.closure c ≡ closure_at s.closure c
      closure c l never (yes z) =
          step_order.fresh c l ∙ done_closure z c (λ e. never (number z) (rw (← e) (told z))) ∙ sym (h.fresh c l)
      closure c l never (no d) = rw (plain_kept x s d)
