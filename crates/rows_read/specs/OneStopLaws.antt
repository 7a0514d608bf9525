-- A value stops in one way only: in a table whose tags differ, fields are accepted one behind the other in one way, what can be accepted is not
-- unacceptable, and so the three cases of `ValueStops` exclude each other.
use Rattle.std.specs.Prelude.{true, ◌≡◌, refl, ℕ, zero, suc, ◌≤◌, ◌<◌, length}
use mathlib.Core.List.{List, [], ◌∷◌, Memᴰ}
use Rattle.std.proofs.Common.{⊎_elim, sym, ap, ap₂, ◌∙◌, arith}
use Rattle.std.proofs.Math.Decide.{dec_lt}
use Rattle.prelude.specs.BelowLaws.{last_or_less}
use Rattle.rows_format.specs.declared.column.Column.{Column}
use Rattle.rows_format.proofs.FormatsLaws.{distinct, without}
use Rattle.rows_read.specs.WriteReadLaws.{without_cons, distinct_cons}
use Rattle.rows_read.specs.Unfit.{UnfitField}
use Rattle.rows_read.specs.Stopping.{FieldCut, column_at, value_at, ColumnStands, After, AcceptedTo, Unacceptable, Needed, ValueStops}
use Rattle.rows_read.specs.Stopping.AcceptedTo.{none, more}
use Rattle.rows_read.specs.Stopping.Unacceptable.{cut, unknown, late, wrong}
use Rattle.rows_read.specs.Stopping.ValueStops.{read, missing, refused}
use Rattle.rows_read.specs.RowRead.{RowRead}
use Rattle.rows_read.specs.RowRead.{Read, Bad}

-- ---- tags that differ

without_at : (tag : ℕ) (cs : List Column) (j : ℕ) → without tag cs ≡ true → j < length cs → ¬ ((column_at cs j).tag ≡ tag)
without_at tag [] j w l = absurd (omega arith)
without_at tag (r ∷ rs) zero w l = (without_cons tag r rs w).0
without_at tag (r ∷ rs) (suc j) w l = without_at tag rs j (without_cons tag r rs w).1 (omega arith)

pub one_column : (cs : List Column) → distinct cs ≡ true → (i j : ℕ) → i < length cs → j < length cs → (column_at cs i).tag ≡ (column_at cs j).tag → i ≡ j
one_column [] d i j k l e = absurd (omega arith)
one_column (r ∷ rs) d zero zero k l e = refl
one_column (r ∷ rs) d zero (suc j) k l e = absurd (without_at r.tag rs j (distinct_cons r rs d).0 (omega arith) (sym e))
one_column (r ∷ rs) d (suc i) zero k l e = absurd (without_at r.tag rs i (distinct_cons r rs d).0 (omega arith) e)
one_column (r ∷ rs) d (suc i) (suc j) k l e = ap suc (one_column rs (distinct_cons r rs d).1 i j (omega arith) (omega arith) e)

-- ---- fields accepted one behind the other

module _ (cs : List Column) (d : distinct cs ≡ true) (s : List ℕ) (end start : ℕ) where
  same_column : {at i j stop stop' : ℕ} → ColumnStands cs s end at i stop → ColumnStands cs s end at j stop' → (i ≡ j) × (stop ≡ stop')
  same_column {i = i} {j} a b = (
    one_column cs d i j a.known b.known (sym a.stands.tagged ∙ b.stands.tagged),
    a.stands.ends ∙ sym b.stands.ends,
  )

  -- a field that can be accepted
  record Acceptable (at : ℕ) (taken : List ℕ) : Type 0 where
    column : ℕ
    stop : ℕ
    after : After taken column
    stands : ColumnStands cs s end at column stop
    fit : ¬ (UnfitField (column_at cs column) (value_at s at stop))

  not_both : {at : ℕ} {taken : List ℕ} → Acceptable at taken → ¬ (Unacceptable cs s end at taken)
  not_both a (cut (FieldCut.header l g)) = omega (arith, a.stands.stands.header)
  not_both a (cut (FieldCut.value l g)) = omega (arith, a.stands.stands.ends, a.stands.stands.within)
  not_both a (unknown f n) = n a.column a.stands.known (sym a.stands.stands.tagged ∙ f.tagged)
  not_both a (late {i = i} c m l) = omega (arith, (same_column a.stands c).0, a.after i m)
  not_both a (wrong {j = j} c u) =
      let e = same_column a.stands c in
      a.fit (rw (e.0, e.1) u)

  not_at_end : {taken : List ℕ} → ¬ (Acceptable end taken)
  not_at_end a = omega (arith, a.stands.stands.header)

  none_at_end : {taken : List ℕ} → ¬ (Unacceptable cs s end end taken)
  none_at_end (cut (FieldCut.header l g)) = omega arith
  none_at_end (cut (FieldCut.value l g)) = omega arith
  none_at_end (unknown f n) = omega (arith, f.header)
  none_at_end (late c m l) = omega (arith, c.stands.header)
  none_at_end (wrong c u) = omega (arith, c.stands.header)

  -- as many fields accepted are the same fields
  same_run : {at at' : ℕ} {taken taken' : List ℕ} → AcceptedTo cs s end start at taken → AcceptedTo cs s end start at' taken' → length taken ≡ length taken'
      → (at ≡ at') × (taken ≡ taken')
  same_run none none e = (refl, refl)
  same_run none (more b g c u) e = absurd (omega arith)
  same_run (more a f c u) none e = absurd (omega arith)
  same_run (more {j = i} {taken = t} a f c u) (more b g k w) e =
      let h = same_run a b (omega arith) in
      let q = same_column (rw h.0 at c) k in
      (q.1, ap₂ (λ (x : ℕ) (xs : List ℕ). x ∷ xs) q.0 h.1)

  -- where fewer are accepted than could be, the next one can
  record Going (n : ℕ) : Type 0 where
    at : ℕ
    taken : List ℕ
    accepted : AcceptedTo cs s end start at taken
    count : length taken ≡ n
    next : Acceptable at taken

  going : {at : ℕ} {taken : List ℕ} → AcceptedTo cs s end start at taken → (n : ℕ) → n < length taken → Going n
  going none n l = absurd (omega arith)
  going (more {at = at} {stop = stop} {j = j} {taken = taken} a f c u) n l =
      ⊎_elim (λ b. going a n b) (λ e. record {
        at = at;
        taken = taken;
        accepted = a;
        count = sym e;
        next = record { column = j; stop = stop; after = f; stands = c; fit = u };
      }) (last_or_less l)

  -- a run that cannot go on is as long as any
  longest : {at at' : ℕ} {taken taken' : List ℕ} → AcceptedTo cs s end start at taken → ¬ (Acceptable at taken) → AcceptedTo cs s end start at' taken'
      → length taken' ≤ length taken
  longest {taken = taken} {taken'} a n b = go (dec_lt (length taken) (length taken'))
    where
      stuck : Going (length taken) → ⊥
      stuck g = let e = same_run a g.accepted (sym g.count) in n (rw (e.0, e.1) g.next)

      go : Dec (length taken < length taken') → length taken' ≤ length taken
      go (no l) = omega (arith, l)
      go (yes l) = absurd (stuck (going b (length taken) l))

  same_stop : {at at' : ℕ} {taken taken' : List ℕ} → AcceptedTo cs s end start at taken → ¬ (Acceptable at taken) → AcceptedTo cs s end start at' taken'
      → ¬ (Acceptable at' taken') → (at ≡ at') × (taken ≡ taken')
  same_stop a n b m = same_run a b (omega (arith, longest a n b, longest b m a))

  -- read whole, a value is not refused
  read_only : {taken : List ℕ} → AcceptedTo cs s end start end taken → ((j : ℕ) → Needed cs j → Memᴰ j taken) → {answer : RowRead}
      → ValueStops cs s end start answer → Read ≡ answer
  read_only a h (read b g) = refl
  read_only a h (missing {j = j} b n m) = absurd (m (rw (same_stop a not_at_end b not_at_end).1 at (h j n)))
  read_only a h (refused b u) = absurd (none_at_end (rw (sym (same_stop a not_at_end b (λ x. not_both x u)).0) at u))

  pub one_stop : {answer answer' : RowRead} → ValueStops cs s end start answer → ValueStops cs s end start answer' → answer ≡ answer'
  one_stop (read a h) v = read_only a h v
  one_stop (missing a n m) (read b g) = sym (read_only b g (missing a n m))
  one_stop (missing a n m) (missing b k l) = refl
  one_stop (missing a n m) (refused b u) = ap Bad (same_stop a not_at_end b (λ x. not_both x u)).0
  one_stop (refused a u) (read b g) = sym (read_only b g (refused a u))
  one_stop (refused a u) (missing b n m) = ap Bad (same_stop a (λ x. not_both x u) b not_at_end).0
  one_stop (refused a u) (refused b w) = ap Bad (same_stop a (λ x. not_both x u) b (λ x. not_both x w)).0
