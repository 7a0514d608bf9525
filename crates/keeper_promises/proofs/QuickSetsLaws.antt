-- Document 01's sentences on a quick change of stores that may not be in order hold.
use Rattle.std.specs.Prelude.{length, ℕ, ◌+◌, ◌<◌, ◌≤◌, ◌≡◌, refl}
use Rattle.std.proofs.Math.Decide.{ℕ_discrete}
use Rattle.std.proofs.Common.{arith, ◌∙◌, subst, sym}
use mathlib.Core.List.{List, []}
use Rattle.std.proofs.Math.Path.{ap}
use Rattle.prelude.specs.Part.{Bytes}
use Rattle.prelude.specs.Says.{Says}
use Rattle.prelude.specs.SaysLaws.{says_and, says_false, says_lt}
use Rattle.sets.specs.Sets.{union}
use Rattle.sets.specs.SetsLaws.{says_member}
use Rattle.schema.specs.Layout.{closure_length, closure_width, store_length}
use Rattle.schema.specs.Numbers.{class_limit}
use Rattle.schema.specs.Store.{Schema, Stores, Table, closure_at, schema_of}
use Rattle.schema.specs.StoreLaws.{plus_count, table_row_length}
use Rattle.schema.specs.declared.number.TableId.TheVariants.{Attributes, Classes}
use Rattle.tables.specs.Same.{SameRows}
use Rattle.tables_shape.proofs.ShapeLaws.{says_formed}
use Rattle.graph.specs.Graph.{closure_row}
use Rattle.graph.proofs.SameLaws.{closure_row_same}
use Rattle.closure_change.specs.After.{closure_after, entry_joined}
use Rattle.closure_change.specs.Kept.{each_holding, holds, joined_into, option_row, refreshed_at, row_where, with_new}
use Rattle.closure_change.proofs.KeptLaws.{each_at, fresh_wide, joined_wide, kept_length, with_new_other, with_new_same}
use Rattle.change_read.specs.Carried.{entry_of, list_of, target_of}
use Rattle.change_read.specs.ChangeLaws.{Reads}
use Rattle.change_read.specs.Reading.{ChangeOut, read_change}
use Rattle.change_read.specs.declared.carried.OpenList.{OpenList}
use Rattle.change_read.specs.declared.read.Change.{Change}
use Rattle.change_read.specs.declared.read.Change.TheVariants.{Add, AddEntry, Deactivate, Reactivate, RemoveEntry, Rename, SetRange}
use Rattle.change_read.specs.ChangeRead.{Read}
use Rattle.change_rows.specs.Rows.{edited_row, schema_after, table_after}
use Rattle.change_asked.specs.Asked.{first_asked}
use Rattle.change_asked.specs.AskedLaws.{asked_room}
use Rattle.keeper.specs.InShape.{InShape}
use Rattle.keeper_change.specs.MadeLaws.{made_same, made_shape}
use Rattle.keeper_change.specs.Quick.{quick_change, quick_made}
use Rattle.keeper_promises.specs.KeptLaws.{Has, has_members, has_new, has_option, has_union, kept_has}
use Rattle.keeper_promises.specs.OrderLaws.{has_shape}
use Rattle.keeper_promises.specs.QuickFrontLaws.{allowed, made}
use Rattle.keeper_promises.specs.QuickLaws.{quick_kept}
use Rattle.keeper_promises.specs.QuickSets.{Afresh, ClassAdded, Done, Holds, JoinedIn, LeavesAll, QuickSets, left}
use Rattle.keeper_promises.specs.ThirtyLaws.{gives_thirty, gives_zero}
use Rattle.keeper_promises.specs.UsesGraphLaws.{row_sound}

-- ---- the classes whose kept reach holds the target

module _ (s : Stores) (shape : InShape s) (k : ℕ) where
  abbrev n : ℕ
  n = (schema_of s).classes.count

  few : n ≤ 128
  few = ((says_formed s.attributes s.classes shape.long.attributes shape.long.classes).holds shape.formed).classes.few

  abbrev at : ℕ → List ℕ
  at c = closure_at s.closure c

  says_holds : (c : ℕ) → Says (holds n k c (at c)) (Holds s k c)
  unfolding holds
  says_holds c = says_and (says_lt c n) (says_member _ k)

  module _ (f : ℕ → List ℕ → List ℕ) (wide : (c : ℕ) → c < class_limit → length (f c (at c)) ≡ closure_width) where
    each_held : (c : ℕ) → Holds s k c → closure_at (each_holding n k f s.closure) c ≡ f c (at c)
    unfolding row_where
    each_held c h = each_at s.closure shape.long.closure n k f wide c (omega (arith, few, h.0)) ∙ rw ((says_holds c).passes h)

    each_other : (c : ℕ) → c < 128 → ¬ (Holds s k c) → closure_at (each_holding n k f s.closure) c ≡ at c
    unfolding row_where
    each_other c l d = each_at s.closure shape.long.closure n k f wide c l ∙ rw (says_false (says_holds c) d)

  module _ (t : Stores) where
    joined_in : {R M O : ℕ → Type 0} (more : List ℕ) → t.closure ≡ joined_into n k more s.closure → Has more R M O → JoinedIn s t k R M O
    unfolding joined_into
    joined_in more e has =
        let long = shape.long.closure in
        record {
          joined = λ c h. kept_has t.closure (union (at c) more) c
              (ap (λ (v : List ℕ). closure_at v c) e ∙ each_held (λ c row. union row more) (joined_wide s.closure long more) c h)
              (has_union (at c) more (kept_length s.closure long c (omega (arith, few, h.0))) (has_members (at c)) has);
          others = λ c l d.
              ap (λ (v : List ℕ). closure_at v c) e ∙ each_other (λ c row. union row more) (joined_wide s.closure long more) c l d;
        }

    afresh : (u : Table) → t.closure ≡ refreshed_at u n k s.closure → ((c : ℕ) → closure_row u c ≡ closure_row (schema_of t).classes c) → Afresh s t k
    unfolding refreshed_at
    afresh u e same =
        let wide = fresh_wide s.closure shape.long.closure u in
        record {
          fresh = λ c h. row_sound (schema_of t).classes t.closure c
              (ap (λ (v : List ℕ). closure_at v c) e ∙ each_held (λ c row. closure_row u c) wide c h ∙ same c);
          others = λ c l d. ap (λ (v : List ℕ). closure_at v c) e ∙ each_other (λ c row. closure_row u c) wide c l d;
        }

-- ---- a change that was read and done

module _ (x : List ℕ) (bytes : Bytes x) (s : Stores) (change : Change) (r : List ℕ) (reads : Reads x change r) (z : Done x s) where
  abbrev m : Schema
  m = schema_of s

  told : (read_change x).answer ≡ Read change
  told = ap (λ (o : ChangeOut). o.answer) reads

  carried : (read_change x).row ≡ r
  carried = ap (λ (o : ChangeOut). o.row) reads

  shape : InShape s
  shape = (made x bytes s z change told).shape

  asked : first_asked change r m ≡ 0
  asked = subst (λ (row : List ℕ). first_asked change row m ≡ 0) carried (allowed x bytes s change (made x bytes s z change told)).1

  left_is : left x s ≡ quick_made (Read change) r s
  left_is = (made x bytes s z change told).left ∙ ap (λ (row : List ℕ). quick_made (Read change) row s) carried

  abbrev after : Table
  after = (schema_after change r m).classes

  closure_is : (left x s).closure ≡ closure_after change r after m.classes.count s.closure
  closure_is = ap (λ (t : Stores). t.closure) left_is

  -- the rows are those after the change, and as wide as rows are
  rows_same : SameRows (schema_of (left x s)) (schema_after change r m)
  rows_same = subst (λ (t : Stores). SameRows (schema_of t) (schema_after change r m)) (sym left_is) (made_same change x r s bytes reads shape asked)

  left_long : store_length Classes ≤ length (left x s).classes
  left_long = subst (λ (t : Stores). store_length Classes ≤ length t.classes) (sym left_is)
      (made_shape change x r s bytes reads shape asked).long.classes

  closure_same : (c : ℕ) → closure_row after c ≡ closure_row (schema_of (left x s)).classes c
  closure_same c = sym (closure_row_same (rows_same Classes) c)

-- ---- an added class

class_added : (x : List ℕ) (bytes : Bytes x) (s : Stores) (r : List ℕ) → Reads x (Add Classes) r → Done x s
    → ClassAdded s (left x s) (schema_of s).classes.count ((schema_of (left x s)).classes.row (schema_of s).classes.count)
class_added x bytes s r reads z = subst (ClassAdded s (left x s) n) row_is (record {
  added = kept_has (left x s).closure _ n (ap (λ (v : List ℕ). closure_at v n) stored ∙ with_new_same s.closure long u n room)
      (has_new u n s.closure (ap length row_is ∙ table_row_length Classes (left x s).classes n (left_long x bytes s (Add Classes) r reads z) room));
  others = λ c l d. ap (λ (v : List ℕ). closure_at v c) stored ∙ with_new_other s.closure long u n room c d;
})
  where
    n : ℕ
    n = (schema_of s).classes.count

    u : Table
    u = (schema_after (Add Classes) r (schema_of s)).classes

    long : closure_length ≤ length s.closure
    long = (shape x bytes s (Add Classes) r reads z).long.closure

    stored : (left x s).closure ≡ with_new u n s.closure
    stored = closure_is x bytes s (Add Classes) r reads z

    room : n < class_limit
    room = asked_room (Add Classes) r (schema_of s) (asked x bytes s (Add Classes) r reads z) refl

    more : u.count ≡ n + 1
    more = unfold schema_after table_after in omega (arith, plus_count (schema_of s).classes (edited_row (Add Classes) r []))

    row_is : u.row n ≡ (schema_of (left x s)).classes.row n
    row_is =
        let same = rows_same x bytes s (Add Classes) r reads z Classes in
        sym (same.rows n (omega (arith, more, same.count)))

-- ---- all of it

kept_all : (change : Change) (r : List ℕ) (t : Table) (n : ℕ) (closure : List ℕ) → LeavesAll change r → closure_after change r t n closure ≡ closure
kept_all (Add Attributes) r t n closure h = refl
kept_all (Add Classes) r t n closure h = absurd h
kept_all SetRange r t n closure h = refl
kept_all (Rename u) r t n closure h = refl
kept_all (Deactivate u) r t n closure h = refl
kept_all (Reactivate u) r t n closure h = refl
kept_all AddEntry r t n closure h = ap (λ (list : OpenList). entry_joined list (entry_of r) n (target_of r) closure) h
kept_all RemoveEntry r t n closure h = absurd h

pub quick_sets : (x : List ℕ) (s : Stores) → Bytes x → QuickSets x s
quick_sets x s bytes = record {
  auxiliary = λ r reads list z. joined_in s (shape x bytes s AddEntry r reads z) (target_of r) (left x s) (closure_at s.closure (entry_of r))
      (entered r reads list z) (has_members (closure_at s.closure (entry_of r)));
  optional = λ r reads list z. joined_in s (shape x bytes s AddEntry r reads z) (target_of r) (left x s) (option_row (entry_of r)) (entered r reads list z)
      (has_option (entry_of r));
  removal = λ r reads z. afresh s (shape x bytes s RemoveEntry r reads z) (target_of r) (left x s) _ (closure_is x bytes s RemoveEntry r reads z)
      (closure_same x bytes s RemoveEntry r reads z);
  class = class_added x bytes s;
  other = λ change r reads leaves. other change r reads leaves (ℕ_discrete (quick_change x s).answer.number 0);
  thirty = λ change r reads long formed. gives_thirty x s change r reads (has_shape s long formed);
  zero = λ change r reads long formed. gives_zero x s change r reads (has_shape s long formed);
}
  where
    entered : {list : OpenList} (r : List ℕ) (reads : Reads x AddEntry r) → list_of r ≡ list → (z : Done x s)
        → (left x s).closure ≡ entry_joined list (entry_of r) (schema_of s).classes.count (target_of r) s.closure
    entered r reads e z = closure_is x bytes s AddEntry r reads z
        ∙ ap (λ (list : OpenList). entry_joined list (entry_of r) (schema_of s).classes.count (target_of r) s.closure) e

    other : (change : Change) (r : List ℕ) → Reads x change r → LeavesAll change r → Dec (Done x s) → (left x s).closure ≡ s.closure
    other change r reads leaves (yes z) = closure_is x bytes s change r reads z ∙ kept_all change r _ _ s.closure leaves
    other change r reads leaves (no d) = ap (λ (t : Stores). t.closure) (quick_kept x s d)
