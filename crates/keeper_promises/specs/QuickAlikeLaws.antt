-- A quick change looks at the first bytes of the stores alone, on any stores, in order or not (docs/DECISIONS.md, R36).
use Rattle.std.specs.Prelude.{◌&&◌, ◌||◌, ◌≡◌, refl, ◌*◌, ◌+◌, ◌<◌, ◌≤◌, ℕ, eqb, length}
use Rattle.std.proofs.Math.Bool.{cond}
use mathlib.Core.List.{List}
use Rattle.std.proofs.Common.{◌∙◌, subst₂, arith}
use Rattle.std.proofs.Math.Path.{ap, ap₂, sym}
use Rattle.std.proofs.Math.Decide.{ℕ_discrete}
use Rattle.closure_change.proofs.KeptLaws.{after_length, joined_wide, new_length, rows_length}
use Rattle.prelude.specs.BelowLaws.{any_cong}
use Rattle.prelude.specs.Concat.{concat_below}
use Rattle.prelude.specs.ConcatLaws.{concat_same}
use Rattle.prelude.specs.Part.{Bytes, part, splice}
use Rattle.prelude.specs.SaysLaws.{says_fails}
use Rattle.prelude.specs.SpliceLaws.{part_splice_inside}
use Rattle.sets.specs.Sets.{member, union}
use Rattle.sets.specs.SetsLaws.{set_cong}
use Rattle.schema.specs.ClassRow.{fixed_auxiliary_of, open_auxiliary_of, superclass_of}
use Rattle.schema.specs.Layout.{closure_length, closure_width}
use Rattle.schema.specs.Numbers.{class_limit}
use Rattle.schema.specs.Store.{LongEnough, Schema, Stores, Table, closure_at, schema_of}
use Rattle.schema.specs.StoreLaws.{says_short}
use Rattle.schema.specs.declared.answer.Answer.{Answer}
use Rattle.schema.specs.declared.number.TableId.TheVariants.{Attributes, Classes}
use Rattle.tables.specs.Named.{lists}
use Rattle.tables.specs.Same.{Same, SameRows}
use Rattle.graph.proofs.FreshLaws.{closure_row_length}
use Rattle.graph.specs.FrontLaws.{kept_front}
use Rattle.graph.specs.Graph.{closure_row, inherits}
use Rattle.graph.proofs.SameLaws.{closure_row_same}
use Rattle.tables_shape.proofs.ShapeLaws.{says_formed}
use Rattle.change_read.specs.Carried.{entry_of, list_of, target_of}
use Rattle.change_read.specs.Reading.{read_change}
use Rattle.change_read.specs.declared.carried.OpenList.{OpenList}
use Rattle.change_read.specs.declared.carried.OpenList.TheVariants.{Auxiliary, Optional, Superior}
use Rattle.change_read.specs.declared.read.Change.{Change}
use Rattle.change_read.specs.declared.read.Change.TheVariants.{Add, AddEntry, Deactivate, Reactivate, RemoveEntry, Rename, SetRange}
use Rattle.change_read.specs.ChangeRead.{Read}
use Rattle.change_rows.specs.Rows.{number_for, schema_after}
use Rattle.change_asked.specs.Asked.{first_asked}
use Rattle.change_model.proofs.SameLaws.{after_same}
use Rattle.change_model.specs.ThereLaws.{entry_class}
use Rattle.closure_change.specs.After.{closure_after, entry_joined}
use Rattle.closure_change.specs.Kept.{each_holding, holds, joined_into, named_sets, new_row, own_row, refreshed_at, row_where, with_new}
use Rattle.keeper.specs.InShapeLaws.{not_short}
use Rattle.keeper_change.specs.Quick.{quick_change, quick_made, quick_number}
use Rattle.keeper_promises.specs.AfterLaws.{after_changed}
use Rattle.keeper_promises.specs.AlikeLaws.{same_rows}
use Rattle.keeper_promises.specs.AloneLaws.{quick_alone}
use Rattle.keeper_promises.specs.Demand3.{AlikeFor}
use Rattle.keeper_promises.specs.FrontLaws.{put_front}
use Rattle.keeper_promises.specs.PlainFrontLaws.{made_alike}
use Rattle.keeper_promises.specs.Promises.{Alike, SomeShort}
use Rattle.keeper_promises.specs.QuickFrontLaws.{Made, allowed, done_reads, made, room, row_zero}
use Rattle.keeper_promises.specs.QuickLaws.{quick_kept}

-- the row of a class replaced in a closure store, as the first bytes show it
replaced_front : (n : ℕ) (new k : List ℕ) → n < class_limit → closure_length ≤ length k → length new ≡ closure_width
    → part 0 closure_length (splice (closure_width * n) new k) ≡ splice (closure_width * n) new (part 0 closure_length k)
replaced_front n new k few p wide =
    let e : closure_width * n ≡ 0 + closure_width * n = omega arith in
    ap (λ (at : ℕ). part 0 closure_length (splice at new k)) e ∙ part_splice_inside 0 closure_length (closure_width * n) new k (omega arith) p

-- ---- two closure stores that begin alike

module _ (k l : List ℕ) (p : closure_length ≤ length k) (q : closure_length ≤ length l) (front : part 0 closure_length k ≡ part 0 closure_length l) where
  abbrev SameFront : List ℕ → List ℕ → Type 0
  SameFront a b = part 0 closure_length a ≡ part 0 closure_length b

  each_front : (n j : ℕ) (f g : ℕ → List ℕ → List ℕ) → ((c : ℕ) → c < class_limit → length (f c (closure_at k c)) ≡ closure_width)
      → ((c : ℕ) → c < class_limit → length (g c (closure_at l c)) ≡ closure_width) → ((c : ℕ) (row : List ℕ) → f c row ≡ g c row)
      → SameFront (each_holding n j f k) (each_holding n j g l)
  unfolding each_holding row_where
  each_front n j f g wide wide' same =
      put_front closure_length (concat_below class_limit (row_where n j f k)) k (rows_length k p n j f wide) p
      ∙ concat_same class_limit (row_where n j f k) (row_where n j g l) rows
      ∙ sym (put_front closure_length (concat_below class_limit (row_where n j g l)) l (rows_length l q n j g wide') q)
    where
      rows : (c : ℕ) → c < class_limit → row_where n j f k c ≡ row_where n j g l c
      rows c i =
          ap (λ (row : List ℕ). cond (holds n j c row) (f c row) row) (kept_front k l front c i)
          ∙ ap (λ (x : List ℕ). cond (holds n j c (closure_at l c)) x (closure_at l c)) (same c (closure_at l c))

  module _ {t u : Table} (s : Same t u) (n : ℕ) where
    joined_front : (j : ℕ) (more less : List ℕ) → more ≡ less → SameFront (joined_into n j more k) (joined_into n j less l)
    unfolding joined_into
    joined_front j more less e =
        each_front n j (λ c row. union row more) (λ c row. union row less) (joined_wide k p more) (joined_wide l q less)
        (λ c row. ap (union row) e)

    entry_front : (list : OpenList) (b j : ℕ) → (list ≡ Auxiliary → b < class_limit) → SameFront (entry_joined list b n j k) (entry_joined list b n j l)
    entry_front Optional b j few = joined_front j _ _ refl
    entry_front Auxiliary b j few = joined_front j _ _ (kept_front k l front b (few refl))
    entry_front Superior b j few = front

    refreshed_front : (j : ℕ) → SameFront (refreshed_at t n j k) (refreshed_at u n j l)
    unfolding refreshed_at
    refreshed_front j =
        each_front n j (λ c row. closure_row t c) (λ c row. closure_row u c) (λ c i. closure_row_length t c) (λ c i. closure_row_length u c)
        (λ c row. closure_row_same s c)

    named_front : n < t.count → named_sets t k n ≡ named_sets u l n
    unfolding named_sets inherits lists
    named_front there =
        set_cong closure_width _ _ (λ b i. any_cong class_limit _ _ (λ y w.
        ap₂ (λ (row sets : List ℕ). (eqb (superclass_of row) y || (member (fixed_auxiliary_of row) y || member (open_auxiliary_of row) y)) && member sets b)
        (s.rows n there) (kept_front k l front y w)))

    new_front : n < class_limit → n < t.count → SameFront (with_new t n k) (with_new u n l)
    unfolding with_new new_row
    new_front few there =
        replaced_front n (new_row t k n) k few p (new_length k p t n few)
        ∙ ap₂ (λ (row x : List ℕ). splice (closure_width * n) row x)
        (ap₂ union (named_front there) (ap (own_row n) (s.rows n there))) front
        ∙ sym (replaced_front n (new_row u l n) l few q (new_length l q u n few))

    closure_front : (change : Change) (r : List ℕ) → (change ≡ Add Classes → (n < class_limit) × (n < t.count))
        → (change ≡ AddEntry → list_of r ≡ Auxiliary → entry_of r < class_limit) → SameFront (closure_after change r t n k) (closure_after change r u n l)
    closure_front (Add Attributes) r room few = front
    closure_front (Add Classes) r room few = new_front (room refl).0 (room refl).1
    closure_front SetRange r room few = front
    closure_front (Rename v) r room few = front
    closure_front (Deactivate v) r room few = front
    closure_front (Reactivate v) r room few = front
    closure_front AddEntry r room few = entry_front (list_of r) (entry_of r) (target_of r) (few refl)
    closure_front RemoveEntry r room few = refreshed_front (target_of r)

-- ---- the call

-- the number of an added class lies within the table after it
added_there : (r : List ℕ) (m : Schema) → first_asked (Add Classes) r m ≡ 0 → m.classes.count < (schema_after (Add Classes) r m).classes.count
unfolding number_for
added_there r m z = (after_changed (Add Classes) r m z).own.here

module _ (x : List ℕ) (s t : Stores) (h : Alike s t) where
  -- stores that are alike are so for any change
  alike_for : AlikeFor x s t
  alike_for = record {
    lengths = (λ e. absurd (long s h.left e), λ e. absurd (long t h.right e));
    attributes = h.attributes;
    classes = h.classes;
    closure = λ c l concerned. kept_front s.closure t.closure h.closure c l;
  }
    where
      long : (a : Stores) → LongEnough a → ¬ SomeShort a
      long a l = says_fails (says_short a) (not_short a l)

  pub quick_answer_alike : (quick_change x s).answer ≡ (quick_change x t).answer
  quick_answer_alike = quick_alone x s t alike_for

  module _ (bytes : Bytes x) (change : Change) (a : Made x bytes s change) (b : Made x bytes t change) where
    abbrev r : List ℕ
    r = (read_change x).row

    rows : SameRows (schema_of s) (schema_of t)
    rows = same_rows s t h a.shape

    after : SameRows (schema_after change r (schema_of s)) (schema_after change r (schema_of t))
    after = after_same change r rows (allowed x bytes s change a).1

    few : (schema_of s).classes.count ≤ class_limit
    few = ((says_formed s.attributes s.classes h.left.attributes h.left.classes).holds a.shape.formed).classes.few

    entry : change ≡ AddEntry → list_of r ≡ Auxiliary → entry_of r < class_limit
    entry e aux =
        let z : quick_number AddEntry r (schema_of s) s.closure ≡ 0 = rw e at a.number in
        omega (arith, few, entry_class r (schema_of s) (row_zero AddEntry r (schema_of s) s.closure z) aux)

    new : change ≡ Add Classes → ((schema_of s).classes.count < class_limit) × ((schema_of s).classes.count < (schema_after change r (schema_of s)).classes.count)
    new e = (room x bytes s change a e, rw e (added_there r (schema_of s) (rw e at (allowed x bytes s change a).1)))

    long_left : (w : Stores) → LongEnough w → Made x bytes w change → closure_length
        ≤ length (closure_after change r (schema_after change r (schema_of w)).classes (schema_of w).classes.count w.closure)
    long_left w l c =
        let t = (schema_after change r (schema_of w)).classes in
        omega (arith, l.closure, after_length w.closure l.closure change r t (schema_of w).classes.count (room x bytes w change c))

    made_left : Alike (quick_made (Read change) r s) (quick_made (Read change) r t)
    made_left =
        let p = made_alike change x r bytes a.reads s t h (allowed x bytes s change a) (allowed x bytes t change b) in
        record {
          left = record { attributes = p.left.attributes; classes = p.left.classes; closure = long_left s h.left a };
          right = record { attributes = p.right.attributes; classes = p.right.classes; closure = long_left t h.right b };
          attributes = p.attributes;
          classes = p.classes;
          closure = closure_front s.closure t.closure h.left.closure h.right.closure h.closure (after Classes)
              (schema_of s).classes.count change r new entry
              ∙ ap (λ (n : ℕ). part 0 closure_length (closure_after change r (schema_after change r (schema_of t)).classes n t.closure)) (rows Classes).count;
        }

  left_alike : Bytes x → Alike (quick_change x s).left (quick_change x t).left
  left_alike bytes = go (ℕ_discrete (quick_change x s).answer.number 0)
    where
      number : (quick_change x s).answer.number ≡ (quick_change x t).answer.number
      number = ap (λ (y : Answer). y.number) quick_answer_alike

      go : Dec ((quick_change x s).answer.number ≡ 0) → Alike (quick_change x s).left (quick_change x t).left
      go (no d) = subst₂ Alike (sym (quick_kept x s d)) (sym (quick_kept x t (λ z. d (number ∙ z)))) h
      go (yes z) =
          let c = done_reads x bytes s z in
          let a = made x bytes s z c.0 c.1 in
          let b = made x bytes t (sym number ∙ z) c.0 c.1 in
          subst₂ Alike (sym a.left) (sym b.left) (made_left bytes c.0 a b)

  pub quick_alike : Bytes x → ((quick_change x s).answer ≡ (quick_change x t).answer) × Alike (quick_change x s).left (quick_change x t).left
  quick_alike bytes = (quick_answer_alike, left_alike bytes)
