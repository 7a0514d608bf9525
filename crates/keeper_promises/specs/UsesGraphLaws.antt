-- The kept sets of stores in order are exactly what document 01 says of a class: what it reaches, demands and allows, by the sets of the rows.
use Rattle.std.specs.Prelude.{Bool, List, ◌⊎◌, ◌↔◌, ◌≡◌, refl, ℕ, ◌*◌, ◌<◌}
use Rattle.std.proofs.Common.{inl, inr, sym, ap, subst, ◌∙◌}
use Rattle.prelude.specs.Part.{part}
use Rattle.prelude.specs.Says.{Says}
use Rattle.prelude.specs.SaysLaws.{says_eq, says_iff, says_or}
use Rattle.sets.specs.Sets.{bit, set_of}
use Rattle.sets.specs.SetsLaws.{member_within, says_member}
use Rattle.schema.specs.ClassRow.{fixed_optional_of, mandatory_of, open_optional_of, superclass_of}
use Rattle.schema.specs.Layout.{allowed_at, attribute_set, class_set, demanded_at, reached_at}
use Rattle.schema.specs.Store.{Stores, Table, allowed_in, closure_at, demanded_in, reached_in, schema_of}
use Rattle.tables.proofs.NamedLaws.{says_lists}
use Rattle.tables.specs.declared.named.ClassList.TheVariants.{Auxiliaries}
use Rattle.graph.proofs.FreshLaws.{allowed_part, demanded_part, reached_part}
use Rattle.graph.specs.Graph.{Collects, Edge, Reaches, allows, closure_row, demands, inherits, lists_mandatory, lists_optional, reaches}
use Rattle.graph.specs.GraphLaws.{says_collects, says_reaches}
use Rattle.graph.specs.Walk.{Reach, here, step}
use Rattle.keeper_promises.specs.Promises.{Fresh}
use Rattle.keeper_promises.specs.Uses.{Demanded, Inherits, KeptAre, KeptSound, Reached, Allowed, itself, by_superclass, by_fixed, by_open}

-- ---- the graph's relations, by the sets of the rows

module _ (t : Table) where
  -- a class names another as superclass or auxiliary
  pub says_inherits : (c y : ℕ) → Says (inherits t c y) (Inherits (t.row c) y)
  unfolding inherits
  says_inherits c y = says_or (says_eq (superclass_of (t.row c)) y) (says_lists Auxiliaries (t.row c) y)

  joined : (c y x : ℕ) → c < t.count → Inherits (t.row c) y → Reached t y x → Reached t c x
  joined c y x l (inl e) r = by_superclass l (subst (λ (n : ℕ). Reached t n x) (sym e) r)
  joined c y x l (inr (inl e)) r = by_fixed l e r
  joined c y x l (inr (inr e)) r = by_open l e r

  walk_reached : {c x : ℕ} → c < t.count → Reach (Edge t.count (inherits t)) c x → Reached t c x
  walk_reached l here = itself l
  walk_reached {c} {x} l (step {y = y} r w) = joined c y x l ((says_inherits c y).holds r.named) (walk_reached r.target w)

  edge : (c y : ℕ) → c < t.count → y < t.count → Inherits (t.row c) y → Edge t.count (inherits t) c y
  edge c y l k h = record { source = l; target = k; named = (says_inherits c y).passes h }

  reached_walk : {c x : ℕ} → Reached t c x → Reaches t.count (inherits t) c x
  reached_walk (itself l) = record { present = l; walk = here }
  reached_walk {c} (by_superclass l r) =
      let q = reached_walk r in
      record { present = l; walk = step (edge c (superclass_of (t.row c)) l q.present (inl refl)) q.walk }
  reached_walk {c} (by_fixed {a = a} l e r) =
      let q = reached_walk r in
      record { present = l; walk = step (edge c a l q.present (inr (inl e))) q.walk }
  reached_walk {c} (by_open {a = a} l e r) =
      let q = reached_walk r in
      record { present = l; walk = step (edge c a l q.present (inr (inr e))) q.walk }

  says_reached : (c x : ℕ) → Says (reaches t c x) (Reached t c x)
  says_reached c x = says_iff (says_reaches t.count (inherits t) c x) (λ r. walk_reached r.present r.walk, reached_walk)

  pub says_demanded : (c b : ℕ) → Says (demands t c b) (Demanded t c b)
  unfolding lists_mandatory
  says_demanded c b = says_iff (says_collects t.count (inherits t) (lists_mandatory t) c b) (to, from)
    where
      to : Collects t.count (inherits t) (lists_mandatory t) c b → Demanded t c b
      to d = record {
        class = d.brought.class;
        reached = walk_reached d.present d.brought.walk;
        listed = (says_member (mandatory_of (t.row d.brought.class)) b).holds d.brought.lists;
      }

      from : Demanded t c b → Collects t.count (inherits t) (lists_mandatory t) c b
      from d =
          let q = reached_walk d.reached in
          record {
            present = q.present;
            brought =
                record { class = d.class; walk = q.walk; lists = (says_member (mandatory_of (t.row d.class)) b).passes d.listed };
          }

  says_listed : (x b : ℕ) → Says (lists_optional t x b) ((bit (fixed_optional_of (t.row x)) b ≡ 1) ⊎ (bit (open_optional_of (t.row x)) b ≡ 1))
  unfolding lists_optional
  says_listed x b = says_or (says_member (fixed_optional_of (t.row x)) b) (says_member (open_optional_of (t.row x)) b)

  says_allowed : (c b : ℕ) → Says (allows t c b) (Allowed t c b)
  says_allowed c b = says_iff (says_collects t.count (inherits t) (lists_optional t) c b) (to, from)
    where
      to : Collects t.count (inherits t) (lists_optional t) c b → Allowed t c b
      to d = record {
        class = d.brought.class;
        reached = walk_reached d.present d.brought.walk;
        listed = (says_listed d.brought.class b).holds d.brought.lists;
      }

      from : Allowed t c b → Collects t.count (inherits t) (lists_optional t) c b
      from d =
          let q = reached_walk d.reached in
          record { present = q.present; brought = record { class = d.class; walk = q.walk; lists = (says_listed d.class b).passes d.listed } }

-- ---- and as they stand in the closure store

-- a set whose members pass a test, of a statement that the test says
in_set : {P : Type 0} (v : List ℕ) (n : ℕ) (f : ℕ → Bool) (x : ℕ) → v ≡ set_of n f → x < n * 8 → Says (f x) P → (bit v x ≡ 1) ↔ P
in_set v n f x e l says = (
  λ q. says.holds (sym (member_within n f x l) ∙ (says_member (set_of n f) x).passes (sym (ap (λ (w : List ℕ). bit w x) e) ∙ q)),
  λ p. ap (λ (w : List ℕ). bit w x) e ∙ (says_member (set_of n f) x).holds (member_within n f x l ∙ says.passes p),
)

-- the kept sets of a class that are afresh
pub row_sound : (t : Table) (closure : List ℕ) (c : ℕ) → closure_at closure c ≡ closure_row t c → KeptAre closure c (Reached t c) (Demanded t c) (Allowed t c)
row_sound t closure c e = record {
  reached = λ x k. in_set (reached_in closure c) class_set (reaches t c) x (ap (part reached_at class_set) e ∙ reached_part t c) k (says_reached t c x);
  demanded = λ b k. in_set (demanded_in closure c) attribute_set (demands t c) b (ap (part demanded_at attribute_set) e ∙ demanded_part t c) k
      (says_demanded t c b);
  allowed = λ b k. in_set (allowed_in closure c) attribute_set (allows t c) b (ap (part allowed_at attribute_set) e ∙ allowed_part t c) k (says_allowed t c b);
}

pub kept_sound : (s : Stores) → Fresh s → (c : ℕ) → c < 128 → KeptSound s c
kept_sound s fresh c l = row_sound (schema_of s).classes s.closure c (fresh c l)
