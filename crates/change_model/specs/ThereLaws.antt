-- What rules 17 and 18 say of numbers without a row: an entry that was added has a row, and no class that was there names the number of one that is
-- added.
use Rattle.std.proofs.Common.{arith, inl, inr, ⊎_elim, ◌∙◌, subst, sym}
use Rattle.std.proofs.Math.Decide.{dec_lt}
use Rattle.std.specs.Prelude.{◌<◌, ℕ, false, List, ◌⊎◌, ◌≡◌, refl}
use Rattle.schema.specs.declared.number.TableId.{TableId}
use Rattle.schema.specs.declared.number.TableId.TheVariants.{Attributes, Classes}
use Rattle.schema.specs.declared.number.ClassNumber.{ClassNumber}
use Rattle.schema.specs.Numbers.{class_limit}
use Rattle.schema.specs.NumbersLaws.{says_same_table}
use Rattle.schema.specs.ClassRow.{superclass_of}
use Rattle.schema.specs.Store.{Schema, Table, table, with_row}
use Rattle.change_read.specs.declared.read.Change.TheVariants.{Add, AddEntry}
use Rattle.change_read.specs.Carried.{entry_of, list_of, target_of}
use Rattle.change_read.specs.declared.read.Change.{Change}
use Rattle.change_read.specs.declared.carried.OpenList.{OpenList}
use Rattle.change_read.specs.declared.carried.OpenList.TheVariants.{Auxiliary}
use Rattle.change_asked.specs.Asked.{first_asked}
use Rattle.change_asked.specs.AskedLaws.{asked_room}
use Rattle.change_rows.specs.Lists.{list_table}
use Rattle.change_rows.specs.Rows.{number_for, schema_after, table_after}
use Rattle.prelude.specs.First.{first_of}
use Rattle.prelude.specs.FirstLaws.{zero_iff_none}
use Rattle.prelude.specs.SaysLaws.{neither, says_and, says_eq, says_fails, says_false, says_not, says_or}
use Rattle.rules.specs.declared.row.Added.{Added}
use Rattle.rules.specs.declared.row.Added.TheVariants.{Entry, Nothing}
use Rattle.rules.specs.Rules.{attribute_not_live, barred, breaks, class_not_live, entry_dead, numbered, row_cases, schema_rules}
use Rattle.rules.specs.RulesLaws.{class_nothing, each_numbered}
use Rattle.rules.specs.Judge.{AllKept, Kept}
use Rattle.rules_class.specs.Live.{NotLive, SuperclassEarly, class_wrong, not_live}
use Rattle.rules_class.specs.LiveLaws.{says_class_wrong, says_not_live}
use Rattle.rules_class.proofs.StayLaws.{named_there}
use Rattle.tables.specs.LiveLaws.{says_live}
use Rattle.tables.proofs.NamedLaws.{says_lists}
use Rattle.tables.specs.Named.{Lists}
use Rattle.tables.specs.declared.named.ClassList.TheVariants.{Auxiliaries}
use Rattle.graph.specs.Graph.{inherits}
use Rattle.change_model.specs.Sound.{row_number}
use Rattle.schema.specs.Refusals as refusal

-- ---- an entry

-- a row of which no rule tells anything breaks none, by its number
not_broken : (added : Added) (n : Schema) (t : TableId) (k : ℕ) → first_of (row_cases (schema_rules added) n t k) ≡ 0 → (number : ℕ)
    → breaks added n number t k ≡ false
not_broken added n t k z number =
    each_numbered (λ r. r.breaks n t k ≡ false) (schema_rules added) ((zero_iff_none (row_cases (schema_rules added) n t k) (omega arith)).0 z) number refl

-- it is live, so it has a row
not_dead : (a : ClassNumber) (of : TableId) (x : ℕ) (t : Table) (row : List ℕ) → entry_dead (Entry a of x) of t row a.0 ≡ false → x < t.count
unfolding entry_dead
not_dead a of x t row e = go (dec_lt x t.count)
  where
    go : Dec (x < t.count) → x < t.count
    go (yes l) = l
    go (no g) = absurd (says_fails (says_and (says_eq a.0 a.0) (says_and (says_same_table of of) (says_not (says_live t row x)))) e
        (refl, (refl, λ q. g q.0)))

entry_has_row : (a : ClassNumber) (of : TableId) (x : ℕ) (n : Schema) → first_of (row_cases (schema_rules (Entry a of x)) n Classes a.0) ≡ 0
    → x < (table of n).count
unfolding attribute_not_live class_not_live numbered
entry_has_row a Attributes x n z =
    not_dead a Attributes x n.attributes (n.classes.row a.0)
    (neither (not_live Attributes n.attributes (n.classes.row a.0)) _
    (not_broken (Entry a Attributes x) n Classes a.0 z refusal.attribute_not_live)).1
entry_has_row a Classes x n z =
    let broken = neither (class_wrong n.classes a.0) _ (not_broken (Entry a Classes x) n Classes a.0 z refusal.class_not_live) in
    not_dead a Classes x n.classes (n.classes.row a.0) (neither (barred (Entry a Classes x) n.classes a.0) _ broken.1).1

-- the tables have as many rows as before
entry_count_lem : (of : TableId) (r : List ℕ) (m : Schema) → (table of (schema_after AddEntry r m)).count ≡ (table of m).count
unfolding schema_after table_after with_row
entry_count_lem Attributes r m = refl
entry_count_lem Classes r m = refl

pub entry_there : (r : List ℕ) (m : Schema) → row_number AddEntry r m ≡ 0 → entry_of r < (table (list_table (list_of r)) m).count
unfolding number_for
entry_there r m z =
    let of = list_table (list_of r) in
    omega (arith, entry_has_row (record { 0 = target_of r }) of (entry_of r) (schema_after AddEntry r m) z, entry_count_lem of r m)

-- of the open list of auxiliary classes it is a class
pub entry_class : (r : List ℕ) (m : Schema) → row_number AddEntry r m ≡ 0 → list_of r ≡ Auxiliary → entry_of r < m.classes.count
entry_class r m z e = subst (λ (list : OpenList). entry_of r < (table (list_table list) m).count) e (entry_there r m z)

-- ---- the number of an added class

-- it is within the limit
pub class_room : (change : Change) (r : List ℕ) (m : Schema) → first_asked change r m ≡ 0 → change ≡ Add Classes → m.classes.count < class_limit
class_room change r m z e = asked_room (Add Classes) r m (subst (λ (x : Change). first_asked x r m ≡ 0) e z) refl

module _ (m : Schema) (kept : AllKept Nothing m) (room : m.classes.count < class_limit) (x : ℕ) (l : x < m.classes.count) where
  abbrev c : Table
  c = m.classes

  -- rule 18 of class x
  sound : ¬ (NotLive Classes c (c.row x) ⊎ ¬ (SuperclassEarly x (c.row x)))
  unfolding numbered
  sound = says_fails (says_class_wrong c x)
      (sym (class_nothing c x) ∙ each_numbered (Kept m) (schema_rules Nothing) kept refusal.class_not_live (λ t j q. refl) Classes x l)

  not_superclass : ¬ (superclass_of (c.row x) ≡ c.count)
  not_superclass e = sound (inr (λ early. ⊎_elim (λ q. omega (arith, q.1)) (λ q. omega arith) early))

  not_listed : ¬ (Lists Auxiliaries (c.row x) c.count)
  not_listed q =
      let live = says_false (says_not_live Classes c (c.row x)) (λ bad. sound (inl bad)) in
      omega (arith, named_there Classes c (c.row x) live c.count room (inr (inl q)))

  pub unnamed : inherits m.classes x m.classes.count ≡ false
  unfolding inherits
  unnamed = says_false (says_or (says_eq (superclass_of (c.row x)) c.count) (says_lists Auxiliaries (c.row x) c.count))
      (⊎_elim not_superclass not_listed)
