-- Rules judged for the changed row alone, and for all rows: the two agree where no row broke a rule before. The law is an equation of lists of
-- cases, so that the number found is the same.
use Rattle.std.specs.Prelude.{Bool, true, false, ◌&&◌, ◌||◌, not, List, ◌⊎◌, ◌≡◌, ℕ, ◌<◌}
use Rattle.std.proofs.Common.{true≢false, inl, inr, ⊎_elim, ◌∙◌, arith}
use Rattle.std.proofs.Math.Path.{refl, sym, ap, ap₂}
use Rattle.std.proofs.Math.Dec.{eqb}
use Rattle.prelude.specs.SaysLaws.{says_eq, says_false, true_or_false, neither}
use Rattle.prelude.specs.Below.{any_below}
use Rattle.prelude.specs.BelowLaws.{any_one, any_false}
use Rattle.sets.specs.SetsLaws.{or-false}
use Rattle.schema.specs.declared.number.TableId.{TableId}
use Rattle.schema.specs.declared.number.TableId.TheVariants.{Attributes, Classes}
use Rattle.schema.specs.Numbers.{SameRow, same_table}
use Rattle.schema.specs.NumbersLaws.{apart}
use Rattle.schema.specs.Row.{is_defunct}
use Rattle.schema.specs.ClassRow.{naming_of}
use Rattle.schema.specs.Store.{Table, Schema, table}
use Rattle.tables.specs.ChangedLaws.{row_old, row_other, table_or_other}
use Rattle.tables.specs.Named.{names}
use Rattle.tables.proofs.NamedLaws.{says_names}
use Rattle.tables.specs.declared.named.ClassList.{ClassList}
use Rattle.tables.specs.declared.named.ClassList.TheVariants.{Auxiliaries, Superiors}
use Rattle.tables.specs.Live.{live}
use Rattle.rules_names.specs.Name.{name_invalid, identifier_invalid}
use Rattle.rules_unique.specs.declared.Key.TheVariants.{Name, Identifier, Guid, Mapi, Link}
use Rattle.rules_unique.specs.Unique.{every_row}
use Rattle.rules_unique.proofs.RivalLaws.{taken_here}
use Rattle.rules_attribute.specs.Range.{range_wrong}
use Rattle.rules_attribute.specs.Syntax.{syntax_wrong, object_class_wrong}
use Rattle.rules_attribute.specs.Links.{is_back_link, is_forward_of, forward_missing, link_syntax_wrong}
use Rattle.rules_attribute.proofs.LinksLaws.{forward_stays, no_back_link}
use Rattle.rules_class.specs.Live.{not_live, class_wrong, naming_wrong, lists_itself, superclass_late}
use Rattle.rules_class.specs.Category.{category_wrong, answer_number, inheritance_wrong}
use Rattle.rules_class.proofs.StayLaws.{named_there, not_live_stays, naming_stays, category_stays, inheritance_stays}
use Rattle.rules.specs.declared.row.Added.{Added}
use Rattle.rules.specs.declared.row.Added.TheVariants.{Nothing, Class, Entry}
use Rattle.rules.specs.Rules.{of_rows, of_attributes, of_classes, barred, entry_dead, attribute_not_live}
use Rattle.rules.specs.Rules.{class_not_live, inheritance_rule, schema_rules, numbered, row_cases, Each, ◌&◌}
use Rattle.rules.specs.RulesLaws.{each_numbered, cases_agree, attribute_nothing, class_nothing}
use Rattle.rules.specs.Judge.{broken, broken_cases, Kept, AllKept}
use Rattle.rules.specs.RowChange.{RowChange}
use Rattle.schema.specs.Refusals as refusal

-- a row that is not active is defunct
not_active : (b : Bool) → (b ≡ false → ⊥) → b ≡ true
not_active true n = refl
not_active false n = absurd (n refl)

-- the class that was added, or whose list got an entry, is the changed row
abbrev pub AddedAt : Added → TableId → ℕ → Type 0
AddedAt Nothing t k = Unit {0}
AddedAt (Class a) t k = SameRow t k Classes a.0
AddedAt (Entry a of n) t k = SameRow t k Classes a.0

-- so it binds no other class
unbarred : (added : Added) (t : TableId) (k : ℕ) → AddedAt added t k → (c : Table) (j : ℕ) → ¬ (SameRow t k Classes j) → barred added c j ≡ false
unfolding barred
unbarred Nothing t k at c j d = refl
unbarred (Class a) t k at c j d = ap (λ (q : Bool). q && lists_itself c j) (says_false (says_eq a.0 j) (λ q. d (at.0, at.1 ∙ q)))
unbarred (Entry a of n) t k at c j d = refl

no_entry : (added : Added) (t : TableId) (k : ℕ) → AddedAt added t k → (u : TableId) (x : Table) (row : List ℕ) (j : ℕ) → ¬ (SameRow t k Classes j)
    → entry_dead added u x row j ≡ false
unfolding entry_dead
no_entry Nothing t k at u x row j d = refl
no_entry (Class a) t k at u x row j d = refl
no_entry (Entry a of n) t k at u x row j d =
    ap (λ (q : Bool). q && (same_table of u && not (live x row n))) (says_false (says_eq a.0 j) (λ q. d (at.0, at.1 ∙ q)))

module _ (k : ℕ) (m n : Schema) where
  -- no row but the changed one breaks a rule
  abbrev Stays : TableId → (Schema → TableId → ℕ → Bool) → Type 0
  Stays t breaks = (u : TableId) (j : ℕ) → j < (table u n).count → ¬ (SameRow t k u j) → breaks n u j ≡ false

  -- then some row breaks it exactly if the changed one does
  stays_alone : (t : TableId) → k < (table t n).count → (breaks : Schema → TableId → ℕ → Bool) → Stays t breaks
      → (any_below n.attributes.count (breaks n Attributes) || any_below n.classes.count (breaks n Classes)) ≡ breaks n t k
  stays_alone Attributes here breaks h =
      ap₂ (λ (p q : Bool). p || q) (any_one n.attributes.count k (breaks n Attributes) here (λ j l d. h Attributes j l (λ q. d (sym q.1))))
      (any_false (breaks n Classes) n.classes.count (λ j l. h Classes j l (λ q. apart q.0)))
      ∙ or-false (breaks n Attributes k) false refl
  stays_alone Classes here breaks h =
      ap₂ (λ (p q : Bool). p || q) (any_false (breaks n Attributes) n.attributes.count (λ j l. h Attributes j l (λ q. apart (sym q.0))))
      (any_one n.classes.count k (breaks n Classes) here (λ j l d. h Classes j l (λ q. d (sym q.1))))

  module _ (kept : AllKept Nothing m) where
    -- what no row broke before, by its number
    was : (number : ℕ) → Kept m (numbered (schema_rules Nothing) number)
    was number = each_numbered (Kept m) (schema_rules Nothing) kept number (λ t j l. refl)

    attribute_was : (j : ℕ) → j < m.classes.count → not_live Attributes m.attributes (m.classes.row j) ≡ false
    unfolding numbered
    attribute_was j l = sym (attribute_nothing m j) ∙ was refusal.attribute_not_live Classes j l

    class_was : (j : ℕ) → j < m.classes.count → class_wrong m.classes j ≡ false
    unfolding numbered
    class_was j l = sym (class_nothing m.classes j) ∙ was refusal.class_not_live Classes j l

    module _ (t : TableId) (h : RowChange t k m n) where
      -- the other rows are as they were
      old : (u : TableId) (j : ℕ) → j < (table u n).count → ¬ (SameRow t k u j) → j < (table u m).count
      old u j l d = row_old h.changed u j d l

      same : (u : TableId) (j : ℕ) → j < (table u n).count → ¬ (SameRow t k u j) → (table u n).row j ≡ (table u m).row j
      same u j l d = row_other h.changed u j d (old u j l d)

      rows_stay : (f : List ℕ → Bool) → Kept m (record { number = 0; breaks = of_rows f }) → Stays t (of_rows f)
      rows_stay f e u j l d = ap f (same u j l d) ∙ e u j (old u j l d)

      attribute_rows_stay : (f : List ℕ → Bool) → ((j : ℕ) → j < m.attributes.count → f (m.attributes.row j) ≡ false)
          → Stays t (of_attributes (λ a j. f (a.row j)))
      attribute_rows_stay f e Attributes j l d = ap f (same Attributes j l d) ∙ e j (old Attributes j l d)
      attribute_rows_stay f e Classes j l d = refl

      -- rules 17 and 18: a class that names the changed row, which has become defunct, is defunct
      live_stays : (of : TableId) (j : ℕ) → j < n.classes.count → ¬ (SameRow t k Classes j) → not_live of (table of m) (m.classes.row j) ≡ false
          → not_live of (table of n) (n.classes.row j) ≡ false
      live_stays of j l d e = rw (same Classes j l d) (⊎_elim here (λ q. rw (h.changed.rest of q) e) (table_or_other t of))
        where
          state : (u : TableId) → t ≡ u → not_live u (table u m) (m.classes.row j) ≡ false → names u (m.classes.row j) k ≡ true
              → is_defunct ((table u n).row k) ≡ true
              → (is_defunct ((table u m).row k) ≡ true) ⊎ (is_defunct (m.classes.row j) ≡ true)
          state u q e named dead =
              let there : k < (table u m).count =
              named_there u (table u m) (m.classes.row j) e k (rw (← q) (omega (arith, h.changed.own.here, h.few)))
              ((says_names u (m.classes.row j) k).holds named) in
              rw (← q) (⊎_elim inl (λ un. inr (not_active (is_defunct (m.classes.row j))
              (λ active. true≢false (sym (rw (← q) at named) ∙ un.classes j (old Classes j l d) d active))))
              (h.state (rw (← q) at there) (rw (← q) at dead)))

          here : t ≡ of → not_live of (table of n) (m.classes.row j) ≡ false
          here q = not_live_stays (rw (← q) h.changed.own) of (m.classes.row j) (state of q e) e

      attributes_live : (added : Added) → AddedAt added t k → Stays t (of_classes (attribute_not_live added))
      unfolding attribute_not_live
      attributes_live added at Attributes j l d = refl
      attributes_live added at Classes j l d =
          ap₂ (λ (x y : Bool). x || y) (live_stays Attributes j l d (attribute_was j (old Classes j l d)))
          (no_entry added t k at Attributes n.attributes (n.classes.row j) j d)

      class_stays : (j : ℕ) → j < n.classes.count → ¬ (SameRow t k Classes j) → class_wrong n.classes j ≡ false
      unfolding class_wrong
      class_stays j l d =
          let p = neither (not_live Classes m.classes (m.classes.row j)) (superclass_late j (m.classes.row j)) (class_was j (old Classes j l d)) in
          ap₂ (λ (x y : Bool). x || y) (live_stays Classes j l d p.0) (ap (superclass_late j) (same Classes j l d) ∙ p.1)

      classes_live : (added : Added) → AddedAt added t k → Stays t (of_classes (λ x j. class_not_live added x.classes j))
      unfolding class_not_live
      classes_live added at Attributes j l d = refl
      classes_live added at Classes j l d =
          ap₂ (λ (x y : Bool). x || y) (class_stays j l d)
          (ap₂ (λ (x y : Bool). x || y) (unbarred added t k at n.classes j d) (no_entry added t k at Classes n.classes (n.classes.row j) j d))

    -- ---- rules that look at more than one row of a table: by the table that was changed

    -- of classes only, by the classes' table
    classes_stay : (f : Table → ℕ → Bool) → ((j : ℕ) → j < m.classes.count → f m.classes j ≡ false) → (t : TableId) (h : RowChange t k m n)
        → (t ≡ Classes → (j : ℕ) → j < n.classes.count → ¬ (j ≡ k) → f n.classes j ≡ false) → Stays t (of_classes (λ x. f x.classes))
    classes_stay f e t h g Attributes j l d = refl
    classes_stay f e Attributes h g Classes j l d = let q = h.changed.rest Classes apart in rw q (e j (rw q at l))
    classes_stay f e Classes h g Classes j l d = g refl j l (λ q. d (refl, sym q))

    category_kept : (kind : ClassList) → ((j : ℕ) → j < m.classes.count → category_wrong kind m.classes (m.classes.row j) ≡ false)
        → (t : TableId) (h : RowChange t k m n)
        → t ≡ Classes → (j : ℕ) → j < n.classes.count → ¬ (j ≡ k) → category_wrong kind n.classes (n.classes.row j) ≡ false
    category_kept kind e Attributes h q j l d = absurd (apart q)
    category_kept kind e Classes h q j l d =
        let was = h.changed.own.old j l d in
        category_stays h.changed.own j was d (class_was j was) h.fixed kind (e j was)

    inheritance_kept : (number : ℕ) → ((j : ℕ) → j < m.classes.count → inheritance_wrong number m.classes j ≡ false) → (t : TableId)
        (h : RowChange t k m n) → t ≡ Classes → (j : ℕ) → j < n.classes.count → ¬ (j ≡ k) → inheritance_wrong number n.classes j ≡ false
    unfolding inheritance_wrong
    inheritance_kept number e Attributes h q j l d = absurd (apart q)
    inheritance_kept number e Classes h q j l d =
        let before = h.changed.own.old j l d in
        ap (λ x. eqb (answer_number x) number)
        (inheritance_stays h.changed.own j before d (class_was j before) h.fixed)
        ∙ e j before

    -- rule 23
    naming_kept : (t : TableId) (h : RowChange t k m n) → Stays t (of_classes (λ x j. naming_wrong x.attributes (naming_of (x.classes.row j))))
    unfolding numbered
    naming_kept t h Attributes j l d = refl
    naming_kept Attributes h Classes j l d =
        let before = old Attributes h Classes j l d in
        let live = attribute_was j before in
        rw (same Attributes h Classes j l d)
        (naming_stays h.changed.own (λ there. ((h.fixed there).0, (h.fixed there).1)) (naming_of (m.classes.row j))
        (λ i e q. named_there Attributes m.attributes (m.classes.row j) live i (omega (arith, h.few)) (inr (inr (inr e))))
        (was refusal.naming_unfit Classes j before))
    naming_kept Classes h Classes j l d =
        rw (h.changed.rest Attributes (λ q. apart (sym q)), same Classes h Classes j l d) (was refusal.naming_unfit Classes j (old Classes h Classes j l d))

    -- rule 29: a back link whose forward link has become defunct is defunct
    forward_kept : (t : TableId) (h : RowChange t k m n) → Stays t (of_attributes (λ a j. forward_missing a (a.row j)))
    unfolding numbered
    forward_kept t h Classes j l d = refl
    forward_kept Classes h Attributes j l d = let q = h.changed.rest Attributes (λ q. apart (sym q)) in rw q
        (was refusal.link_alone Attributes j (rw q at l))
    forward_kept Attributes h Attributes j l d = rw (same Attributes h Attributes j l d) (go (true_or_false (is_back_link (m.attributes.row j))))
      where
        before : j < m.attributes.count
        before = old Attributes h Attributes j l d

        state : is_back_link (m.attributes.row j) ≡ true → k < m.attributes.count → is_forward_of (m.attributes.row j) (m.attributes.row k) ≡ true
            → is_defunct (n.attributes.row k) ≡ true → (is_defunct (m.attributes.row k) ≡ true) ⊎ (is_defunct (m.attributes.row j) ≡ true)
        state back there forward dead =
            ⊎_elim inl (λ un. inr
            (not_active (is_defunct (m.attributes.row j)) (λ active. true≢false (sym forward ∙ un.links refl j before active back))))
            (h.state there dead)

        go : (is_back_link (m.attributes.row j) ≡ true) ⊎ (is_back_link (m.attributes.row j) ≡ false)
            → forward_missing n.attributes (m.attributes.row j) ≡ false
        go (inl q) = forward_stays h.changed.own (λ there. (h.fixed there).2) (m.attributes.row j) (state q) (was refusal.link_alone Attributes j before)
        go (inr q) = no_back_link n.attributes (m.attributes.row j) q

    -- ---- all rows and the changed row alone: the same rules are broken

    module _ (t : TableId) (h : RowChange t k m n) (added : Added) (at : AddedAt added t k) where
      alone : (number : ℕ) → Stays t (numbered (schema_rules added) number).breaks
          → broken n (numbered (schema_rules added) number) ≡ (numbered (schema_rules added) number).breaks n t k
      alone number s = stays_alone t h.changed.own.here (numbered (schema_rules added) number).breaks s

      category_alone : (kind : ClassList) → ((j : ℕ) → j < m.classes.count → category_wrong kind m.classes (m.classes.row j) ≡ false)
          → Stays t (of_classes (λ x j. category_wrong kind x.classes (x.classes.row j)))
      category_alone kind e = classes_stay (λ c j. category_wrong kind c (c.row j)) e t h (category_kept kind e t h)

      inheritance_alone : (number : ℕ) → ((j : ℕ) → j < m.classes.count → inheritance_wrong number m.classes j ≡ false)
          → Stays t (inheritance_rule number).breaks
      inheritance_alone number e = classes_stay (inheritance_wrong number) e t h (inheritance_kept number e t h)

      each_alone : Each (λ r. broken n r ≡ r.breaks n t k) (schema_rules added)
      unfolding numbered
      each_alone =
          alone refusal.name_invalid (rows_stay t h name_invalid (was refusal.name_invalid))
          & taken_here every_row Name h.changed (was refusal.name_taken)
          & alone refusal.identifier_invalid (rows_stay t h identifier_invalid (was refusal.identifier_invalid))
          & taken_here every_row Identifier h.changed (was refusal.identifier_taken)
          & taken_here every_row Guid h.changed (was refusal.guid_taken)
          & alone refusal.attribute_not_live (attributes_live t h added at)
          & alone refusal.class_not_live (classes_live t h added at)
          & alone refusal.not_an_auxiliary (category_alone Auxiliaries (was refusal.not_an_auxiliary Classes))
          & alone refusal.not_a_superior (category_alone Superiors (was refusal.not_a_superior Classes))
          & alone refusal.root_not_abstract (inheritance_alone refusal.root_not_abstract (was refusal.root_not_abstract Classes))
          & alone refusal.abstract_under_other (inheritance_alone refusal.abstract_under_other (was refusal.abstract_under_other Classes))
          & alone refusal.auxiliary_under_structural (inheritance_alone refusal.auxiliary_under_structural (was refusal.auxiliary_under_structural Classes))
          & alone refusal.structural_under_auxiliary (inheritance_alone refusal.structural_under_auxiliary (was refusal.structural_under_auxiliary Classes))
          & alone refusal.naming_unfit (naming_kept t h)
          & taken_here every_row Mapi h.changed (was refusal.mapi_taken)
          & alone refusal.range_crossed (attribute_rows_stay t h range_wrong (was refusal.range_crossed Attributes))
          & alone refusal.syntax_misfit (attribute_rows_stay t h syntax_wrong (was refusal.syntax_misfit Attributes))
          & alone refusal.object_class_wrong (attribute_rows_stay t h object_class_wrong (was refusal.object_class_wrong Attributes))
          & taken_here every_row Link h.changed (was refusal.link_taken)
          & alone refusal.link_alone (forward_kept t h)
          & alone refusal.link_syntax_unfit (attribute_rows_stay t h link_syntax_wrong (was refusal.link_syntax_unfit Attributes))
          & tt

-- so the number that the judge of all rows finds is that of the first rule that the changed row breaks
pub changed_alone : (added : Added) (t : TableId) (k : ℕ) (m n : Schema) → RowChange t k m n → AddedAt added t k → AllKept Nothing m
    → broken_cases (schema_rules added) n ≡ row_cases (schema_rules added) n t k
changed_alone added t k m n h at kept = cases_agree (broken n) (λ r. r.breaks n t k) (schema_rules added) (each_alone k m n kept t h added at)
