-- Rules of a class row where one row of either table was changed or added: each law says of which facts of the changed row the rule of another row
-- depends.
use Rattle.std.specs.Prelude.{true, false, List, ◌⊎◌, ◌≡◌, refl, ℕ, ◌<◌}
use Rattle.std.proofs.Common.{inl, inr, ⊎_elim, sym, ap, ap₂, ◌∙◌, arith}
use Rattle.std.proofs.Math.Decide.{ℕ_discrete, dec_lt}
use Rattle.prelude.specs.SaysLaws.{says_false, says_fails}
use Rattle.schema.specs.Numbers.{limit}
use Rattle.schema.specs.Row.{is_defunct}
use Rattle.schema.specs.AttributeRow.{syntax_of, is_single_valued}
use Rattle.schema.specs.ClassRow.{category_of, superclass_of}
use Rattle.schema.specs.Store.{Table}
use Rattle.schema.specs.declared.number.TableId.TheVariants.{Classes}
use Rattle.schema.specs.declared.number.TableId.{TableId}
use Rattle.tables.specs.Live.{Live}
use Rattle.tables.specs.Changed.{ChangedAt}
use Rattle.tables.specs.ChangedLaws.{live_stays}
use Rattle.tables.specs.declared.named.ClassList.{ClassList}
use Rattle.tables.specs.declared.named.ClassList.TheVariants.{Auxiliaries, Superiors}
use Rattle.tables.specs.Named.{names, Lists, Names}
use Rattle.tables.proofs.NamedLaws.{says_names}
use Rattle.rules_class.specs.Live.{class_wrong, naming_wrong, SuperclassEarly, CanName, not_live}
use Rattle.rules_class.specs.LiveLaws.{says_class_wrong, says_naming_wrong, says_not_live}
use Rattle.rules_class.specs.Category.{category_wrong, inheritance, inheritance_of, root_inheritance, CategoryWrong}
use Rattle.rules_class.proofs.CategoryLaws.{says_category_wrong, inheritance_root, inheritance_at}
use Rattle.schema.specs.declared.number.AttributeNumber.{AttributeNumber}
use Rattle.std.specs.Prelude.{Option, Some}

-- ---- what a row names, where the table of it was changed

-- a row that is named was there, by rule 17 or 18
pub named_there : (of : TableId) (t : Table) (row : List ℕ) → not_live of t row ≡ false → (n : ℕ) → n < limit of → Names of row n → n < t.count
named_there of t row sound n few named = go (dec_lt n t.count)
  where
    go : Dec (n < t.count) → n < t.count
    go (yes l) = l
    go (no d) = absurd (says_fails (says_not_live of t row) sound (record { at = n; below = few; is = record { named = named; dead = λ live. d live.0 } }))

-- rules 17 and 18 need: a row that names the changed one is defunct, if that has become defunct
pub not_live_stays : {k : ℕ} {t u : Table} → ChangedAt k t u → (of : TableId) (row : List ℕ)
    → (names of row k ≡ true → is_defunct (u.row k) ≡ true → (is_defunct (t.row k) ≡ true) ⊎ (is_defunct row ≡ true))
    → not_live of t row ≡ false → not_live of u row ≡ false
not_live_stays {k} {t} {u} h of row ok e =
    says_false (says_not_live of u row)
    (λ bad. says_fails (says_not_live of t row) e
    (record { at = bad.at; below = bad.below; is = record { named = bad.is.named; dead = λ l. bad.is.dead (moved bad.at bad.is.named l) } }))
  where
    moved : (n : ℕ) → Names of row n → Live t row n → Live u row n
    moved n named l = live_stays h row n (λ q. ok ((says_names of row k).passes (rw q at named))) l

-- rule 23 needs: the changed attribute has its syntax as before, and is single-valued as before; and the named attribute was there (17)
pub naming_stays : {k : ℕ} {a u : Table} → ChangedAt k a u
    → (k < a.count → (syntax_of (u.row k) ≡ syntax_of (a.row k)) × (is_single_valued (u.row k) ≡ is_single_valued (a.row k)))
    → (named : Option AttributeNumber) → ((n : ℕ) → ◌≡◌ {A = Option AttributeNumber} named (Some (record { 0 = n })) → n < u.count → n < a.count) → naming_wrong a named ≡ false → naming_wrong u named ≡ false
naming_stays {k} {a} {u} h same named there e =
    says_false (says_naming_wrong u named)
    (λ bad. says_fails (says_naming_wrong a named) e
    (record {
      attribute = bad.attribute;
      by = bad.by;
      there = there bad.attribute bad.by bad.there;
      wrong = moved bad.attribute
          (there bad.attribute bad.by bad.there) (ℕ_discrete bad.attribute k) bad.wrong;
    }))
  where
    moved : (n : ℕ) → n < a.count → Dec (n ≡ k) → ¬ (CanName (u.row n)) → ¬ (CanName (a.row n))
    moved n l (yes q) w r =
        let s = same (rw q at l) in
        let t : CanName (a.row k) = rw q at r in
        w (rw q (s.0 ∙ t.0, s.1 ∙ t.1))
    moved n l (no d) w r = w (rw (h.other n d l) r)

-- ---- a class was changed or added, and row j is another class

module _ {k : ℕ} {c u : Table} (h : ChangedAt k c u) (j : ℕ) (there : j < c.count) (other : ¬ (j ≡ k)) (sound : class_wrong c j ≡ false) where
  row_same : u.row j ≡ c.row j
  row_same = h.other j other there

  -- what 18 gave before
  live : not_live Classes c (c.row j) ≡ false
  live = says_false (says_not_live Classes c (c.row j)) (λ bad. says_fails (says_class_wrong c j) sound (inl bad))

  early : ¬ (¬ (SuperclassEarly j (c.row j)))
  early late = says_fails (says_class_wrong c j) sound (inr late)

  module _ (category : k < c.count → category_of (u.row k) ≡ category_of (c.row k)) where
    category_same : (n : ℕ) → n < c.count → category_of (u.row n) ≡ category_of (c.row n)
    category_same n l = go (ℕ_discrete n k)
      where
        go : Dec (n ≡ k) → category_of (u.row n) ≡ category_of (c.row n)
        go (yes q) = rw q (category (rw q at l))
        go (no d) = ap category_of (h.other n d l)

    -- rules 19 and 20 need: the changed class has its category as before
    pub category_stays : (kind : ClassList) → category_wrong kind c (c.row j) ≡ false → category_wrong kind u (u.row j) ≡ false
    category_stays kind e = says_false (says_category_wrong kind u (u.row j)) (λ s. says_fails (says_category_wrong kind c (c.row j)) e (moved s))
      where
        lists_names : (kind : ClassList) (n : ℕ) → Lists kind (c.row j) n → Names Classes (c.row j) n
        lists_names Auxiliaries n l = inr (inl l)
        lists_names Superiors n l = inr (inr l)

        moved : CategoryWrong kind u (u.row j) → CategoryWrong kind c (c.row j)
        moved s =
            let listed : Lists kind (c.row j) s.at = rw row_same at s.is.listed in
            let was : s.at < c.count = named_there Classes c (c.row j) live s.at s.below (lists_names kind s.at listed) in
            record { at = s.at; below = s.below; is = record { listed = listed; there = was; other = rw (category_same s.at was) at s.is.other } }

    -- so do rules 21, 38, 39 and 40
    superclass_there : ¬ (j ≡ 0) → superclass_of (c.row j) < c.count
    superclass_there d = go (dec_lt (superclass_of (c.row j)) c.count)
      where
        go : Dec (superclass_of (c.row j) < c.count) → superclass_of (c.row j) < c.count
        go (yes l) = l
        go (no n) = absurd (early (⊎_elim (λ q. d q.0) (λ l. n (omega arith))))

    pub inheritance_stays : inheritance_of u j ≡ inheritance_of c j
    inheritance_stays = go (ℕ_discrete j 0)
      where
        go : Dec (j ≡ 0) → inheritance_of u j ≡ inheritance_of c j
        go (yes e) = inheritance_root u j e ∙ ap (λ (r : List ℕ). root_inheritance (category_of r)) row_same ∙ sym (inheritance_root c j e)
        go (no d) =
            let super : ℕ = superclass_of (c.row j) in
            let l : super < c.count = superclass_there d in
            inheritance_at u j d super (ap superclass_of row_same) (h.stays super l)
            ∙ ap₂ inheritance (ap category_of row_same) (category_same super l)
            ∙ sym (inheritance_at c j d super refl l)
