-- What the tests of named rows say.
use Rattle.std.specs.Prelude.{true, false, List, ◌⊎◌, ◌≡◌, refl, ℕ, ◌<◌, eqb}
use Rattle.std.proofs.lemmas.Bool.{false≢true}
use Rattle.std.proofs.Common.{inl, inr, ⊎_elim, arith}
use Rattle.prelude.specs.Says.{Says}
use Rattle.prelude.specs.SaysLaws.{says_and, says_or, says_not, says_eq, says_lt, says_test, says_iff, says_split}
use Rattle.prelude.specs.BelowLaws.{says_any}
use Rattle.schema.specs.AttributeRow.{syntax_of, is_single_valued}
use Rattle.schema.specs.ClassRow.{superclass_of}
use Rattle.schema.specs.Store.{Table}
use Rattle.schema.specs.declared.number.TableId.TheVariants.{Classes}
use Rattle.schema.specs.declared.number.TableId.{TableId}
use Rattle.schema.specs.Numbers.{limit}
use Rattle.tables.specs.LiveLaws.{says_live}
use Rattle.tables.specs.declared.named.ClassList.TheVariants.{Auxiliaries, Superiors}
use Rattle.tables.specs.Named.{Lists}
use Rattle.tables.proofs.NamedLaws.{says_lists, says_names}
use Rattle.rules_class.specs.Live.{superclass_late, class_wrong, lists_itself, naming_wrong, SuperclassEarly, NamingWrong, CanName, NamesDead}
use Rattle.rules_class.specs.Live.{NotLive, names_dead, not_live}
use Rattle.schema.specs.declared.number.AttributeNumber.{AttributeNumber}
use Rattle.std.specs.Prelude.{Option, Some, None}

-- ---- the rules

pub says_names_dead : (t : TableId) (rows : Table) (row : List ℕ) (n : ℕ) → Says (names_dead t rows row n) (NamesDead t rows row n)
unfolding names_dead
says_names_dead t rows row n =
    says_iff (says_and (says_names t row n) (says_not (says_live rows row n))) (λ h. record { named = h.0; dead = h.1 }, λ h. (h.named, h.dead))

-- rule 17, and rule 18 in part
pub says_not_live : (t : TableId) (rows : Table) (row : List ℕ) → Says (not_live t rows row) (NotLive t rows row)
unfolding not_live
says_not_live t rows row = says_any (limit t) (λ n l. says_names_dead t rows row n)

pub says_superclass_late : (k : ℕ) (row : List ℕ) → Says (superclass_late k row) (¬ (SuperclassEarly k row))
unfolding superclass_late
says_superclass_late k row = go (says_split (says_eq k 0))
  where
    first : k ≡ 0 → ¬ (superclass_of row ≡ 0) → ¬ (SuperclassEarly k row)
    first e d h = ⊎_elim (λ q. d q.1) (λ l. omega (arith, e, l)) h

    later : ¬ (k ≡ 0) → ¬ (superclass_of row < k) → ¬ (SuperclassEarly k row)
    later e d h = ⊎_elim (λ q. e q.0) d h

    go : ((eqb k 0 ≡ true) × (k ≡ 0)) ⊎ ((eqb k 0 ≡ false) × ¬ (k ≡ 0)) → Says (superclass_late k row) (¬ (SuperclassEarly k row))
    go (inl q) = rw q.0 (says_iff (says_not (says_eq (superclass_of row) 0)) (first q.1, λ h e. h (inl (q.1, e))))
    go (inr q) = rw q.0 (says_iff (says_not (says_lt (superclass_of row) k)) (later q.1, λ h l. h (inr l)))

-- rule 18
pub says_class_wrong : (c : Table) (k : ℕ) → Says (class_wrong c k) (NotLive Classes c (c.row k) ⊎ ¬ (SuperclassEarly k (c.row k)))
unfolding class_wrong
says_class_wrong c k = says_or (says_not_live Classes c (c.row k)) (says_superclass_late k (c.row k))

-- rule 18 for an added class
pub says_lists_itself : (c : Table) (k : ℕ) → Says (lists_itself c k) (Lists Auxiliaries (c.row k) k ⊎ Lists Superiors (c.row k) k)
unfolding lists_itself
says_lists_itself c k = says_or (says_lists Auxiliaries (c.row k) k) (says_lists Superiors (c.row k) k)

-- rule 23
pub says_naming_wrong : (a : Table) (named : Option AttributeNumber) → Says (naming_wrong a named) (NamingWrong a named)
unfolding naming_wrong
says_naming_wrong a (Some n) =
    says_iff (says_and (says_lt n.0 a.count) (says_not (says_and (says_eq (syntax_of (a.row n.0)) 12) (says_test (is_single_valued (a.row n.0))))))
    (λ h. record { attribute = n.0; by = refl; there = h.0; wrong = h.1 }, λ h. back h.attribute h.by (h.there, h.wrong))
  where
    back : (m : ℕ) → ◌≡◌ {A = Option AttributeNumber} (Some n) (Some (record { 0 = m })) → (m < a.count) × ¬ (CanName (a.row m))
        → (n.0 < a.count) × ¬ (CanName (a.row n.0))
    back m e h = let q : n ≡ record { 0 = m } = cc in rw q h
says_naming_wrong a None = record { holds = λ e. absurd (false≢true e); passes = λ h. never h.attribute h.by }
  where
    never : (m : ℕ) → ◌≡◌ {A = Option AttributeNumber} None (Some (record { 0 = m })) → false ≡ true
    never m e = cc
