-- Rules 17, 18 and 23: what a class row names is live, its superclass is earlier, and its naming attribute can name.
use Rattle.std.specs.Prelude.{Bool, true, false, cond, not, ◌&&◌, ◌||◌, List, ◌⊎◌, ◌≡◌, ℕ, ◌<◌, ltb, eqb}
use Rattle.prelude.specs.Below.{any_below, Some}
use Rattle.schema.specs.AttributeRow.{syntax_of, is_single_valued}
use Rattle.schema.specs.ClassRow.{superclass_of}
use Rattle.schema.specs.Store.{Table}
use Rattle.schema.specs.declared.number.TableId.{TableId}
use Rattle.schema.specs.declared.number.TableId.TheVariants.{Classes}
use Rattle.schema.specs.Numbers.{limit}
use Rattle.tables.specs.Live.{live, Live}
use Rattle.tables.specs.declared.named.ClassList.TheVariants.{Auxiliaries, Superiors}
use Rattle.tables.specs.Named.{names, Names, lists}
use Rattle.std.specs.declared.option.Option.TheVariants as option
use Rattle.schema.specs.declared.number.AttributeNumber.{AttributeNumber}
use Rattle.std.specs.Prelude.{Option}

-- ---- the rules

-- row n of a table is named, and not live for the naming row
unfoldable pub names_dead : TableId → Table → List ℕ → ℕ → Bool
names_dead t rows row n = names t row n && not (live rows row n)

-- "17 A named attribute not live.", "18 A named class not live"
unfoldable pub not_live : TableId → Table → List ℕ → Bool
not_live t rows row = any_below (limit t) (names_dead t rows row)

-- "or a superclass that isn't earlier (for row 0: isn't row 0, also when added to an empty table)"
unfoldable pub superclass_late : ℕ → List ℕ → Bool
superclass_late k row = cond (eqb k 0) (not (eqb (superclass_of row) 0)) (not (ltb (superclass_of row) k))

unfoldable pub class_wrong : Table → ℕ → Bool
class_wrong c k = not_live Classes c (c.row k) || superclass_late k (c.row k)

-- "No list of an added class may hold its own number; a loaded or reactivated one's may." (18)
unfoldable pub lists_itself : Table → ℕ → Bool
lists_itself c k = lists Auxiliaries (c.row k) k || lists Superiors (c.row k) k

-- "23 The naming attribute isn't 2.5.5.12 and single-valued." One that has no row breaks 17 and not this
unfoldable pub naming_wrong : Table → Option AttributeNumber → Bool
naming_wrong a (option.Some n) = ltb n.0 a.count && not (eqb (syntax_of (a.row n.0)) 12 && is_single_valued (a.row n.0))
naming_wrong a option.None = false

-- ---- the same as statements

pub record NamesDead (t : TableId) (rows : Table) (row : List ℕ) (n : ℕ) : Type 0 where
  pub named : Names t row n
  pub dead : ¬ (Live rows row n)

abbrev pub NotLive : TableId → Table → List ℕ → Type 0
NotLive t rows row = Some (limit t) (NamesDead t rows row)

-- row 0 has row 0 for superclass, any other row an earlier one
abbrev pub SuperclassEarly : ℕ → List ℕ → Type 0
SuperclassEarly k row = ((k ≡ 0) × (superclass_of row ≡ 0)) ⊎ (superclass_of row < k)

-- an attribute that can name
abbrev pub CanName : List ℕ → Type 0
CanName row = (syntax_of row ≡ 12) × (is_single_valued row ≡ true)

pub record NamingWrong (a : Table) (named : Option AttributeNumber) : Type 0 where
  pub attribute : ℕ
  pub by : ◌≡◌ {A = Option AttributeNumber} named (option.Some (record { 0 = attribute }))
  pub there : attribute < a.count
  pub wrong : ¬ (CanName (a.row attribute))
