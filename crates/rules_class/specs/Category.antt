-- Categories: rules 19, 20, 21 and 38 to 40.
use Rattle.std.specs.Prelude.{Bool, cond, not, ◌&&◌, ◌||◌, List, Option, None, Some, Result, MatchResult, ◌⊎◌, ◌≡◌, ℕ, ◌<◌, ltb, eqb}
use Rattle.prelude.specs.Below.{any_below}
use Rattle.prelude.specs.Below as below
use Rattle.schema.specs.Numbers.{class_limit}
use Rattle.schema.specs.ClassRow.{category_of, superclass_of}
use Rattle.schema.specs.Store.{Table}
use Rattle.tables.specs.declared.named.ClassList.{ClassList}
use Rattle.tables.specs.declared.named.ClassList.TheVariants.{Auxiliaries, Superiors}
use Rattle.tables.specs.Named.{lists, Lists}
use Rattle.rules_class.specs.declared.category.Category.{Category}
use Rattle.rules_class.specs.declared.category.Category.TheVariants.{Class88, Structural, Abstract, Auxiliary}
use Rattle.rules_class.specs.declared.category.NoCategory.{NoCategory}
use Rattle.rules_class.specs.declared.category.Inheritance.{Inheritance}
use Rattle.rules_class.specs.declared.category.Inheritance.TheVariants.{RootNotAbstract, AbstractUnderOther, AuxiliaryUnderStructural}
use Rattle.rules_class.specs.declared.category.Inheritance.TheVariants.{StructuralUnderAuxiliary}
use Rattle.schema.specs.Refusals as refusal

-- "category (0 88 class, 1 structural, 2 abstract, 3 auxiliary)"
abbrev pub class88 : ℕ
class88 = 0

abbrev pub structural : ℕ
structural = 1

abbrev pub abstract : ℕ
abstract = 2

abbrev pub auxiliary : ℕ
auxiliary = 3

abbrev pub category_number : Category → ℕ
category_number Class88 = class88
category_number Structural = structural
category_number Abstract = abstract
category_number Auxiliary = auxiliary

-- the category that a byte stands for, or that it stands for none
abbrev pub Decodes : ℕ → Result Category NoCategory → Type 0
Decodes byte r = MatchResult r (λ c. category_number c ≡ byte) (λ e. (e.0 ≡ byte) × (3 < byte))

-- ---- rules 19 and 20

-- the category, beside 88 class, that the classes of a list may have
abbrev pub list_category : ClassList → ℕ
list_category Auxiliaries = auxiliary
list_category Superiors = structural

-- "19 An auxiliary not of category 0 or 3. 20 A possible superior not of category 0 or 1." A class that has no row breaks 18 and not this
unfoldable pub other_category : ClassList → Table → ℕ → Bool
other_category kind c n = ltb n c.count && not (eqb (category_of (c.row n)) class88 || eqb (category_of (c.row n)) (list_category kind))

unfoldable pub wrongly_listed : ClassList → Table → List ℕ → ℕ → Bool
wrongly_listed kind c row n = lists kind row n && other_category kind c n

unfoldable pub category_wrong : ClassList → Table → List ℕ → Bool
category_wrong kind c row = any_below class_limit (wrongly_listed kind c row)

-- ---- rules 21, 38, 39 and 40

-- which of the rules a category breaks under the category of the superclass. "All else is legal."
unfoldable pub inheritance : ℕ → ℕ → Option Inheritance
inheritance own above =
    cond (eqb own abstract && not (eqb above abstract)) (Some AbstractUnderOther)
    (cond (eqb own auxiliary && eqb above structural) (Some AuxiliaryUnderStructural)
    (cond (eqb own structural && eqb above auxiliary) (Some StructuralUnderAuxiliary) None))

-- "Row 0 not abstract": nothing else binds it
unfoldable pub root_inheritance : ℕ → Option Inheritance
root_inheritance own = cond (eqb own abstract) None (Some RootNotAbstract)

-- of class k. A superclass that has no row breaks 18 and not this
unfoldable pub inheritance_of : Table → ℕ → Option Inheritance
inheritance_of c k =
    cond (eqb k 0) (root_inheritance (category_of (c.row k)))
    (cond (ltb (superclass_of (c.row k)) c.count) (inheritance (category_of (c.row k)) (category_of (c.row (superclass_of (c.row k))))) None)

-- the number of the papers for each of the rules
abbrev pub inheritance_number : Inheritance → ℕ
inheritance_number RootNotAbstract = refusal.root_not_abstract
inheritance_number AbstractUnderOther = refusal.abstract_under_other
inheritance_number AuxiliaryUnderStructural = refusal.auxiliary_under_structural
inheritance_number StructuralUnderAuxiliary = refusal.structural_under_auxiliary

-- and for an answer, 0 for none
abbrev pub answer_number : Option Inheritance → ℕ
answer_number None = refusal.done
answer_number (Some x) = inheritance_number x

-- "The small check answers which, and all who call it pass that on": class k gets this number
unfoldable pub inheritance_wrong : ℕ → Table → ℕ → Bool
inheritance_wrong number c k = eqb (answer_number (inheritance_of c k)) number

-- ---- the same as statements

pub record WronglyListed (kind : ClassList) (c : Table) (row : List ℕ) (n : ℕ) : Type 0 where
  pub listed : Lists kind row n
  pub there : n < c.count
  pub other : ¬ ((category_of (c.row n) ≡ class88) ⊎ (category_of (c.row n) ≡ list_category kind))

abbrev pub CategoryWrong : ClassList → Table → List ℕ → Type 0
CategoryWrong kind c row = below.Some class_limit (WronglyListed kind c row)

-- "21 keeps 'row 0 not abstract'": row 0 by its own category
abbrev pub RootIllegal : Inheritance → ℕ → Type 0
RootIllegal RootNotAbstract own = ¬ (own ≡ abstract)
RootIllegal AbstractUnderOther own = ⊥
RootIllegal AuxiliaryUnderStructural own = ⊥
RootIllegal StructuralUnderAuxiliary own = ⊥

-- "38 is abstract under another kind, 39 auxiliary under structural, 40 structural under auxiliary": any other class, own under above
abbrev pub Illegal : Inheritance → ℕ → ℕ → Type 0
Illegal AbstractUnderOther own above = (own ≡ abstract) × ¬ (above ≡ abstract)
Illegal AuxiliaryUnderStructural own above = (own ≡ auxiliary) × (above ≡ structural)
Illegal StructuralUnderAuxiliary own above = (own ≡ structural) × (above ≡ auxiliary)
Illegal RootNotAbstract own above = ⊥

abbrev pub InheritanceWrong : Inheritance → Table → ℕ → Type 0
InheritanceWrong x c k =
    ((k ≡ 0) × RootIllegal x (category_of (c.row k)))
    ⊎ (¬ (k ≡ 0) × ((superclass_of (c.row k) < c.count) × Illegal x (category_of (c.row k)) (category_of (c.row (superclass_of (c.row k))))))
