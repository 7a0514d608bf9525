-- What a class row names: in its lists, as superclass, as rDNAttID.
use Rattle.std.specs.Prelude.{Bool, false, ◌||◌, List, ◌⊎◌, ◌≡◌, ℕ, eqb}
use Rattle.sets.specs.Sets.{member, bit}
use Rattle.schema.specs.ClassRow.{superclass_of, naming_of, mandatory_of, fixed_optional_of, open_optional_of, fixed_auxiliary_of, open_auxiliary_of}
use Rattle.schema.specs.ClassRow.{fixed_superior_of, open_superior_of}
use Rattle.schema.specs.declared.number.TableId.{TableId}
use Rattle.schema.specs.declared.number.TableId.TheVariants.{Attributes, Classes}
use Rattle.tables.specs.declared.named.ClassList.{ClassList}
use Rattle.tables.specs.declared.named.ClassList.TheVariants.{Auxiliaries, Superiors}
use Rattle.schema.specs.declared.number.AttributeNumber.{AttributeNumber}
use Rattle.std.specs.Prelude.{Option, Some, None}

-- class n is in the fixed or in the open list of the kind
unfoldable pub lists : ClassList → List ℕ → ℕ → Bool
lists Auxiliaries row n = member (fixed_auxiliary_of row) n || member (open_auxiliary_of row) n
lists Superiors row n = member (fixed_superior_of row) n || member (open_superior_of row) n

-- the naming attribute is n
unfoldable pub named_by : Option AttributeNumber → ℕ → Bool
named_by (Some a) n = eqb a.0 n
named_by None n = false

-- attribute n is in a list of the row, or is its rDNAttID; class n is its superclass, or in a list of it
unfoldable pub names : TableId → List ℕ → ℕ → Bool
names Attributes row n = member (mandatory_of row) n || (member (fixed_optional_of row) n || (member (open_optional_of row) n || named_by (naming_of row) n))
names Classes row n = eqb (superclass_of row) n || (lists Auxiliaries row n || lists Superiors row n)

-- ---- the same as statements

abbrev pub Lists : ClassList → List ℕ → ℕ → Type 0
Lists Auxiliaries row n = (bit (fixed_auxiliary_of row) n ≡ 1) ⊎ (bit (open_auxiliary_of row) n ≡ 1)
Lists Superiors row n = (bit (fixed_superior_of row) n ≡ 1) ⊎ (bit (open_superior_of row) n ≡ 1)

abbrev pub Names : TableId → List ℕ → ℕ → Type 0
Names Attributes row n =
    (bit (mandatory_of row) n ≡ 1) ⊎ ((bit (fixed_optional_of row) n ≡ 1) ⊎ ((bit (open_optional_of row) n ≡ 1) ⊎ (naming_of row ≡ Some (record { 0 = n }))))
Names Classes row n = (superclass_of row ≡ n) ⊎ (Lists Auxiliaries row n ⊎ Lists Superiors row n)
