-- Bytes of a row's lists that are zero: the row names none of the eight numbers of such a byte. The code's way to pass over them; no promise speaks of it.
use Rattle.std.specs.Prelude.{Bool, true, false, not, ◌&&◌, List, ◌≡◌, ℕ, ◌+◌, ◌*◌, ◌/◌, ◌<◌, eqb, get_or}
use Rattle.schema.specs.ClassRow.{superclass_of, naming_of, mandatory_of, fixed_optional_of, open_optional_of, fixed_auxiliary_of, open_auxiliary_of}
use Rattle.schema.specs.ClassRow.{fixed_superior_of, open_superior_of}
use Rattle.schema.specs.declared.number.TableId.{TableId}
use Rattle.schema.specs.declared.number.TableId.TheVariants.{Attributes, Classes}
use Rattle.tables.specs.declared.named.ClassList.{ClassList}
use Rattle.tables.specs.declared.named.ClassList.TheVariants.{Auxiliaries, Superiors}
use Rattle.schema.specs.declared.number.AttributeNumber.{AttributeNumber}
use Rattle.std.specs.Prelude.{Option, Some, None}

-- a byte of two sets is zero in both
unfoldable pub blank : List ℕ → List ℕ → ℕ → Bool
blank a b at = eqb (get_or a at 0) 0 && eqb (get_or b at 0) 0

-- no list of the kind holds one of the eight classes of a byte
unfoldable pub lists_none : ClassList → List ℕ → ℕ → Bool
lists_none Auxiliaries row at = blank (fixed_auxiliary_of row) (open_auxiliary_of row) at
lists_none Superiors row at = blank (fixed_superior_of row) (open_superior_of row) at

-- the naming attribute is none of the eight of a byte
unfoldable pub named_elsewhere : Option AttributeNumber → ℕ → Bool
named_elsewhere (Some n) at = not (eqb (n.0 / 8) at)
named_elsewhere None at = true

-- a row names none of the eight rows of a byte
unfoldable pub names_none : TableId → List ℕ → ℕ → Bool
names_none Attributes row at =
    blank (mandatory_of row) (fixed_optional_of row) at && (eqb (get_or (open_optional_of row) at 0) 0 && named_elsewhere (naming_of row) at)
names_none Classes row at =
    blank (fixed_auxiliary_of row) (open_auxiliary_of row) at
    && (blank (fixed_superior_of row) (open_superior_of row) at && not (eqb (superclass_of row / 8) at))

-- what a search by bytes goes by: a number's test answers p of it, and none of the eight numbers of a blank byte has p
pub record ByBytes (bytes : ℕ) (is_blank : ℕ → Bool → Type 0) (passes : ℕ → Bool → Type 0) (p : ℕ → Bool) : Type 0 where
  pub says : (n : ℕ) (b : Bool) → n < bytes * 8 → passes n b → b ≡ p n
  pub none : (at i : ℕ) → at < bytes → i < 8 → is_blank at true → p (at * 8 + i) ≡ false
