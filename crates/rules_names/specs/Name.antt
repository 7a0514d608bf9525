-- Display names and object identifiers by themselves: rules 12 and 14, and the comparison of two names for rule 13.
use Rattle.std.specs.Prelude.{◌≡◌, Bool, cond, not, ◌&&◌, ◌||◌, List, ◌⊎◌, ℕ, ◌+◌, ◌≤◌, ◌<◌, leb, ltb, eqb, length, get_or}
use Rattle.prelude.specs.Below.{all_below}
use Rattle.schema.specs.Row.{name_of, arc_count, arc_of}

-- from low to high
unfoldable pub between : ℕ → ℕ → ℕ → Bool
between low high b = leb low b && leb b high

-- A to Z and a to z, in ASCII
unfoldable pub is_letter : ℕ → Bool
is_letter b = between 65 90 b || between 97 122 b

-- "letters, digits or hyphens (ASCII)"
unfoldable pub is_name_byte : ℕ → Bool
is_name_byte b = is_letter b || (between 48 57 b || eqb b 45)

-- "a letter, then letters, digits or hyphens". The empty name has no first letter: past its end stands 0
unfoldable pub valid_name : List ℕ → Bool
valid_name s = is_letter (get_or s 0 0) && all_below (length s) (λ i. is_name_byte (get_or s i 0))

-- "A to Z equal to a to z"; every other byte is itself
unfoldable pub folded : ℕ → ℕ
folded b = cond (between 65 90 b) (b + 32) b

-- the same name, case aside
unfoldable pub same_name : List ℕ → List ℕ → Bool
same_name s t = eqb (length s) (length t) && all_below (length s) (λ i. eqb (folded (get_or s i 0)) (folded (get_or t i 0)))

-- "12 Name invalid: not a letter, then letters, digits or hyphens (ASCII)."
unfoldable pub name_invalid : List ℕ → Bool
name_invalid row = not (valid_name (name_of row))

-- "14 Identifier: fewer than 2 arcs; first over 2; second over 39 where the first is 0 or 1."
unfoldable pub identifier_invalid : List ℕ → Bool
identifier_invalid row = ltb (arc_count row) 2 || (ltb 2 (arc_of row 0) || (ltb (arc_of row 0) 2 && ltb 39 (arc_of row 1)))

-- ---- the same as statements

abbrev pub Letter : ℕ → Type 0
Letter b = ((65 ≤ b) × (b ≤ 90)) ⊎ ((97 ≤ b) × (b ≤ 122))

abbrev pub NameByte : ℕ → Type 0
NameByte b = Letter b ⊎ (((48 ≤ b) × (b ≤ 57)) ⊎ (b ≡ 45))

pub record ValidName (s : List ℕ) : Type 0 where
  pub begun : 0 < length s
  pub letter : Letter (get_or s 0 0)
  pub bytes : (i : ℕ) → i < length s → NameByte (get_or s i 0)

pub record SameName (s t : List ℕ) : Type 0 where
  pub lengths : length s ≡ length t
  pub bytes : (i : ℕ) → i < length s → folded (get_or s i 0) ≡ folded (get_or t i 0)

abbrev pub IdentifierInvalid : List ℕ → Type 0
IdentifierInvalid row = (arc_count row < 2) ⊎ ((2 < arc_of row 0) ⊎ ((arc_of row 0 < 2) × (39 < arc_of row 1)))
