-- The right values of oMObjectClass, document 01, rule 27, as one table: what is stored where a row has none, and what a row may have.
use Rattle.std.specs.Prelude.{Bool, ◌&&◌, List, [], ◌∷◌, ◌++◌, ◌≡◌, ℕ, ◌+◌, ◌*◌, ◌≤◌, ◌<◌, eqb, length, get_or}
use Rattle.prelude.specs.Part.{row_at, padded, same_bytes}
use Rattle.prelude.specs.Below.{any_below, first_below, Some}
use Rattle.schema.specs.Layout.{object_class_limit}
use Rattle.schema.specs.Row.{counted_at}

-- an entry: the syntax, then how many bytes and the bytes of a right value, padded as in a row
abbrev pub entry_width : ℕ
entry_width = object_class_limit + 2

abbrev pub entry : ℕ → List ℕ → List ℕ
entry syntax value = syntax ∷ (length value ∷ padded object_class_limit value)

-- "1: 2B0C0287731C00854A. 7: 56060102050B1D or 2A864886F7140101010B. 13: 2B0C0287731C00855C. 14: 2B0C0287731C00853E or 2A864886F7140101010C."
unfoldable pub object_classes : List ℕ
object_classes =
    entry 1 (0x2B ∷ 0x0C ∷ 0x02 ∷ 0x87 ∷ 0x73 ∷ 0x1C ∷ 0x00 ∷ 0x85 ∷ 0x4A ∷ [])
    ++ (entry 7 (0x56 ∷ 0x06 ∷ 0x01 ∷ 0x02 ∷ 0x05 ∷ 0x0B ∷ 0x1D ∷ [])
    ++ (entry 7 (0x2A ∷ 0x86 ∷ 0x48 ∷ 0x86 ∷ 0xF7 ∷ 0x14 ∷ 0x01 ∷ 0x01 ∷ 0x01 ∷ 0x0B ∷ [])
    ++ (entry 13 (0x2B ∷ 0x0C ∷ 0x02 ∷ 0x87 ∷ 0x73 ∷ 0x1C ∷ 0x00 ∷ 0x85 ∷ 0x5C ∷ [])
    ++ (entry 14 (0x2B ∷ 0x0C ∷ 0x02 ∷ 0x87 ∷ 0x73 ∷ 0x1C ∷ 0x00 ∷ 0x85 ∷ 0x3E ∷ [])
    ++ entry 14 (0x2A ∷ 0x86 ∷ 0x48 ∷ 0x86 ∷ 0xF7 ∷ 0x14 ∷ 0x01 ∷ 0x01 ∷ 0x01 ∷ 0x0C ∷ [])))))

abbrev pub entry_count : ℕ
entry_count = 6

-- the syntax of entry i of such a table, and its value
abbrev pub entry_syntax : List ℕ → ℕ → ℕ
entry_syntax table i = get_or (row_at 0 entry_width table i) 0 0

abbrev pub entry_value : List ℕ → ℕ → List ℕ
entry_value table i = counted_at 1 (row_at 0 entry_width table i)

-- the first entry of a syntax, and entry_count where it has none
abbrev pub first_entry : List ℕ → ℕ → ℕ
first_entry table syntax = first_below entry_count (λ i. eqb (entry_syntax table i) syntax)

-- "Absent, the first is stored." Behind the last entry stand no bytes, so a syntax that has none has no first value
unfoldable pub first_object_class : ℕ → List ℕ
first_object_class syntax = entry_value object_classes (first_entry object_classes syntax)

-- entry i of a table has the syntax and the value
abbrev pub entry_says : List ℕ → ℕ → List ℕ → ℕ → Bool
entry_says table syntax value i = eqb (entry_syntax table i) syntax && same_bytes value (entry_value table i)

-- some entry has: the value is a right one of the syntax
unfoldable pub object_class_fits : ℕ → List ℕ → Bool
object_class_fits syntax value = any_below entry_count (entry_says object_classes syntax value)

abbrev pub ObjectClassFits : ℕ → List ℕ → Type 0
ObjectClassFits syntax value = Some entry_count (λ i. (entry_syntax object_classes i ≡ syntax) × (value ≡ entry_value object_classes i))

-- the syntax has a right value
abbrev pub HasObjectClass : ℕ → Type 0
HasObjectClass syntax = Some entry_count (λ i. entry_syntax object_classes i ≡ syntax)

-- ---- the table as bytes

-- every entry of the table is whole
pub record Entries (table : List ℕ) : Type 0 where
  pub room : entry_width * entry_count ≤ length table
  pub short : (i : ℕ) → i < entry_count → get_or (row_at 0 entry_width table i) 1 0 ≤ object_class_limit
