-- What every row has. Document 01: "Every row: display name (up to 64 bytes), object identifier (up to 16 arcs, each a u32), schemaIDGUID (16
-- bytes), systemFlags (u32), active or defunct."
use Rattle.std.specs.Prelude.{Bool, List, ◌≡◌, ℕ, ◌+◌, ◌*◌, ◌/◌, ◌%◌, ◌≤◌, ◌<◌, eqb, length, get_or}
use Rattle.prelude.specs.Part.{part}
use Rattle.prelude.specs.BigEndian.{big_endian}
use Rattle.schema.specs.Layout.{name_at, identifier_at, arc_width, arc_limit, common_width, guid_at, guid_width, flags_at, defunct_at}

-- a byte that is 0 or 1, as a test
abbrev pub flag_at : ℕ → List ℕ → Bool
flag_at at row = eqb (get_or row at 0) 1

-- counted bytes: as many as the byte at a place says, behind it
abbrev pub counted_at : ℕ → List ℕ → List ℕ
counted_at at row = part (at + 1) (get_or row at 0) row

abbrev pub name_length : List ℕ → ℕ
name_length row = get_or row name_at 0

-- the display name
abbrev pub name_of : List ℕ → List ℕ
name_of row = counted_at name_at row

-- the object identifier: how many arcs, each of them, and all of them as bytes
abbrev pub arc_count : List ℕ → ℕ
arc_count row = get_or row identifier_at 0

abbrev pub arc_of : List ℕ → ℕ → ℕ
arc_of row k = big_endian 4 (identifier_at + 1 + arc_width * k) row

abbrev pub identifier_of : List ℕ → List ℕ
identifier_of row = part (identifier_at + 1) (arc_width * arc_count row) row

-- a row whose identifier lies within it
pub record HasArcs (row : List ℕ) : Type 0 where
  pub long : common_width ≤ length row
  pub few : arc_count row ≤ arc_limit
  pub bytes : (i : ℕ) → get_or row i 0 < 256

-- (R50) two identifiers have the same arcs, and as many
pub record SameArcs (a b : List ℕ) : Type 0 where
  pub count : arc_count a ≡ arc_count b
  pub arcs : (k : ℕ) → k < arc_count a → arc_of a k ≡ arc_of b k

-- the schemaIDGUID
abbrev pub guid_of : List ℕ → List ℕ
guid_of row = part guid_at guid_width row

abbrev pub system_flags : List ℕ → ℕ
system_flags row = big_endian 4 flags_at row

-- "A row is a *base row* if systemFlags has 0x10"
abbrev pub is_base : List ℕ → Bool
is_base row = eqb (system_flags row / 16 % 2) 1

abbrev pub is_defunct : List ℕ → Bool
is_defunct row = flag_at defunct_at row
