-- Tagged fields. Document 01: "Tagged fields: one byte tag, two bytes length, value; numbers most significant byte first."
use Rattle.std.specs.Prelude.{cond, List, ◌∷◌, ◌++◌, ℕ, ◌+◌, leb, eqb, length, get_or}
use Rattle.prelude.specs.BigEndian.{big_endian, big_endian_bytes}
use Rattle.wire.specs.FieldRead.{FieldRead, Field, End, Bad}

-- where the value of the field at a place ends
abbrev pub value_end : List ℕ → ℕ → ℕ
value_end s at = at + 3 + big_endian 2 (at + 1) s

-- the field at a place of the fields that end at end: none where nothing is left; bad, at its tag, where fewer than three bytes are left or
-- the value runs past the end
unfoldable pub field_at : List ℕ → ℕ → ℕ → FieldRead
field_at s at end =
    cond (eqb at end)
    End
    (cond (leb (at + 3) end)
    (cond (leb (value_end s at) end)
    (Field (get_or s at 0) (at + 3) (value_end s at))
    (Bad at))
    (Bad at))

-- the header of a field of n bytes
unfoldable pub header_bytes : ℕ → ℕ → List ℕ
header_bytes tag n = tag ∷ big_endian_bytes 2 n

-- a whole field
unfoldable pub field_bytes : ℕ → List ℕ → List ℕ
field_bytes tag v = header_bytes tag (length v) ++ v
