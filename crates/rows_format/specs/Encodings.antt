-- The encodings of fields. Of each: which values it accepts, the bytes that a value is stored as, how many these are, the value that stored bytes
-- stand for, and which bytes can be stored.
use Rattle.std.specs.Prelude.{Bool, true, false, not, ◌&&◌, ◌||◌, List, [], ◌∷◌, ℕ, ◌+◌, ◌*◌, ◌/◌, ◌%◌, leb, ltb, eqb, length, get_or, drop}
use Rattle.prelude.specs.Part.{part, padded, is_zero}
use Rattle.prelude.specs.BigEndian.{big_endian, big_endian_bytes}
use Rattle.sets.specs.Sets.{set_of, is_empty, members_from}
use Rattle.prelude.specs.Unlike.{among}
use Rattle.schema.specs.Numbers.{limit}
use Rattle.schema.specs.Layout.{set_width}
use Rattle.rows_format.specs.Entries.{entries, entry_bytes, rises_below}
use Rattle.rows_format.specs.declared.column.Test.{Test}
use Rattle.rows_format.specs.declared.column.Test.TheVariants.{Any, Below, NotZero, OpenList}
use Rattle.rows_format.specs.declared.column.Encoding.{Encoding}
use Rattle.rows_format.specs.declared.column.Encoding.TheVariants.{Plain, Number, Counted, Arcs, Entries}

-- what is asked of bytes that are stored as they are: nothing; "Category over 3 .. is unreadable"; "the last two not zero";
-- "21 (one byte: 15, 17, 19)", in hex
unfoldable pub passes : Test → List ℕ → Bool
passes Any v = true
passes (Below limit) v = ltb (get_or v 0 0) limit
passes NotZero v = not (is_zero v)
passes OpenList v = eqb (get_or v 0 0) 21 || (eqb (get_or v 0 0) 23 || eqb (get_or v 0 0) 25)

-- v is a value that a field of the encoding may have: "a length not the stated one, above its limit or not of whole entries is unreadable"; so is
-- "a class number of 128 or an attribute number of 256 or more"
unfoldable pub accepts : Encoding → List ℕ → Bool
accepts (Plain len test) v = eqb (length v) len && passes test v
accepts (Number table) v = eqb (length v) 2 && ltb (big_endian 2 0 v) (limit table)
accepts (Counted least most) v = leb least (length v) && leb (length v) most
accepts (Arcs most) v = eqb (length v % 4) 0 && leb (length v / 4) most
accepts (Entries table) v = not (eqb (length v) 0) && (eqb (length v % 2) 0 && rises_below (limit table) 0 (entries v))

-- the bytes that a value is stored as
unfoldable pub image : Encoding → List ℕ → List ℕ
image (Plain len test) v = v
image (Number table) v = big_endian 2 0 v ∷ []
image (Counted least most) v = length v ∷ padded most v
image (Arcs most) v = (length v / 4) ∷ padded (most * 4) v
image (Entries table) v = set_of (set_width table) (among (entries v))

-- how many bytes these are
unfoldable pub room : Encoding → ℕ
room (Plain len test) = len
room (Number table) = 1
room (Counted least most) = most + 1
room (Arcs most) = most * 4 + 1
room (Entries table) = set_width table

-- the value that stored bytes stand for
unfoldable pub stored : Encoding → List ℕ → List ℕ
stored (Plain len test) cell = cell
stored (Number table) cell = big_endian_bytes 2 (get_or cell 0 0)
stored (Counted least most) cell = part 1 (get_or cell 0 0) cell
stored (Arcs most) cell = part 1 (get_or cell 0 0 * 4) cell
stored (Entries table) cell = entry_bytes (members_from 0 cell)

-- the bytes can be stored: a number below its limit, a count within its limits and zeros behind what is counted, a set with some member
unfoldable pub holds : Encoding → List ℕ → Bool
holds (Plain len test) cell = passes test cell
holds (Number table) cell = ltb (get_or cell 0 0) (limit table)
holds (Counted least most) cell = leb least (get_or cell 0 0) && (leb (get_or cell 0 0) most && is_zero (drop (get_or cell 0 0 + 1) cell))
holds (Arcs most) cell = leb (get_or cell 0 0) most && is_zero (drop (get_or cell 0 0 * 4 + 1) cell)
holds (Entries table) cell = not (is_empty cell)

-- the numbers of an encoding are small enough for its cell: a count fits a byte. A number of either table does, and an entry fits two
unfoldable pub sound : Encoding → Bool
sound (Plain len test) = leb len 254
sound (Number table) = true
sound (Counted least most) = leb most 253
sound (Arcs most) = leb most 63
sound (Entries table) = true

-- no value is stored as zeros: a field of such an encoding may be absent with no mark
unfoldable pub skippable : Encoding → Bool
skippable (Plain len Any) = false
skippable (Plain len (Below limit)) = false
skippable (Plain len NotZero) = true
skippable (Plain len OpenList) = false
skippable (Number table) = false
skippable (Counted least most) = ltb 0 least
skippable (Arcs most) = false
skippable (Entries table) = true
