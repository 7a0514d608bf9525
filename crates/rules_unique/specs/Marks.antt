-- Marks of keys: rows that have the same key have the same mark. The code's way to tell in one pass that no key is taken; no promise speaks of it.
use Rattle.std.specs.Prelude.{Bool, false, not, cond, ◌&&◌, ◌||◌, List, ℕ, zero, suc, ◌+◌, ◌*◌, ◌%◌, eqb, length, get_or}
use Rattle.std.specs.Int.Bits.{bit_and}
use Rattle.prelude.specs.Below.{any_below}
use Rattle.sets.specs.Sets.{member}
use Rattle.schema.specs.declared.number.TableId.TheVariants.{Attributes, Classes}
use Rattle.schema.specs.Row.{name_of, identifier_of, guid_of}
use Rattle.schema.specs.AttributeRow.{link_of, mapi_of}
use Rattle.schema.specs.Store.{Schema}
use Rattle.rules_unique.specs.declared.Key.{Key}
use Rattle.rules_unique.specs.declared.Key.TheVariants.{Name, Identifier, Guid, Mapi, Link}
use Rattle.rules_unique.specs.Unique.{every_row, has_key, taken}

-- so many marks there are, and so many bytes hold them
abbrev pub mark_count : ℕ
mark_count = 16384

abbrev pub marks_width : ℕ
marks_width = 2048

-- what counts of a byte: all of it, or what a letter has in common with the other of its case
abbrev pub whole : ℕ
whole = 255

abbrev pub caseless : ℕ
caseless = 31

-- the mark of the first n bytes of s, of each of which only some digits count
unfoldable pub mark_of : ℕ → ℕ → List ℕ → ℕ
mark_of mask zero s = 0
mark_of mask (suc n) s = (mark_of mask n s * 31 + bit_and (get_or s n 0) mask) % mark_count

-- the mark of a row's key
unfoldable pub key_mark : Key → List ℕ → ℕ
key_mark Name row = mark_of caseless (length (name_of row)) (name_of row)
key_mark Identifier row = mark_of whole (length (identifier_of row)) (identifier_of row)
key_mark Guid row = mark_of whole (length (guid_of row)) (guid_of row)
key_mark Mapi row = mapi_of row % mark_count
key_mark Link row = link_of row % mark_count

-- a row has no value for the key: "0 is absent"
unfoldable pub absent : Key → List ℕ → Bool
absent Name row = false
absent Identifier row = false
absent Guid row = false
absent Mapi row = eqb (mapi_of row) 0
absent Link row = eqb (link_of row) 0

-- a row has the key, and its mark is among those met
unfoldable pub met : Key → List ℕ → ℕ → List ℕ → Bool
met key row mark marks = not (absent key row) && member marks mark

-- so many of these rows have the key
unfoldable pub place_count : Key → Schema → ℕ
place_count key m = m.attributes.count + cond (has_key key Classes) m.classes.count 0

-- some row of either table has the key of another
unfoldable pub any_taken : Key → Schema → Bool
any_taken key m = any_below m.attributes.count (taken every_row key m Attributes) || any_below m.classes.count (taken every_row key m Classes)
