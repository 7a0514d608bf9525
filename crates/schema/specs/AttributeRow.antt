-- The rest of an attribute row. Document 01: "Attribute row also: attributeSyntax (last arc of 2.5.5.n), oMSyntax, oMObjectClass (up to 16 bytes),
-- single-valued or not, rangeLower and rangeUpper (signed, 32 bits, each may be absent), linkID and mAPIID (0 is absent)."
use Rattle.std.specs.Prelude.{Bool, cond, List, ℕ, ◌+◌, get_or}
use Rattle.prelude.specs.BigEndian.{big_endian}
use Rattle.schema.specs.Layout.{syntax_at, om_syntax_at, object_class_at, single_valued_at, range_lower_at, range_upper_at, link_at, mapi_at}
use Rattle.schema.specs.Row.{flag_at, counted_at}
use Rattle.std.specs.Prelude.{Option, Some, None}

abbrev pub syntax_of : List ℕ → ℕ
syntax_of row = get_or row syntax_at 0

abbrev pub om_syntax_of : List ℕ → ℕ
om_syntax_of row = get_or row om_syntax_at 0

abbrev pub object_class_length : List ℕ → ℕ
object_class_length row = get_or row object_class_at 0

abbrev pub object_class_of : List ℕ → List ℕ
object_class_of row = counted_at object_class_at row

abbrev pub is_single_valued : List ℕ → Bool
is_single_valued row = flag_at single_valued_at row

-- an end of a range: the four bytes of a signed number, or absent
unfoldable pub bound_at : ℕ → List ℕ → Option ℕ
bound_at at row = cond (flag_at at row) (Some (big_endian 4 (at + 1) row)) None

abbrev pub range_lower : List ℕ → Option ℕ
range_lower row = bound_at range_lower_at row

abbrev pub range_upper : List ℕ → Option ℕ
range_upper row = bound_at range_upper_at row

-- 0 is absent
abbrev pub link_of : List ℕ → ℕ
link_of row = big_endian 4 link_at row

abbrev pub mapi_of : List ℕ → ℕ
mapi_of row = big_endian 4 mapi_at row
