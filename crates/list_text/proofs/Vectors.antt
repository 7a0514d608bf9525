-- Document 01's own listing, computed.
use mathlib.Core.List.{List, ◌∷◌, ◌++◌}
use mathlib.Core.Path.{◌≡◌, refl}
use Prim.Native.Nat.{ℕ}
use Rattle.prelude.specs.Part.{part, zeros, padded}
use Rattle.prelude.specs.BigEndian.{big_endian, big_endian_bytes}
use Rattle.prelude.specs.Concat.{concat_below}
use Rattle.sets.specs.Sets.{digit, bit, member, count_below, member_count}
use Rattle.schema.specs.Store.{Table}
use Rattle.list_text.specs.Text.{ascii, digits_within, decimal, word, text_line}
use Rattle.list_text.specs.Listing.{kept_count, kept_counts, arc_text, identifier_text, class_line, head_line, class_lines, listing}

-- numbers of one, two and ten digits
numbers_right : decimal 0 ++ (decimal 10 ++ decimal 4294967295) ≡ ascii "0104294967295"
unfolding decimal digits_within ascii
numbers_right = refl

-- the name and the identifier of the class `top`
top : List ℕ
top = (3 ∷ padded 64 (ascii "top")) ++ (4 ∷ (big_endian_bytes 4 2 ++ (big_endian_bytes 4 5 ++ (big_endian_bytes 4 6 ++ big_endian_bytes 4 0))))

abbrev one : Table
one = record { count = 1; row = λ k. top }

listing_right : listing (kept_counts (zeros 80)) one ≡ ascii "no name oid must may\n0 top 2.5.6.0 0 0\n"
unfolding top listing head_line class_lines class_line text_line word identifier_text arc_text kept_count decimal digits_within ascii concat_below
    member_count count_below member bit digit part zeros padded big_endian big_endian_bytes
listing_right = refl
