-- The longest text fits.
use mathlib.Core.List.{List}
use Prim.Native.Nat.{ℕ, ◌+◌, ◌*◌, ◌^◌, ◌≤◌, ◌<◌}
use native.Mathlib.Omega.{arith}
use lib.ListN.{length}
use Rattle.prelude.specs.Part.{part, Bytes}
use Rattle.prelude.specs.PartLaws.{part_bytes, part_short}
use Rattle.prelude.specs.BigEndianLaws.{number_small}
use Rattle.prelude.specs.ConcatLaws.{concat_short}
use Rattle.sets.specs.Sets.{member, member_count}
use Rattle.sets.specs.CountLaws.{count_le}
use Rattle.schema.specs.declared.answer.Answer.{Answer}
use Rattle.schema.specs.Numbers.{class_limit}
use Rattle.schema.specs.Layout.{name_limit, identifier_at, arc_width, arc_limit, attribute_set, demanded_at, allowed_at, rows_at, row_width}
use Rattle.schema.specs.Row.{name_length, name_of, arc_count, arc_of}
use Rattle.schema.specs.Store.{table_in, closure_at}
use Rattle.schema.specs.declared.number.TableId.TheVariants.{Classes}
use Rattle.tables.specs.Shaped.{Bounded, TableShaped}
use Rattle.list_text.specs.Text.{decimal}
use Rattle.list_text.specs.TextLaws.{decimal_short}
use Rattle.list_text.specs.Listing.{kept_count, kept_counts, arc_text, identifier_text, class_line, class_lines, line_length}
use Rattle.list_text.specs.Listing.{refused_line, text_length}
use Rattle.list_text.proofs.Lines.{dot_short, class_length, refused_length}

name_short : (row : List ℕ) → name_length row ≤ name_limit → length (name_of row) ≤ name_limit
name_short row h = omega (arith, (part_short 1 (name_length row) row).0)

arc_short : (row : List ℕ) (k : ℕ) → Bytes row → length (arc_text row k) ≤ 11
arc_short row k b = omega (arith, dot_short row k, decimal_short 9 (arc_of row k) (omega (arith, number_small row b 4 (identifier_at + 1 + arc_width * k))))

identifier_short : (row : List ℕ) → Bytes row → arc_count row ≤ arc_limit → length (identifier_text row) ≤ 11 * arc_limit
unfolding identifier_text
identifier_short row b h = omega (arith, concat_short (arc_text row) 11 (arc_count row) (λ k l. arc_short row k b))

-- a set of attributes has at most three digits of members
count_short : (at : ℕ) (closure : List ℕ) (c : ℕ) → length (decimal (kept_count at closure c)) ≤ 3
unfolding kept_count member_count
count_short at closure c =
    let set : List ℕ = part at attribute_set (closure_at closure c) in
    decimal_short 2 _ (omega (arith, count_le (length set * 8) (member set), (part_short at attribute_set (closure_at closure c)).0))

module _ (classes closure : List ℕ) (bytes : Bytes classes) (shaped : TableShaped Classes classes) where
  line_short : (c : ℕ) → c < (table_in Classes classes).count → length (class_line (kept_counts closure) (table_in Classes classes) c) ≤ line_length
  line_short c l =
      let row : List ℕ = (table_in Classes classes).row c in
      let bounded : Bounded Classes row = shaped.bounded c l in
      omega (
        arith,
        class_length (kept_counts closure) (table_in Classes classes) c,
        decimal_short 2 c (omega (arith, shaped.few)),
        name_short row bounded.name,
        identifier_short row (part_bytes (rows_at + row_width Classes * c) (row_width Classes) classes bytes) bounded.arcs,
        count_short demanded_at closure c,
        count_short allowed_at closure c,
      )

  pub lines_short : length (class_lines (kept_counts closure) (table_in Classes classes)) ≤ line_length * class_limit
  unfolding class_lines
  lines_short = omega (
    arith,
    concat_short (class_line (kept_counts closure) (table_in Classes classes)) line_length (table_in Classes classes).count
        line_short,
    shaped.few,
  )

pub refused_short : (a : Answer) → a.number < 256 → a.table < 256 → a.place < 2 ^ 64 → length (refused_line a) ≤ text_length
refused_short a n t p = omega (
  arith,
  refused_length a,
  decimal_short 2 a.number (omega arith),
  decimal_short 2 a.table (omega arith),
  decimal_short 19 a.place (omega arith),
)
