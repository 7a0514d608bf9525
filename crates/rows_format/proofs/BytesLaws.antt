-- A value of bytes is stored as bytes.
use Rattle.std.specs.Prelude.{◌≡◌, true, List, [], ℕ, ◌*◌, ◌/◌, length}
use Rattle.std.proofs.Common.{arith}
use Rattle.prelude.specs.BytesLaws.{no_bytes, cons_bytes, append_bytes, padded_bytes}
use Rattle.prelude.specs.SaysLaws.{says_le}
use Rattle.prelude.specs.Part.{padded, Bytes}
use Rattle.prelude.specs.BigEndian.{big_endian}
use Rattle.sets.specs.SetsLaws.{set_bytes}
use Rattle.prelude.specs.Unlike.{among}
use Rattle.schema.specs.NumbersLaws.{limit_most}
use Rattle.schema.specs.Layout.{set_width}
use Rattle.rows_format.specs.Entries.{entries}
use Rattle.rows_format.specs.Encodings.{image, sound}
use Rattle.rows_format.specs.EncodingsLaws.{Accepts}
use Rattle.rows_format.specs.Columns.{lead, takes, cell_of, Sound}
use Rattle.rows_format.proofs.ColumnsLaws.{takes_accepts}
use Rattle.rows_format.specs.declared.column.Encoding.{Encoding}
use Rattle.rows_format.specs.declared.column.Encoding.TheVariants.{Plain, Number, Counted, Arcs, Entries}
use Rattle.rows_format.specs.declared.column.Presence.{Presence}
use Rattle.rows_format.specs.declared.column.Presence.TheVariants.{Required, Optional, Marked, Never}
use Rattle.rows_format.specs.declared.column.Column.{Column}

-- a count or number that is accepted fits a byte
pub image_bytes : (encoding : Encoding) (v : List ℕ) → sound encoding ≡ true → Bytes v → Accepts encoding v → Bytes (image encoding v)
unfolding sound image
image_bytes (Plain len test) v s b a = b
image_bytes (Number table) v s b a = cons_bytes (big_endian 2 0 v) [] (omega (arith, a.1, limit_most table)) no_bytes
image_bytes (Counted least most) v s b a = cons_bytes (length v) (padded most v) (omega (arith, a.1, (says_le most 253).holds s)) (padded_bytes most v b)
image_bytes (Arcs most) v s b a = cons_bytes (length v / 4) (padded (most * 4) v) (omega (arith, a.1, (says_le most 63).holds s))
    (padded_bytes (most * 4) v b)
image_bytes (Entries table) v s b a = set_bytes (set_width table) (among (entries v))

lead_bytes : (p : Presence) → Bytes (lead p)
unfolding lead
lead_bytes Required = no_bytes
lead_bytes Optional = no_bytes
lead_bytes Marked = cons_bytes 1 [] (omega arith) no_bytes
lead_bytes Never = no_bytes

pub cell_bytes : (r : Column) (v : List ℕ) → Sound r → Bytes v → takes r v ≡ true → Bytes (cell_of r v)
unfolding cell_of
cell_bytes r v s b h = append_bytes (lead r.presence) (image r.encoding v) (lead_bytes r.presence)
    (image_bytes r.encoding v s.encoding b (takes_accepts r v h))
