-- Why a value cannot be a field's: one case for each reason that document 01 gives, said of its bytes. `unfit` and `unfit_field` (UnfitLaws) join it to
-- the tests that the code is proved against.
use Rattle.std.specs.Prelude.{List, ◌≡◌, ℕ, suc, ◌*◌, ◌≤◌, ◌<◌, get_or, length}
use Rattle.prelude.specs.BigEndian.{big_endian}
use Rattle.schema.specs.Numbers.{limit}
use Rattle.schema.specs.declared.number.TableId.{TableId}
use Rattle.rows_format.specs.declared.column.Column.{Column}
use Rattle.rows_format.specs.declared.column.Test.{Test}
use Rattle.rows_format.specs.declared.column.Test.TheVariants.{Below, NotZero, OpenList}
use Rattle.rows_format.specs.declared.column.Encoding.{Encoding}
use Rattle.rows_format.specs.declared.column.Encoding.TheVariants.{Plain, Number, Counted, Arcs, Entries}
use Rattle.rows_format.specs.declared.column.Presence.TheVariants.{Never}

-- "two bytes an entry": a whole entry i stands in the value
abbrev pub HasEntry : List ℕ → ℕ → Type 0
HasEntry v i = suc i * 2 ≤ length v

-- and is this number
abbrev pub entry_of : List ℕ → ℕ → ℕ
entry_of v i = big_endian 2 (i * 2) v

pub data Unfit : Encoding → List ℕ → Type 0 where
  -- "a length not the stated one"
  not_as_long : {len : ℕ} {test : Test} {v : List ℕ} → ¬ (length v ≡ len) → Unfit (Plain len test) v
  -- "Category over 3"
  category_over : {len limit : ℕ} {v : List ℕ} → limit ≤ get_or v 0 0 → Unfit (Plain len (Below limit)) v
  -- "0A and 0B ranges, 0C linkID, 0D mAPIID (4 bytes, the last two not zero)": the last two fields
  all_zero : {len : ℕ} {v : List ℕ} → ((i : ℕ) → i < length v → get_or v i 0 ≡ 0) → Unfit (Plain len NotZero) v
  -- "21 (one byte: 15, 17, 19)", in hex
  no_list : {len : ℕ} {v : List ℕ} → ¬ (get_or v 0 0 ≡ 0x15) → ¬ (get_or v 0 0 ≡ 0x17) → ¬ (get_or v 0 0 ≡ 0x19) → Unfit (Plain len OpenList) v
  -- "11 superclass; optional 12 rDNAttID", two bytes: "a length not the stated one"
  not_two_bytes : {table : TableId} {v : List ℕ} → ¬ (length v ≡ 2) → Unfit (Number table) v
  -- "a class number of 128 or an attribute number of 256 or more"
  number_over : {table : TableId} {v : List ℕ} → limit table ≤ big_endian 2 0 v → Unfit (Number table) v
  -- "08 oMObjectClass (not empty)"
  too_short : {least most : ℕ} {v : List ℕ} → length v < least → Unfit (Counted least most) v
  -- "a length .. above its limit": "display name (up to 64 bytes)", "oMObjectClass (up to 16 bytes)"
  too_long_lem : {least most : ℕ} {v : List ℕ} → most < length v → Unfit (Counted least most) v
  -- "02 arcs (4 bytes each)": "a length .. not of whole entries"
  part_of_arc : {most : ℕ} {v : List ℕ} → ((n : ℕ) → ¬ (length v ≡ n * 4)) → Unfit (Arcs most) v
  -- "object identifier (up to 16 arcs ..)": "a length .. above its limit"
  too_many_arcs : {most : ℕ} {v : List ℕ} → most * 4 < length v → Unfit (Arcs most) v
  -- "the seven sets .., two bytes an entry, strictly rising, not empty"
  no_entry : {table : TableId} {v : List ℕ} → length v ≡ 0 → Unfit (Entries table) v
  -- "a length .. not of whole entries"
  part_of_entry : {table : TableId} {v : List ℕ} → ((n : ℕ) → ¬ (length v ≡ n * 2)) → Unfit (Entries table) v
  -- "a class number of 128 or an attribute number of 256 or more"
  entry_over : {table : TableId} {v : List ℕ} (i : ℕ) → HasEntry v i → limit table ≤ entry_of v i → Unfit (Entries table) v
  -- "strictly rising"
  not_rising : {table : TableId} {v : List ℕ} (i : ℕ) → HasEntry v (suc i) → entry_of v (suc i) ≤ entry_of v i → Unfit (Entries table) v

-- a value that cannot be that of a column's field
pub data UnfitField (r : Column) (v : List ℕ) : Type 0 where
  -- "value as a row, no 05"
  never : r.presence ≡ Never → UnfitField r v
  value : Unfit r.encoding v → UnfitField r v
