-- Laws of the encodings. A value that is accepted is stored as the bytes of a cell, these can be stored, and they stand for the value; bytes that can
-- be stored stand for a value that is accepted, and are what it is stored as.
use Rattle.std.specs.Prelude.{◌≡◌, true, false, drop, take}
use Rattle.std.proofs.Math.Path.{refl}
use Rattle.std.proofs.Common.{ap, ◌∙◌, add-one, length-drop, take-append-drop, length-take-le}
use Rattle.std.proofs.lemmas.Bool.{false≢true}
use mathlib.Core.List.{List, [], ◌∷◌, append-nil}
use Prim.Native.Nat.{ℕ, ◌+◌, ◌-◌, ◌*◌, ◌/◌, ◌%◌, ◌≤◌, ◌<◌}
use native.Mathlib.Omega.{arith}
use Rattle.std.proofs.Math.ListN.{length, get_or}
use Rattle.std.proofs.Math.Seq.{take-append_seam, drop-append_seam}
use Rattle.prelude.specs.BytesLaws.{digits_bytes}
use Rattle.prelude.specs.Says.{Says}
use Rattle.prelude.specs.SaysLaws.{says_and, says_not, says_eq, says_le, says_lt, says_false, says_fails, says_test, says_not_test}
use Rattle.prelude.specs.Part.{part, padded, zeros, is_zero, Bytes}
use Rattle.prelude.specs.PartLaws.{part_length, part_all, part_bytes, padded_length, zeros_at, says_zero, zeros_zero, zero_zeros, part_short, length_nil}
use Rattle.prelude.specs.BigEndian.{big_endian, big_endian_bytes}
use Rattle.prelude.specs.BigEndianLaws.{bytes_length, number_of_bytes, bytes_of_number}
use Rattle.sets.specs.Sets.{set_of, bit, is_empty, members_from}
use Rattle.sets.specs.SetsLaws.{set_length, says_empty, bit_zeros}
use Rattle.schema.specs.Numbers.{limit}
use Rattle.schema.specs.NumbersLaws.{limit_most}
use Rattle.schema.specs.Layout.{set_width}
use Rattle.schema.specs.LayoutLaws.{set_bits}
use Rattle.schema.specs.declared.number.TableId.{TableId}
use Rattle.prelude.specs.Unlike.{among}
use Rattle.rows_format.specs.Entries.{entries, entry_bytes}
use Rattle.rows_format.specs.EntriesLaws.{RisesBelow, says_rises, entry_length, entry_bytes_lem, entries_of_bytes, bytes_of_entries, members_of_set}
use Rattle.rows_format.specs.EntriesLaws.{set_of_members, members_rise, members_few, some_member, some_entry}
use Rattle.rows_format.specs.Encodings.{passes, accepts, image, room, stored, holds, sound, skippable}
use Rattle.rows_format.specs.declared.column.Test.TheVariants.{Any, Below, NotZero, OpenList}
use Rattle.rows_format.specs.declared.column.Encoding.{Encoding}
use Rattle.rows_format.specs.declared.column.Encoding.TheVariants.{Plain, Number, Counted, Arcs, Entries}

-- numbers of a table are those that its sets can hold
rise_in_set : (t : TableId) (xs : List ℕ) → RisesBelow (limit t) 0 xs → RisesBelow (set_width t * 8) 0 xs
rise_in_set t xs h = rw (set_bits t) h

set_rises : (t : TableId) (cell : List ℕ) → length cell ≡ set_width t → RisesBelow (limit t) 0 (members_from 0 cell)
set_rises t cell l = rw (set_bits t) at (members_rise (set_width t) cell l)

pub room_small : (encoding : Encoding) → sound encoding ≡ true → room encoding ≤ 254
unfolding sound room
room_small (Plain len test) h = (says_le len 254).holds h
room_small (Number table) h = omega arith
room_small (Counted least most) h = omega (arith, (says_le most 253).holds h)
room_small (Arcs most) h = omega (arith, (says_le most 63).holds h)
room_small (Entries table) h = omega (arith, set_bits table, limit_most table)

-- ---- what an encoding accepts, as statements

abbrev pub Accepts : Encoding → List ℕ → Type 0
Accepts (Plain len test) v = (length v ≡ len) × (passes test v ≡ true)
Accepts (Number table) v = (length v ≡ 2) × (big_endian 2 0 v < limit table)
Accepts (Counted least most) v = (least ≤ length v) × (length v ≤ most)
Accepts (Arcs most) v = (length v % 4 ≡ 0) × (length v / 4 ≤ most)
Accepts (Entries table) v = ¬ (length v ≡ 0) × ((length v % 2 ≡ 0) × RisesBelow (limit table) 0 (entries v))

pub says_accepts : (encoding : Encoding) (v : List ℕ) → Says (accepts encoding v) (Accepts encoding v)
unfolding accepts
says_accepts (Plain len test) v = says_and (says_eq (length v) len) (says_test (passes test v))
says_accepts (Number table) v = says_and (says_eq (length v) 2) (says_lt (big_endian 2 0 v) (limit table))
says_accepts (Counted least most) v = says_and (says_le least (length v)) (says_le (length v) most)
says_accepts (Arcs most) v = says_and (says_eq (length v % 4) 0) (says_le (length v / 4) most)
says_accepts (Entries table) v = says_and (says_not (says_eq (length v) 0)) (says_and (says_eq (length v % 2) 0) (says_rises (limit table) 0 (entries v)))

-- which bytes can be stored
abbrev pub Holds : Encoding → List ℕ → Type 0
Holds (Plain len test) cell = passes test cell ≡ true
Holds (Number table) cell = get_or cell 0 0 < limit table
Holds (Counted least most) cell = (least ≤ get_or cell 0 0) × ((get_or cell 0 0 ≤ most) × (is_zero (drop (get_or cell 0 0 + 1) cell) ≡ true))
Holds (Arcs most) cell = (get_or cell 0 0 ≤ most) × (is_zero (drop (get_or cell 0 0 * 4 + 1) cell) ≡ true)
Holds (Entries table) cell = is_empty cell ≡ false

pub says_holds : (encoding : Encoding) (cell : List ℕ) → Says (holds encoding cell) (Holds encoding cell)
unfolding holds
says_holds (Plain len test) cell = says_test (passes test cell)
says_holds (Number table) cell = says_lt (get_or cell 0 0) (limit table)
says_holds (Counted least most) cell = says_and (says_le least (get_or cell 0 0))
    (says_and (says_le (get_or cell 0 0) most) (says_test (is_zero (drop (get_or cell 0 0 + 1) cell))))
says_holds (Arcs most) cell = says_and (says_le (get_or cell 0 0) most) (says_test (is_zero (drop (get_or cell 0 0 * 4 + 1) cell)))
says_holds (Entries table) cell = says_not_test (is_empty cell)

-- ---- a value behind its count

counted_value : (b n m : ℕ) (v : List ℕ) → n ≡ length v → part 1 n (b ∷ padded m v) ≡ v
unfolding part padded
counted_value b n m v e = rw e (take-append_seam v (zeros (m - length v)))

counted_padding : (b n m : ℕ) (v : List ℕ) → n ≡ length v → is_zero (drop (n + 1) (b ∷ padded m v)) ≡ true
unfolding padded
counted_padding b n m v e = rw (add-one n, e, drop-append_seam v (zeros (m - length v))) (zeros_zero (m - length v))

counted_whole : (b n m : ℕ) (cell : List ℕ) → length cell ≡ m + 1 → get_or cell 0 0 ≡ b → n ≤ m → is_zero (drop (n + 1) cell) ≡ true
    → b ∷ padded m (part 1 n cell) ≡ cell
unfolding padded part
counted_whole b n m [] l e h z = absurd (omega arith)
counted_whole b n m (x ∷ cell) l e h z =
    let lt : length (take n cell) ≡ n = length-take-le n cell (omega arith) in
    let ld : length (drop n cell) ≡ m - n = simp length-drop (omega arith) in
    let rest : drop n cell ≡ zeros (m - n) = zero_zeros (m - n) (drop n cell) ld (rw (add-one n) at z) in
    rw (lt, ← rest, take-append-drop n cell, e)

-- ---- a value and its cell

-- a value that is accepted fills the cell
pub image_length : (encoding : Encoding) (v : List ℕ) → Accepts encoding v → length (image encoding v) ≡ room encoding
unfolding image room
image_length (Plain len test) v h = h.0
image_length (Number table) v h = refl
image_length (Counted least most) v h = omega (arith, padded_length most v h.1)
image_length (Arcs most) v h = omega (arith, padded_length (most * 4) v (omega arith))
image_length (Entries table) v h = set_length (set_width table) (among (entries v))

-- the cell stands for it
pub stored_image : (encoding : Encoding) (v : List ℕ) → Bytes v → Accepts encoding v → stored encoding (image encoding v) ≡ v
unfolding image stored
stored_image (Plain len test) v b h = refl
stored_image (Number table) v b h = bytes_of_number v b 2 0 (omega arith) ∙ part_all 2 v (omega arith)
stored_image (Counted least most) v b h = counted_value (length v) (length v) most v refl
stored_image (Arcs most) v b h = counted_value (length v / 4) (length v / 4 * 4) (most * 4) v (omega arith)
stored_image (Entries table) v b h =
    ap entry_bytes (members_of_set (set_width table) (entries v) (rise_in_set table (entries v) h.1.1)) ∙ bytes_of_entries v b h.1.0

-- and can be stored
no_entries : (v : List ℕ) → length v % 2 ≡ 0 → entries v ≡ [] → length v ≡ 0
unfolding entries
no_entries [] h e = refl
no_entries (x ∷ []) h e = absurd (omega arith)
no_entries (x ∷ y ∷ v) h e = let no : ◌≡◌ {A = ℕ} 0 1 = cc in absurd (omega arith)

some_entries : (t : TableId) (v : List ℕ) → Accepts (Entries t) v → is_empty (set_of (set_width t) (among (entries v))) ≡ false
some_entries t v h = some_member (set_width t) (entries v) (rise_in_set t (entries v) h.1.1) (λ e. h.0 (no_entries v h.1.0 e))

pub image_holds : (encoding : Encoding) (v : List ℕ) → Accepts encoding v → Holds encoding (image encoding v)
unfolding image
image_holds (Plain len test) v h = h.1
image_holds (Number table) v h = h.1
image_holds (Counted least most) v h = (h.0, (h.1, counted_padding (length v) (length v) most v refl))
image_holds (Arcs most) v h = (omega arith, counted_padding (length v / 4) (length v / 4 * 4) (most * 4) v (omega arith))
image_holds (Entries table) v h = some_entries table v h

-- ---- a cell and its value

-- a value has at most sixteen bytes for each byte of its cell, or two
pub stored_bound : (encoding : Encoding) (cell : List ℕ) → length (stored encoding cell) ≤ 2 + 16 * length cell
unfolding stored
stored_bound (Plain len test) cell = omega arith
stored_bound (Number table) cell = omega (arith, bytes_length 2 (get_or cell 0 0))
stored_bound (Counted least most) cell = omega (arith, (part_short 1 (get_or cell 0 0) cell).1)
stored_bound (Arcs most) cell = omega (arith, (part_short 1 (get_or cell 0 0 * 4) cell).1)
stored_bound (Entries table) cell = omega (arith, entry_length (members_from 0 cell), members_few cell)

-- so the cells that there are hold short ones
pub stored_short : (encoding : Encoding) (cell : List ℕ) → sound encoding ≡ true → length cell ≡ room encoding → length (stored encoding cell) < 65536
stored_short encoding cell o l = omega (arith, stored_bound encoding cell, room_small encoding o)

module _ (cell : List ℕ) (b : Bytes cell) where
  pub accepts_stored : (encoding : Encoding) → sound encoding ≡ true → length cell ≡ room encoding → Holds encoding cell
      → Accepts encoding (stored encoding cell)
  unfolding stored room sound
  accepts_stored (Plain len test) o l h = (l, h)
  accepts_stored (Number table) o l h =
      let x : ℕ = get_or cell 0 0 in
      let number : big_endian 2 0 (big_endian_bytes 2 x) ≡ x = rw (append-nil (big_endian_bytes 2 x)) at (number_of_bytes 2 x [] [] (omega (arith, b 0))) in
      (bytes_length 2 x, rw number h)
  accepts_stored (Counted least most) o l h =
      let n : length (part 1 (get_or cell 0 0) cell) ≡ get_or cell 0 0 = part_length 1 (get_or cell 0 0) cell (omega (arith, h.1.0)) in
      rw n (h.0, h.1.0)
  accepts_stored (Arcs most) o l h =
      let n : length (part 1 (get_or cell 0 0 * 4) cell) ≡ get_or cell 0 0 * 4 = part_length 1 (get_or cell 0 0 * 4) cell (omega (arith, h.0)) in
      rw n (omega arith, omega (arith, h.0))
  accepts_stored (Entries table) o l h =
      let xs : List ℕ = members_from 0 cell in
      let r : RisesBelow (limit table) 0 xs = set_rises table cell l in
      let n : length (entry_bytes xs) ≡ length xs * 2 = entry_length xs in
      let back : entries (entry_bytes xs) ≡ xs = entries_of_bytes xs (λ k m. omega (arith, r.1 k m, limit_most table)) in
      (λ z. some_entry cell h (length_nil xs (omega arith)), (omega arith, rw back r))

  pub image_stored : (encoding : Encoding) → sound encoding ≡ true → length cell ≡ room encoding → Holds encoding cell
      → image encoding (stored encoding cell) ≡ cell
  unfolding stored room sound image
  image_stored (Plain len test) o l h = refl
  image_stored (Number table) o l h =
      let x : ℕ = get_or cell 0 0 in
      let number : big_endian 2 0 (big_endian_bytes 2 x) ≡ x = rw (append-nil (big_endian_bytes 2 x)) at (number_of_bytes 2 x [] [] (omega (arith, b 0))) in
      rw number (one_byte cell l)
    where
      one_byte : (s : List ℕ) → length s ≡ 1 → get_or s 0 0 ∷ [] ≡ s
      one_byte [] e = absurd (omega arith)
      one_byte (x ∷ []) e = refl
      one_byte (x ∷ y ∷ s) e = absurd (omega arith)
  image_stored (Counted least most) o l h =
      let n : length (part 1 (get_or cell 0 0) cell) ≡ get_or cell 0 0 = part_length 1 (get_or cell 0 0) cell (omega (arith, h.1.0)) in
      rw n (counted_whole (get_or cell 0 0) (get_or cell 0 0) most cell l refl h.1.0 h.1.1)
  image_stored (Arcs most) o l h =
      let n : length (part 1 (get_or cell 0 0 * 4) cell) ≡ get_or cell 0 0 * 4 = part_length 1 (get_or cell 0 0 * 4) cell (omega (arith, h.0)) in
      let q : get_or cell 0 0 * 4 / 4 ≡ get_or cell 0 0 = omega arith in
      rw (n, q) (counted_whole (get_or cell 0 0) (get_or cell 0 0 * 4) (most * 4) cell l refl (omega (arith, h.0)) h.1)
  image_stored (Entries table) o l h =
      let xs : List ℕ = members_from 0 cell in
      let r : RisesBelow (limit table) 0 xs = set_rises table cell l in
      let back : entries (entry_bytes xs) ≡ xs = entries_of_bytes xs (λ k m. omega (arith, r.1 k m, limit_most table)) in
      rw back (set_of_members (set_width table) cell l b)

  pub stored_bytes : (encoding : Encoding) → Bytes (stored encoding cell)
  unfolding stored
  stored_bytes (Plain len test) = b
  stored_bytes (Number table) = digits_bytes 2 (get_or cell 0 0)
  stored_bytes (Counted least most) = part_bytes 1 (get_or cell 0 0) cell b
  stored_bytes (Arcs most) = part_bytes 1 (get_or cell 0 0 * 4) cell b
  stored_bytes (Entries table) = entry_bytes_lem (members_from 0 cell)

-- ---- values that are never stored as zeros

pub image_nonzero : (encoding : Encoding) (v : List ℕ) → skippable encoding ≡ true → Accepts encoding v → is_zero (image encoding v) ≡ false
unfolding skippable image passes
image_nonzero (Plain len Any) v s h = absurd (false≢true s)
image_nonzero (Plain len (Below limit)) v s h = absurd (false≢true s)
image_nonzero (Plain len NotZero) v s h = (says_not_test (is_zero v)).holds h.1
image_nonzero (Plain len OpenList) v s h = absurd (false≢true s)
image_nonzero (Number table) v s h = absurd (false≢true s)
image_nonzero (Counted least most) v s h =
    says_false (says_zero (length v ∷ padded most v))
    (λ e. omega (arith, ap (λ (x : List ℕ). get_or x 0 0) e, zeros_at (length (length v ∷ padded most v)) 0, (says_lt 0 least).holds s, h.0))
image_nonzero (Arcs most) v s h = absurd (false≢true s)
image_nonzero (Entries table) v s h =
    let set : List ℕ = set_of (set_width table) (among (entries v)) in
    says_false (says_zero set) (λ e. says_fails (says_empty set) (some_entries table v h) (λ k. ap (λ (x : List ℕ). bit x k) e ∙ bit_zeros (length set) k))
