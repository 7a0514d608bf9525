-- What is stored, as the code stores it.
use mathlib.Core.Bool.{true}
use mathlib.Core.List.{List, [], ◌∷◌, ◌++◌, append-nil}
use mathlib.Core.Path.{◌≡◌, refl, ap, ◌∙◌}
use Prim.Native.Nat.{ℕ, suc, ◌+◌, ◌-◌, ◌*◌, ◌/◌, ◌%◌, ◌≤◌, ◌<◌}
use native.Mathlib.Omega.{arith}
use lib.ListN.{length, take, drop, set, length-set, length-drop, length-take, length-append}
use lib.Seq.{take-length, drop-length}
use Rattle.prelude.specs.Part.{splice, zeros, padded}
use Rattle.prelude.specs.SaysLaws.{says_le}
use Rattle.prelude.specs.BigEndian.{big_endian}
use Rattle.prelude.specs.LentLaws.{lent_back, lent_cleared}
use Rattle.sets.specs.Sets.{set_of}
use Rattle.schema.specs.Numbers.{limit}
use Rattle.schema.specs.NumbersLaws.{limit_most}
use Rattle.schema.specs.Layout.{set_width}
use Rattle.schema.specs.LayoutLaws.{set_bits}
use Rattle.schema.specs.declared.number.TableId.{TableId}
use Rattle.rows_format.specs.declared.column.Presence.{Presence}
use Rattle.rows_format.specs.declared.column.Presence.TheVariants.{Required, Optional, Marked, Never}
use Rattle.rows_format.specs.declared.column.Column.{Column}
use Rattle.rows_format.specs.declared.column.Test.{Test}
use Rattle.rows_format.specs.declared.column.Encoding.{Encoding}
use Rattle.rows_format.specs.declared.column.Encoding.TheVariants.{Plain, Number, Counted, Arcs, Entries}
use Rattle.prelude.specs.Unlike.{among}
use Rattle.rows_format.specs.Entries.{entries, rises_below}
use Rattle.rows_format.specs.EntriesLaws.{says_rises}
use Rattle.rows_format.specs.Encodings.{accepts, image, room, sound}
use Rattle.rows_format.specs.EncodingsLaws.{Accepts, says_accepts}
use Rattle.rows_format.specs.Columns.{lead, mark, cell_of}

-- a count stored, and then the rest of the cell as it came back
pub counted_stored : (b : ℕ) (v cell back : List ℕ) → length v + 1 ≤ length cell
    → back ≡ padded (length (take (length (set cell 0 b) - 1) (drop 1 (set cell 0 b)))) v
    → take 1 (set cell 0 b) ++ (back ++ drop (length (set cell 0 b) - 1) (drop 1 (set cell 0 b))) ≡ b ∷ padded (length cell - 1) v
counted_stored b v [] back h e = absurd (omega arith)
counted_stored b v (x ∷ cell) back h e =
    let n : suc (length cell) - 1 ≡ length cell = omega arith in
    let long : length (take (length cell) cell) ≡ length cell = ap length (take-length cell) in
    rw (n, drop-length cell, append-nil) (ap (λ (t : List ℕ). b ∷ t) (rw (n, long) at e))

-- a cell that is lent to be cleared, by a width that was computed
pub cell_cleared : (at w n : ℕ) (row back : List ℕ) → w ≡ n → at + n ≤ length row → back ≡ zeros (length (take (at + w - at) (drop at row)))
    → take at row ++ (back ++ drop (at + w - at) (drop at row)) ≡ splice at (zeros n) row
cell_cleared at w n row back e h q = let k : at + w ≤ length row = omega arith in lent_cleared at w row back k q ∙ ap (λ (m : ℕ). splice at (zeros m) row) e

-- all of a cell is copied
pub copied_whole : (v cell new : List ℕ) → length v ≡ length cell → new ≡ take (length v) v ++ drop (length v) cell → new ≡ v
copied_whole v cell new e q = q ∙ rw (take-length v, e, drop-length cell, append-nil)

-- the same, where the cell is a part that was lent
pub cell_copied : (at n : ℕ) (v row back : List ℕ) → length v ≡ n → at + n ≤ length row → back ≡ v
    → take at row ++ (back ++ drop (at + n - at) (drop at row)) ≡ splice at v row
cell_copied at n v row back e h q = lent_back at (at + n) row back v (omega arith) q

-- the length of a cell whose first byte was stored and whose rest was lent
pub rest_long : (b : ℕ) (cell : List ℕ) → 1 ≤ length cell → length (take (length (set cell 0 b) - 1) (drop 1 (set cell 0 b))) ≡ length cell - 1
rest_long b cell h = simp (length-take, length-drop, length-set) (omega arith)

pub rest_back : (b : ℕ) (cell back : List ℕ) → 1 ≤ length cell → length back ≡ length (take (length (set cell 0 b) - 1) (drop 1 (set cell 0 b)))
    → length (take 1 (set cell 0 b) ++ (back ++ drop (length (set cell 0 b) - 1) (drop 1 (set cell 0 b)))) ≡ length cell
rest_back b cell back h e = simp (length-append, length-take, length-drop, length-set) (omega (arith, rest_long b cell h))

-- ---- a cell, by whether a mark stands before the value

lead_none : (p : Presence) → ¬ (p ≡ Marked) → (lead p ≡ []) × (mark p ≡ 0)
unfolding lead mark
lead_none Required h = (refl, refl)
lead_none Optional h = (refl, refl)
lead_none Marked h = absurd (h refl)
lead_none Never h = (refl, refl)

pub marked_cell : (r : Column) (v : List ℕ) → r.presence ≡ Marked → (cell_of r v ≡ 1 ∷ image r.encoding v) × (mark r.presence ≡ 1)
unfolding cell_of lead mark
marked_cell r v h = rw h (refl, refl)

pub bare_cell : (r : Column) (v : List ℕ) → ¬ (r.presence ≡ Marked) → (cell_of r v ≡ image r.encoding v) × (mark r.presence ≡ 0)
unfolding cell_of
bare_cell r v h = let n = lead_none r.presence h in (ap (λ (l : List ℕ). l ++ image r.encoding v) n.0, n.1)

-- ---- a value in a cell of n bytes, by its encoding

pub record Storable (encoding : Encoding) (v : List ℕ) (n : ℕ) : Type 0 where
  pub sound : sound encoding ≡ true
  pub accepted : Accepts encoding v
  pub long : n ≡ room encoding

-- the encoding is known by the arm of a match
pub told : {encoding shape' : Encoding} (v : List ℕ) (n : ℕ) → encoding ≡ shape' → (sound encoding ≡ true) × (accepts encoding v ≡ true)
    × (n ≡ room encoding) → Storable shape' v n
told {encoding} {shape'} v n e h = record { sound = rw e at h.0; accepted = (says_accepts shape' v).holds (rw e at h.1); long = h.2 ∙ ap room e }

module _ {v : List ℕ} {n : ℕ} where
  pub plain_long : {len : ℕ} {test : Test} → Storable (Plain len test) v n → length v ≡ n
  unfolding room
  plain_long s = omega (arith, s.accepted.0, s.long)

  pub number_fits : {table : TableId} → Storable (Number table) v n → (length v ≡ 2) × (n ≡ 1) × (big_endian 2 0 v < 256)
  unfolding room
  number_fits {table} s = (s.accepted.0, s.long, omega (arith, s.accepted.1, limit_most table))

  pub counted_fits : {least most : ℕ} → Storable (Counted least most) v n → (length v + 1 ≤ n) × (length v < 256) × (n - 1 ≡ most)
  unfolding room sound
  counted_fits {least} {most} s = let m : most ≤ 253 = (says_le most 253).holds s.sound in
      (omega (arith, s.accepted.1, s.long), omega (arith, s.accepted.1), omega (arith, s.long))

  pub arcs_fit : {most : ℕ} → Storable (Arcs most) v n → (length v + 1 ≤ n) × (length v / 4 < 256) × (n - 1 ≡ most * 4)
  unfolding room sound
  arcs_fit {most} s =
      let m : most ≤ 63 = (says_le most 63).holds s.sound in
      let a : length v % 4 ≡ 0 = s.accepted.0 in
      let b : length v / 4 ≤ most = s.accepted.1 in
      (omega (arith, s.long), omega arith, omega (arith, s.long))

  pub entries_fit : {table : TableId} → Storable (Entries table) v n
      → (length v % 2 ≡ 0) × (rises_below (n * 8) 0 (entries v) ≡ true) × (n ≡ set_width table)
  unfolding room
  entries_fit {table} s =
      let bits : n * 8 ≡ limit table = omega (arith, s.long, set_bits table) in
      (s.accepted.1.0, rw bits ((says_rises (limit table) 0 (entries v)).passes s.accepted.1.1), s.long)

  module _ {encoding : Encoding} {new : List ℕ} where
    pub plain_image : {len : ℕ} {test : Test} → encoding ≡ Plain len test → Storable (Plain len test) v n → new ≡ v → new ≡ image encoding v
    unfolding image
    plain_image e s q = rw e q

    pub number_image : {table : TableId} → encoding ≡ Number table → Storable (Number table) v n → new ≡ big_endian 2 0 v ∷ [] → new ≡ image encoding v
    unfolding image
    number_image e s q = rw e q

    pub counted_image : {least most : ℕ} → encoding ≡ Counted least most → Storable (Counted least most) v n → new ≡ length v ∷ padded (n - 1) v → new
        ≡ image encoding v
    unfolding image
    counted_image e s q = rw e (q ∙ ap (λ (m : ℕ). length v ∷ padded m v) (counted_fits s).2)

    pub arcs_image : {most : ℕ} → encoding ≡ Arcs most → Storable (Arcs most) v n → new ≡ (length v / 4) ∷ padded (n - 1) v → new ≡ image encoding v
    unfolding image
    arcs_image e s q = rw e (q ∙ ap (λ (m : ℕ). (length v / 4) ∷ padded m v) (arcs_fit s).2)

    pub entries_image : {table : TableId} → encoding ≡ Entries table → Storable (Entries table) v n → new ≡ set_of n (among (entries v)) → new ≡ image encoding v
    unfolding image
    entries_image e s q = rw e (q ∙ ap (λ (m : ℕ). set_of m (among (entries v))) (entries_fit s).2)

-- a byte stored in a cell of one byte
pub one_stored : (x y : ℕ) (cell : List ℕ) → length cell ≡ 1 → x ≡ y → set cell 0 x ≡ y ∷ []
one_stored x y [] l e = absurd (omega arith)
one_stored x y (z ∷ []) l e = rw e
one_stored x y (z ∷ w ∷ cell) l e = absurd (omega arith)

-- a mark stored, and then the rest of the cell as it came back
pub marked_stored : (cell back new : List ℕ) → 1 ≤ length cell → length back ≡ length (take (length (set cell 0 1) - 1) (drop 1 (set cell 0 1))) → back ≡ new
    → take 1 (set cell 0 1) ++ (back ++ drop (length (set cell 0 1) - 1) (drop 1 (set cell 0 1))) ≡ 1 ∷ new
marked_stored [] back new h l e = absurd (omega arith)
marked_stored (x ∷ cell) back new h l e =
    let n : suc (length cell) - 1 ≡ length cell = omega arith in
    rw (n, drop-length cell, append-nil, e)

-- a cell that is lent to be stored, by a width that was computed
pub cell_stored : (at w : ℕ) (row back new : List ℕ) → w ≡ length new → back ≡ new → take at row ++ (back ++ drop (at + w - at) (drop at row))
    ≡ splice at new row
cell_stored at w row back new e q = lent_back at (at + w) row back new (ap (λ (m : ℕ). at + m) e) q
