-- Laws of tagged fields: each case of reading one, from the facts that a test leaves; and that what is written is read back.
use Rattle.std.specs.Prelude.{◌≡◌, Bool, true, false, ℕ, suc, ◌+◌, ◌-◌, ◌<◌, ◌≤◌, eqb, leb, get_or, set, take, drop, Err}
use Rattle.std.proofs.Math.Path.{refl, ap}
use Rattle.std.proofs.Common.{sym, ◌∙◌, arith, leb-true, eq-eqb, ne_eqb, le-leb}
use mathlib.Core.List.{List, [], ◌∷◌, ◌++◌, append_assoc}
use Rattle.std.proofs.Math.ListN.{length, length-append}
use Rattle.std.proofs.Math.Seq.{get_or_at, take-length}
use Rattle.std.proofs.lemmas.Bool.{lt-leb}
use Rattle.prelude.specs.Part.{part, splice}
use Rattle.prelude.specs.PartLaws.{part_add, part_cons, part_between, part_length}
use Rattle.prelude.specs.SpliceLaws.{splice_length, splice_append, set_then_splice}
use Rattle.prelude.specs.LentLaws.{lent_front}
use Rattle.prelude.specs.BigEndian.{big_endian, big_endian_bytes}
use Rattle.prelude.specs.BigEndianLaws.{bytes_length, number_of_bytes, bytes_of_number}
use Rattle.wire.specs.FieldRead.{Field, End, Bad}
use Rattle.wire.specs.declared.Field as declared
use Rattle.wire.specs.declared.BadField.{BadField}
use Rattle.wire.specs.Wire.{value_end, field_at, header_bytes, field_bytes}

-- ---- the four cases of reading a field, for the code

pub field_end : (s : List ℕ) (at end : ℕ) → at ≡ end → End ≡ field_at s at end
unfolding field_at
field_end s at end h = simp (eq-eqb at end h)

pub field_short : (s : List ℕ) (at end : ℕ) → at < end → end < at + 3 → Bad at ≡ field_at s at end
unfolding field_at
field_short s at end h k = simp (ne_eqb at end (omega arith), lt-leb (at + 3) end k)

pub field_past : (s : List ℕ) (at end n : ℕ) → n ≡ big_endian 2 (at + 1) s → at + 3 ≤ end → end < at + 3 + n → Bad at ≡ field_at s at end
unfolding field_at
field_past s at end n e h k = simp (ne_eqb at end (omega arith), le-leb (at + 3) end h, ← e, lt-leb (at + 3 + n) end k)

pub field_whole : (s : List ℕ) (at end n : ℕ) → n ≡ big_endian 2 (at + 1) s → at + 3 + n ≤ end → Field (get_or s at 0) (at + 3) (at + 3 + n) ≡ field_at s at end
unfolding field_at
field_whole s at end n e k = simp (ne_eqb at end (omega arith), le-leb (at + 3) end (omega arith), ← e, le-leb (at + 3 + n) end k)

-- ---- what a field that is bad is: it is told by its tag

pub field_bad : (s : List ℕ) (at end : ℕ) (bad : BadField) → field_at s at end ≡ Err bad → bad.at ≡ at
unfolding field_at
field_bad s at end bad e = go (eqb at end) refl (leb (at + 3) end) refl (leb (value_end s at) end) refl
  where
    same : Bad at ≡ Err bad → bad.at ≡ at
    same e = let is : ◌≡◌ {A = BadField} (record { at = at }) bad = cc in sym (ap (λ (x : BadField). x.at) is)

    go : (x : Bool) → eqb at end ≡ x → (y : Bool) → leb (at + 3) end ≡ y → (z : Bool) → leb (value_end s at) end ≡ z → bad.at ≡ at
    go true p y q z r = let no : ◌≡◌ {A = ℕ} 0 1 = cc in absurd (omega arith)
    go false p true q true r = let no : ◌≡◌ {A = ℕ} 0 1 = cc in absurd (omega arith)
    go false p true q false r = same (rw (p, q, r) at e)
    go false p false q z r = same (rw (p, q) at e)

-- ---- what a whole field is, for whoever reads one

-- what is read once is one field
pub one_field : {tag start stop tag' start' stop' : ℕ} → Field tag start stop ≡ Field tag' start' stop' → (tag ≡ tag') × (start ≡ start') × (stop ≡ stop')
one_field {tag} {start} {stop} {tag'} {start'} {stop'} e =
    let f : declared.Field = record { tag = tag; start = start; end = stop } in
    let g : declared.Field = record { tag = tag'; start = start'; end = stop' } in
    let same : f ≡ g = cc in
    (ap (λ (x : declared.Field). x.tag) same, ap (λ (x : declared.Field). x.start) same, ap (λ (x : declared.Field). x.end) same)

pub record Whole (s : List ℕ) (at end tag start stop : ℕ) : Type 0 where
  pub tag_is : tag ≡ get_or s at 0
  pub start_is : start ≡ at + 3
  pub stop_is : stop ≡ at + 3 + big_endian 2 (at + 1) s
  pub within : stop ≤ end

pub field_is : (s : List ℕ) (at end tag start stop : ℕ) → field_at s at end ≡ Field tag start stop → Whole s at end tag start stop
unfolding field_at
field_is s at end tag start stop e = go (eqb at end) refl (leb (at + 3) end) refl (leb (value_end s at) end) refl
  where
    go : (x : Bool) → eqb at end ≡ x → (y : Bool) → leb (at + 3) end ≡ y → (z : Bool) → leb (value_end s at) end ≡ z → Whole s at end tag start stop
    go true p y q z r = let no : ◌≡◌ {A = ℕ} 0 1 = cc in absurd (omega arith)
    go false p false q z r = let no : ◌≡◌ {A = ℕ} 0 1 = cc in absurd (omega arith)
    go false p true q false r = let no : ◌≡◌ {A = ℕ} 0 1 = cc in absurd (omega arith)
    go false p true q true r =
        let here : Field (get_or s at 0) (at + 3) (value_end s at) ≡ Field tag start stop = rw (p, q, r) at e in
        let f = one_field (sym here) in
        record { tag_is = f.0; start_is = f.1; stop_is = f.2; within = omega (arith, leb-true (value_end s at) end r, f.2) }

-- ---- what is written is read back, with any bytes before and after

pub header_length : (tag n : ℕ) → length (header_bytes tag n) ≡ 3
unfolding header_bytes
header_length tag n = ap suc (bytes_length 2 n)

pub field_length : (tag : ℕ) (v : List ℕ) → length (field_bytes tag v) ≡ 3 + length v
unfolding field_bytes
field_length tag v = length-append (header_bytes tag (length v)) v ∙ ap (λ (k : ℕ). k + length v) (header_length tag (length v))

module _ (p q : List ℕ) (tag : ℕ) (v : List ℕ) where
  tag_at : get_or (p ++ (field_bytes tag v ++ q)) (length p) 0 ≡ tag
  unfolding field_bytes header_bytes
  tag_at = get_or_at p tag (big_endian_bytes 2 (length v) ++ v ++ q) 0 (length p) refl

  apart : p ++ (field_bytes tag v ++ q) ≡ (p ++ (tag ∷ [])) ++ (big_endian_bytes 2 (length v) ++ (v ++ q))
  unfolding field_bytes header_bytes
  apart = simp append_assoc

  -- the length stands behind the tag
  length_at : length v < 65536 → big_endian 2 (length p + 1) (p ++ (field_bytes tag v ++ q)) ≡ length v
  length_at h =
      let before : length (p ++ (tag ∷ [])) ≡ length p + 1 = length-append p (tag ∷ []) in
      rw (← before, apart) (number_of_bytes 2 (length v) (p ++ (tag ∷ [])) (v ++ q) h)

  pub field_read : (end : ℕ) → length v < 65536 → length p + 3 + length v ≤ end
      → field_at (p ++ (field_bytes tag v ++ q)) (length p) end ≡ Field tag (length p + 3) (length p + 3 + length v)
  field_read end h k = sym (ap (λ (t : ℕ). Field t (length p + 3) (length p + 3 + length v)) (sym tag_at)
      ∙ field_whole (p ++ (field_bytes tag v ++ q)) (length p) end (length v) (sym (length_at h)) k)

  pub value_read_lem : part (length p + 3) (length v) (p ++ (field_bytes tag v ++ q)) ≡ v
  unfolding field_bytes
  value_read_lem =
      let before : length (p ++ header_bytes tag (length v)) ≡ length p + 3 = length-append p (header_bytes tag (length v))
      ∙ ap (λ (k : ℕ). length p + k) (header_length tag (length v)) in
      let apart : p ++ ((header_bytes tag (length v) ++ v) ++ q) ≡ (p ++ header_bytes tag (length v)) ++ (v ++ q) = simp append_assoc in
      rw apart (part_between (p ++ header_bytes tag (length v)) v q (length p + 3) (length v) before refl)

-- ---- what is read is what would be written

pub field_back : (s : List ℕ) (at end tag start stop : ℕ) → ((i : ℕ) → get_or s i 0 < 256) → end ≤ length s → field_at s at end ≡ Field tag start stop
    → part at (stop - at) s ≡ field_bytes tag (part start (stop - start) s)
unfolding field_bytes header_bytes
field_back s at end tag start stop bytes l e =
    let w = field_is s at end tag start stop e in
    let n : ℕ = big_endian 2 (at + 1) s in
    let whole : stop - at ≡ 2 + n + 1 = omega arith in
    let value : stop - start ≡ n = omega arith in
    let behind : at + 1 + 2 ≡ start = omega arith in
    let long : length (part start n s) ≡ n = part_length start n s (omega arith) in
    rw (
      whole,
      value,
      w.tag_is,
      part_cons at (2 + n) s (omega arith),
      part_add (at + 1) 2 n s,
      behind,
      long,
      bytes_of_number s bytes 2 (at + 1)
          (omega arith),
    )

-- ---- writing a field, for the code

-- the tag stored, and then the length
pub header_written : (at tag n : ℕ) (d e : List ℕ) → at + 3 ≤ length d → e ≡ splice (at + 1) (big_endian_bytes 2 n) (set d at tag) → e
    ≡ splice at (header_bytes tag n) d
unfolding header_bytes
header_written at tag n d e h q = q ∙ set_then_splice at tag (big_endian_bytes 2 n) d (omega (arith, bytes_length 2 n))

-- the header written, and then the value copied into the rest
pub field_written : (at tag : ℕ) (v d e back : List ℕ) → at + 3 + length v ≤ length d → e ≡ splice at (header_bytes tag (length v)) d
    → back ≡ take (length v) v ++ drop (length v) (take (length e - (at + 3)) (drop (at + 3) e))
    → take (at + 3) e ++ (back ++ drop (length e - (at + 3)) (drop (at + 3) e)) ≡ splice at (field_bytes tag v) d
unfolding field_bytes
field_written at tag v d e back h q b =
    let head : List ℕ = header_bytes tag (length v) in
    let three : length head ≡ 3 = header_length tag (length v) in
    let fits : at + length head ≤ length d = omega arith in
    let long : length e ≡ length d = ap length q ∙ splice_length at head d fits in
    lent_front (at + 3) e back v (omega arith) (rw (take-length v) at b) ∙ ap (splice (at + 3) v) q
    ∙ ap (λ (n : ℕ). splice (at + n) v (splice at head d)) (sym three) ∙ splice_append at head d fits v
