-- Byte strings whose first n bytes are the same: what lies within these is the same in both.
use Rattle.std.specs.Prelude.{◌≡◌, List, ℕ, ◌+◌, ◌≤◌, ◌<◌, get_or}
use Rattle.std.proofs.Common.{sym, ap, ◌∙◌, arith}
use Rattle.prelude.specs.Part.{part}
use Rattle.prelude.specs.PartLaws.{part_at, part_part}
use Rattle.prelude.specs.BigEndian.{big_endian}
use Rattle.prelude.specs.BigEndianLaws.{number_in_part}

module _ (n : ℕ) (a b : List ℕ) (front : part 0 n a ≡ part 0 n b) where
  pub front_byte : (i : ℕ) → i < n → get_or a i 0 ≡ get_or b i 0
  front_byte i l =
      let e : 0 + i ≡ i = omega arith in
      rw e at (sym (part_at 0 n a i l) ∙ ap (λ (s : List ℕ). get_or s i 0) front ∙ part_at 0 n b i l)

  pub front_number : (m i : ℕ) → i + m ≤ n → big_endian m i a ≡ big_endian m i b
  front_number m i h =
      let e : 0 + i ≡ i = omega arith in
      rw e at (sym (number_in_part m i 0 n a h) ∙ ap (big_endian m i) front ∙ number_in_part m i 0 n b h)

  pub front_part : (i m : ℕ) → i + m ≤ n → part i m a ≡ part i m b
  front_part i m h =
      let e : 0 + i ≡ i = omega arith in
      rw e at (sym (part_part 0 n a i m h) ∙ ap (part i m) front ∙ part_part 0 n b i m h)
