-- Pieces written one after the other, by hand and by a loop.
use Rattle.std.specs.Prelude.{List, [], ◌++◌, ◌≡◌, ℕ, ◌+◌, ◌<◌, ◌≤◌, drop, length}
use Rattle.std.proofs.Common.{ap, sym, ◌∙◌, add-zero, arith, length-append}
use Rattle.prelude.specs.Part.{splice}
use Rattle.prelude.specs.SpliceLaws.{splice_length, splice_none, write_turn}
use Rattle.prelude.specs.Concat.{concat_below}
use Rattle.prelude.specs.ConcatLaws.{concat_more, concat_next_within, concat_none, concat_within}
use Rattle.prelude.specs.Written.{WrittenAt}

-- ---- one piece after the other

module _ {at : ℕ} {before : List ℕ} where
  pub written_length : {text after : List ℕ} {next : ℕ} → at + length text ≤ length before → WrittenAt text at next before after → length after
      ≡ length before
  written_length {text = text} h w = ap length w.bytes ∙ splice_length at text before h

  pub written_as : {u v after : List ℕ} {next : ℕ} → v ≡ u → WrittenAt u at next before after → WrittenAt v at next before after
  written_as e w = rw e w

  pub written_none : WrittenAt [] at at before before
  written_none = record { place = sym (add-zero at); bytes = sym (splice_none at before) }

  pub written_then : {u v mid after : List ℕ} {place next : ℕ} → at + length u ≤ length before → WrittenAt u at place before mid
      → WrittenAt v place next mid after → WrittenAt (u ++ v) at next before after
  written_then {u = u} {v = v} h p q = record {
    place = omega (arith, p.place, q.place, length-append u v);
    bytes = q.bytes ∙ write_turn at _ u v before _ h p.place p.bytes;
  }

-- what is written at the front lies within what was left
pub written_within : {text before after : List ℕ} {next : ℕ} → WrittenAt text 0 next before after → next ≤ length after
unfolding splice
written_within {text = text} {before = before} w = omega (arith, w.place, ap length w.bytes, length-append text (drop (0 + length text) before))

-- ---- the pieces of a loop

-- the first k of n pieces are written
pub record Writing (f : ℕ → List ℕ) (n at : ℕ) (before after : List ℕ) (next k : ℕ) : Type 0 where
  pub few : k ≤ n
  pub written : WrittenAt (concat_below k f) at next before after

module _ {f : ℕ → List ℕ} {n at : ℕ} {before : List ℕ} where
  pub writing_none : Writing f n at before before at 0
  writing_none = record { few = omega arith; written = written_as (concat_none f) written_none }

  module _ (fits : at + length (concat_below n f) ≤ length before) {after : List ℕ} {next k : ℕ} (w : Writing f n at before after next k) where
    pub writing_length : length after ≡ length before
    writing_length = written_length (omega (arith, concat_within f k n w.few)) w.written

    pub writing_room : k < n → next + length (f k) ≤ length after
    writing_room l = omega (arith, writing_length, w.written.place, concat_next_within f k n l)

    pub writing_more : {last : List ℕ} {behind : ℕ} → k < n → WrittenAt (f k) next behind after last → Writing f n at before last behind (k + 1)
    writing_more l p = record {
      few = omega arith;
      written = written_as (concat_more f k) (written_then (omega (arith, concat_next_within f k n l)) w.written p);
    }

    pub writing_done : n ≤ k → WrittenAt (concat_below n f) at next before after
    writing_done l =
        let e : n ≡ k = omega (arith, w.few) in
        written_as (ap (λ (m : ℕ). concat_below m f) e) w.written
