-- Laws of what every row has. (R50) "Identifiers are equal if all arcs are, and as many": so it is, though their bytes are compared.
use Rattle.std.specs.Prelude.{List, ◌↔◌, ◌≡◌, ℕ, ◌+◌, ◌*◌, ◌<◌, length}
use Rattle.std.proofs.Common.{sym, ap, ◌∙◌, arith}
use Rattle.prelude.specs.PartLaws.{part_length}
use Rattle.prelude.specs.Concat.{concat_below}
use Rattle.prelude.specs.ConcatLaws.{concat_same, rows_concat}
use Rattle.prelude.specs.BigEndian.{big_endian, big_endian_bytes}
use Rattle.prelude.specs.BigEndianLaws.{bytes_of_number, number_in_part}
use Rattle.schema.specs.Layout.{identifier_at, arc_width}
use Rattle.schema.specs.Row.{arc_count, arc_of, identifier_of, HasArcs, SameArcs}

module _ {row : List ℕ} (h : HasArcs row) where
  identifier_length : length (identifier_of row) ≡ arc_width * arc_count row
  identifier_length = part_length (identifier_at + 1) (arc_width * arc_count row) row (omega (arith, h.long, h.few))

  -- the bytes are those of the arcs, one after the other
  pub identifier_is : identifier_of row ≡ concat_below (arc_count row) (λ k. big_endian_bytes arc_width (arc_of row k))
  identifier_is =
      rows_concat (identifier_at + 1) arc_width (arc_count row) row
      ∙ concat_same (arc_count row) _ _
      (λ k l. sym (bytes_of_number row h.bytes arc_width (identifier_at + 1 + arc_width * k) (omega (arith, h.long, h.few))))

  -- and each arc is read off them
  identifier_arc : (k : ℕ) → k < arc_count row → big_endian arc_width (arc_width * k) (identifier_of row) ≡ arc_of row k
  identifier_arc k l = number_in_part arc_width (arc_width * k) (identifier_at + 1) (arc_width * arc_count row) row (omega arith)

pub same_arcs : {a b : List ℕ} → HasArcs a → HasArcs b → (identifier_of a ≡ identifier_of b) ↔ SameArcs a b
same_arcs {a} {b} h k = (apart, joined)
  where
    apart : identifier_of a ≡ identifier_of b → SameArcs a b
    apart e =
        let n : arc_count a ≡ arc_count b = omega (arith, ap length e, identifier_length h, identifier_length k) in
        record { count = n; arcs = λ i l. sym (identifier_arc h i l) ∙ ap (big_endian arc_width (arc_width * i)) e ∙ identifier_arc k i (omega (arith, n)) }

    joined : SameArcs a b → identifier_of a ≡ identifier_of b
    joined s =
        identifier_is h ∙ concat_same (arc_count a) _ _ (λ i l. ap (big_endian_bytes arc_width) (s.arcs i l))
        ∙ ap (λ (n : ℕ). concat_below n (λ i. big_endian_bytes arc_width (arc_of b i))) s.count ∙ sym (identifier_is k)
