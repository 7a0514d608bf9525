-- (R50) "Identifiers are equal if all arcs are, and as many.": rule 15 by arcs, though the bytes are compared.
use Rattle.std.specs.Prelude.{List, ℕ, ◌+◌, ◌*◌, ◌<◌}
use Rattle.std.proofs.Common.{arith}
use Rattle.prelude.specs.Says.{Says}
use Rattle.prelude.specs.SaysLaws.{says_iff}
use Rattle.prelude.specs.Part.{Bytes}
use Rattle.prelude.specs.PartLaws.{part_bytes}
use Rattle.schema.specs.declared.number.TableId.{TableId}
use Rattle.schema.specs.Layout.{rows_at, row_width}
use Rattle.schema.specs.Row.{HasArcs, SameArcs}
use Rattle.schema.specs.RowLaws.{same_arcs}
use Rattle.schema.specs.Store.{table_in}
use Rattle.tables.specs.Shaped.{TableShaped}
use Rattle.rules_unique.specs.declared.Key.TheVariants.{Identifier}
use Rattle.rules_unique.specs.Unique.{same_key}
use Rattle.rules_unique.proofs.UniqueLaws.{says_same_key, row_keyed}

-- two rows that have their arcs: identifiers are compared as arcs are
pub says_same_arcs : {a b : List ℕ} → HasArcs a → HasArcs b → Says (same_key Identifier a b) (SameArcs a b)
says_same_arcs {a} {b} h k = says_iff (says_same_key Identifier a b) (same_arcs h k)

-- every row of a shaped store has them
pub row_arcs : (t : TableId) (s : List ℕ) → TableShaped t s → Bytes s → (k : ℕ) → k < (table_in t s).count → HasArcs ((table_in t s).row k)
row_arcs t s h bytes k l = record {
  long = omega (arith, (row_keyed t s h k l).wide);
  few = (h.bounded k l).arcs;
  bytes = part_bytes (rows_at + row_width t * k) (row_width t) s bytes;
}
