-- The round trips of whole sheets. Document 01: "Tables, sheet, tables gives the same bytes if in order; sheet, tables, sheet does if accepted and 08 stands
-- exactly where oMSyntax is 127."
use Rattle.std.specs.Prelude.{true, List, ◌≡◌, ℕ, ◌≤◌, length}
use Rattle.std.proofs.Common.{ap, ◌∙◌}
use Rattle.prelude.specs.SaysLaws.{says_and, says_test}
use Rattle.prelude.specs.Part.{part, Bytes}
use Rattle.schema.specs.declared.number.TableId.{TableId}
use Rattle.schema.specs.declared.number.TableId.TheVariants.{Attributes, Classes}
use Rattle.schema.specs.Layout.{store_length}
use Rattle.schema.specs.Store.{schema_in}
use Rattle.tables.specs.Filled.{filled_store}
use Rattle.tables.specs.Same.{SameRows}
use Rattle.sheet_read.specs.SheetRead.{Read}
use Rattle.sheet_read.specs.Reading.{Rows, rows, rows_in, schema_from, sheet_out, read_sheet}
use Rattle.sheet_read.specs.ReadingLaws.{Sound}
use Rattle.sheet_write.specs.Writing.{sheet_bytes}
use Rattle.sheet_write.specs.SameLaws.{sheet_same}
use Rattle.tables_shape.specs.Shape.{table_formed, stores_formed}
use Rattle.sheet_round_trip.specs.Exact.{ExactSheet}
use Rattle.sheet_round_trip.specs.HeldLaws.{rows_held, store_held, held_sound, held_same}
use Rattle.sheet_round_trip.specs.WrittenLaws.{rows_read_back}
use Rattle.sheet_round_trip.proofs.AcceptedLaws.{accepted_same}

-- ---- tables, sheet, tables

-- the rows that two stores hold
abbrev pub both_held : List ℕ → List ℕ → Rows
both_held a c = rows (rows_held Attributes a) (rows_held Classes c)

module _ (a c : List ℕ) (ba : Bytes a) (bc : Bytes c) (la : store_length Attributes ≤ length a) (lc : store_length Classes ≤ length c)
    (f : stores_formed a c ≡ true) where
  both_formed : (table_formed Attributes a ≡ true) × (table_formed Classes c ≡ true)
  unfolding stores_formed
  both_formed = (says_and (says_test (table_formed Attributes a)) (says_test (table_formed Classes c))).holds f

  both_sound : (t : TableId) → Sound t (rows_in t (both_held a c))
  both_sound Attributes = held_sound Attributes a ba la both_formed.0
  both_sound Classes = held_sound Classes c bc lc both_formed.1

  pub both_same : SameRows (schema_in a c) (schema_from (both_held a c))
  both_same Attributes = held_same Attributes a ba la both_formed.0
  both_same Classes = held_same Classes c bc lc both_formed.1

  -- stores in shape, written as a sheet: reading it gives the rows that they hold
  pub written_read : read_sheet (sheet_bytes (schema_in a c)) ≡ sheet_out Read (both_held a c)
  written_read = ap read_sheet (sheet_same both_same) ∙ rows_read_back (both_held a c) both_sound

  -- and these are the stores, byte for byte
  pub stores_held : (part 0 (store_length Attributes) a ≡ filled_store Attributes (rows_held Attributes a))
      × (part 0 (store_length Classes) c ≡ filled_store Classes (rows_held Classes c))
  stores_held = (store_held Attributes a ba la both_formed.0, store_held Classes c bc lc both_formed.1)

-- ---- sheet, tables, sheet

-- a sheet that is accepted, with 08 exactly where oMSyntax is 127, is what its rows are written as
pub read_written : (s : List ℕ) → Bytes s → ExactSheet s → (read_sheet s).answer ≡ Read → sheet_bytes (schema_from (read_sheet s).rows) ≡ s
read_written s bytes exact = accepted_same s bytes exact
