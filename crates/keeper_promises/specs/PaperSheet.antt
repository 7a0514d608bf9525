-- Document 01's own sheet: "A whole sheet, 67 bytes". `paper_sheet_lem` (PaperSheetLaws) shows that it is accepted, loaded and written back, so that what the
-- promises ask for (`Acceptable`, `InOrder`, `ExactSheet`) is seen to be had.
use Rattle.std.specs.Prelude.{List, ◌++◌, ◌≡◌, ℕ, ◌≤◌, length}
use Rattle.prelude.specs.Part.{Bytes, splice}
use Rattle.schema.specs.Answers.{done, passed}
use Rattle.schema.specs.Store.{LongEnough, Stores}
use Rattle.sheet_round_trip.specs.Exact.{ExactSheet}
use Rattle.keeper.specs.Load.{load}
use Rattle.keeper.specs.Write.{write, written}
use Rattle.keeper_promises.specs.PaperTables.{hex}
use Rattle.keeper_promises.specs.Promises.{Acceptable, InOrder}

unfoldable pub paper_sheet : List ℕ
paper_sheet =
    (hex "01000101" ++ hex "30003C")
    ++ (hex "010003746F70"
    ++ (hex "02001000000002000000050000000600000000"
    ++ (hex "03001011111111111111111111111111111111"
    ++ (hex "04000400000010" ++ (hex "10000102" ++ hex "1100020000")))))

pub record PaperSheet : Type 0 where
  pub bytes : Bytes paper_sheet
  pub long : length paper_sheet ≡ 67
  pub accepted : Acceptable paper_sheet
  pub exact : ExactSheet paper_sheet
  -- loaded into any stores long enough: "for a load 0, 0", and they are in order
  pub loads : (s : Stores) → LongEnough s → (load paper_sheet s).answer ≡ passed
  pub order : (s : Stores) → LongEnough s → InOrder (load paper_sheet s).left
  -- and written back byte for byte, into any output with room: "for a write 0 and the length"
  pub writes : (s : Stores) (out : List ℕ) → LongEnough s → 67 ≤ length out
      → write (load paper_sheet s).left out ≡ written (done 67) (splice 0 paper_sheet out)
