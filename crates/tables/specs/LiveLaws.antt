-- What the test of a live row says.
use Rattle.std.specs.Prelude.{List, ℕ}
use Rattle.prelude.specs.Says.{Says}
use Rattle.prelude.specs.SaysLaws.{says}
use Rattle.schema.specs.Store.{Table}
use Rattle.tables.specs.Live.{live, Live}

pub says_live : (t : Table) (naming : List ℕ) (n : ℕ) → Says (live t naming n) (Live t naming n)
unfolding live
says_live t naming n = search says
