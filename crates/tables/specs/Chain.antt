-- The chain of superclasses. Document 01: "The chain of superclasses from a class up to row 0".
use Rattle.std.specs.Prelude.{◌≡◌, ℕ, suc}
use Rattle.schema.specs.ClassRow.{superclass_of}
use Rattle.schema.specs.Store.{Table}

-- the chain from c up to row 0 has k steps, each from a class of which Step holds
pub data Chain (t : Table) (Step : ℕ → Type 0) : ℕ → ℕ → Type 0 where
  top : Chain t Step 0 0
  up : {c k : ℕ} → ¬ (c ≡ 0) → Step c → Chain t Step (superclass_of (t.row c)) k → Chain t Step c (suc k)
