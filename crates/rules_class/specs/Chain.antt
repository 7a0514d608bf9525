-- The chain of superclasses where rule 18 is met. Document 01: "Row 0 of the classes is its own superclass. Any other class has an earlier class for
-- superclass".
use Rattle.std.specs.Prelude.{ℕ, ◌≤◌, ◌<◌}
use Rattle.schema.specs.ClassRow.{superclass_of}
use Rattle.schema.specs.Store.{Table}
use Rattle.tables.specs.Chain.{Chain}

-- the chain from c up to row 0 has k steps, each from a class that has a row to an earlier one
abbrev pub SoundChain : Table → ℕ → ℕ → Type 0
SoundChain t = Chain t (λ c. (c < t.count) × (superclass_of (t.row c) < c))

-- there is such a chain, of at most as many steps as the number of the class says
pub record ChainEnds (t : Table) (c : ℕ) : Type 0 where
  pub steps : ℕ
  pub few : steps ≤ c
  pub chain : SoundChain t c steps
