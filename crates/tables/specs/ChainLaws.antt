-- A chain of superclasses says less of its steps.
use Rattle.std.specs.Prelude.{ℕ}
use Rattle.schema.specs.Store.{Table}
use Rattle.tables.specs.Chain.{Chain, top, up}

pub chain_map : {t : Table} {P Q : ℕ → Type 0} → ((c : ℕ) → P c → Q c) → {c k : ℕ} → Chain t P c k → Chain t Q c k
chain_map f top = top
chain_map f (up {c} d p r) = up d (f c p) (chain_map f r)
