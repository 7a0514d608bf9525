-- Rule 29 depends only on the rows that the table holds.
use Rattle.std.specs.Prelude.{Bool, not, ◌&&◌, List, ◌≡◌, ℕ}
use Rattle.std.proofs.Common.{ap, ap₂}
use Rattle.schema.specs.Store.{Table}
use Rattle.tables.specs.Same.{Same}
use Rattle.tables.specs.SameLaws.{any_same, live_same}
use Rattle.rules_attribute.specs.Links.{is_back_link, is_forward_of, forward_missing}

pub forward_missing_same : {a b : Table} → Same a b → (row : List ℕ) → forward_missing a row ≡ forward_missing b row
unfolding forward_missing
forward_missing_same s row =
    ap (λ (q : Bool). is_back_link row && not q) (any_same s _ _ (λ j l. ap₂ (λ (p q : Bool). p && q) (ap (is_forward_of row) (s.rows j l)) (live_same s row j)))
