-- What visiting a class and walking its auxiliaries add to a set of classes visited before. With nothing visited before, a visit gives what the
-- class reaches (`visited_none`).
use Rattle.std.specs.Prelude.{Bool, cond, not, ◌&&◌, ◌||◌, List, ℕ}
use Rattle.prelude.specs.Below.{any_below, first_below}
use Rattle.sets.specs.Sets.{member, from}
use Rattle.schema.specs.Store.{Table}
use Rattle.tables.specs.Named.{lists}
use Rattle.tables.specs.declared.named.ClassList.TheVariants.{Auxiliaries}
use Rattle.graph.specs.Graph.{reaches_by, inherits}
use Rattle.schema.specs.declared.number.ClassNumber.{ClassNumber}
use Rattle.std.specs.Prelude.{Option, Some, None}

-- e between classes that are not in s
unfoldable pub avoiding : (ℕ → Bool) → (ℕ → ℕ → Bool) → ℕ → ℕ → Bool
avoiding s e x y = not (s x) && (not (s y) && e x y)

-- c reaches x over classes that are not in s, c and x included
unfoldable pub reaches_past : Table → (ℕ → Bool) → ℕ → ℕ → Bool
reaches_past t s c x = not (s c) && reaches_by t.count (avoiding s (inherits t)) c x

-- s after a visit of c
unfoldable pub after_visit : Table → (ℕ → Bool) → ℕ → ℕ → Bool
after_visit t s c k = s k || reaches_past t s c k

-- s after a walk of c's auxiliaries from number i on
unfoldable pub after_walk : Table → (ℕ → Bool) → ℕ → ℕ → ℕ → Bool
after_walk t s c i k = s k || any_below t.count (λ d. from i (lists Auxiliaries (t.row c)) d && reaches_past t s d k)

-- ---- what a walk looks for next

-- d is in one of two sets, and not in the set of visited ones
unfoldable pub unvisited_in : List ℕ → List ℕ → List ℕ → ℕ → Bool
unvisited_in fixed other seen d = (member fixed d || member other d) && not (member seen d)

-- the first number below n that passes p
unfoldable pub first_class : ℕ → (ℕ → Bool) → Option ClassNumber
first_class n p = cond (any_below n p) (Some (record { 0 = first_below n p })) None

-- the first auxiliary of c from number i on that has a row and is not visited
unfoldable pub next_unvisited : Table → (ℕ → Bool) → ℕ → ℕ → Option ClassNumber
next_unvisited t s c i = first_class t.count (from i (λ d. lists Auxiliaries (t.row c) d && not (s d)))
