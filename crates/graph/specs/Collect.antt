-- What a set of classes lists.
use Rattle.std.specs.Prelude.{Bool, ◌&&◌, ◌||◌, List, ℕ}
use Rattle.prelude.specs.Below.{any_below}
use Rattle.prelude.specs.Part.{part}
use Rattle.sets.specs.Sets.{member, set_of}
use Rattle.schema.specs.Layout.{attribute_set}
use Rattle.schema.specs.Store.{Table}

-- class k is chosen and has b in the set at a place of its row
unfoldable pub chosen_lists : Table → (ℕ → Bool) → ℕ → ℕ → ℕ → Bool
chosen_lists t chosen at k b = chosen k && member (part at attribute_set (t.row k)) b

-- some chosen class has b in the set at a place of its row
unfoldable pub collected : Table → (ℕ → Bool) → ℕ → ℕ → Bool
collected t chosen at b = any_below t.count (λ k. chosen_lists t chosen at k b)

-- a set of attributes with those besides that pass f
unfoldable pub plus : List ℕ → (ℕ → Bool) → List ℕ
plus s f = set_of attribute_set (λ b. member s b || f b)
