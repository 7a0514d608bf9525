-- The closure of all classes at once, by Warshall's rule. At stage k a class has come to what walks whose numbers in between are all below k lead to, and
-- has the lists of those among them that are below k, and its own. With all classes in between allowed it is the closure (`stage_end`).
use Rattle.std.specs.Prelude.{Bool, cond, ◌&&◌, ◌||◌, List, ◌++◌, ℕ, eqb, ltb}
use Rattle.prelude.specs.Below.{any_below}
use Rattle.prelude.specs.Concat.{concat_below}
use Rattle.prelude.specs.Part.{part}
use Rattle.sets.specs.Sets.{member, set_of, union}
use Rattle.schema.specs.Numbers.{class_limit}
use Rattle.schema.specs.Layout.{class_set, attribute_set, reached_at}
use Rattle.schema.specs.Store.{Table}
use Rattle.graph.specs.Walk.{via}
use Rattle.graph.specs.Graph.{inherits, lists_mandatory, lists_optional}

-- c names d, and both have a row
unfoldable pub steps_to : Table → ℕ → ℕ → Bool
steps_to t c d = ltb c t.count && (ltb d t.count && inherits t c d)

-- at stage k, c has come to x
unfoldable pub comes_to : Table → ℕ → ℕ → ℕ → Bool
comes_to t k c x = ltb c t.count && via k (steps_to t) c x

-- at stage k, c has the lists of x
unfoldable pub gathers_from : Table → ℕ → ℕ → ℕ → Bool
gathers_from t k c x = ltb c t.count && (eqb x c || (ltb x k && via k (steps_to t) c x))

-- at stage k, c has b, which classes list by the test o
unfoldable pub gathers : Table → (ℕ → ℕ → Bool) → ℕ → ℕ → ℕ → Bool
gathers t o k c b = any_below t.count (λ x. gathers_from t k c x && o x b)

-- the three sets of c at stage k, side by side
unfoldable pub stage_row : Table → ℕ → ℕ → List ℕ
stage_row t k c =
    set_of class_set (comes_to t k c) ++ (set_of attribute_set (gathers t (lists_mandatory t) k c) ++ set_of attribute_set (gathers t (lists_optional t) k c))

-- those of all classes
unfoldable pub stage_rows : Table → ℕ → List ℕ
stage_rows t k = concat_below class_limit (stage_row t k)

-- the three sets of a class after class k, whose sets are given, has passed on what it has
unfoldable pub passed_row : ℕ → List ℕ → List ℕ → List ℕ
passed_row k own row = cond (member (part reached_at class_set row) k) (union row own) row
