-- The closure store after a change, from the sets that it kept. Document 01: "An added class gets the union of its superclass's and auxiliaries' kept
-- sets, its own lists and itself. An added auxiliary or optional attribute is joined in for every class whose kept reach holds the target. After a
-- removal those are worked out afresh from the rows".
use Rattle.std.specs.Prelude.{ltb, ℕ, ◌*◌, Bool, ◌&&◌, ◌≡◌, cond, List, ◌++◌}
use denote.Ref.{MutBor}
use Rattle.prelude.specs.Below.{any_below}
use Rattle.prelude.specs.Concat.{concat_below}
use Rattle.prelude.specs.Part.{part, splice, zeros}
use Rattle.sets.specs.Sets.{member, set_of, union, with_member}
use Rattle.schema.specs.Layout.{class_set, attribute_set, closure_width, reached_at, allowed_at}
use Rattle.schema.specs.Numbers.{class_limit}
use Rattle.schema.specs.ClassRow.{mandatory_of, fixed_optional_of, open_optional_of}
use Rattle.schema.specs.Store.{Table, closure_at}
use Rattle.graph.specs.Graph.{closure_row, inherits}

-- ---- every class whose kept reach holds a class

-- a function that is called at a row leaves another
abbrev pub LeavesRow : (MutBor (List ℕ) → Unit {0} → MutBor (List ℕ) → Type 0) → List ℕ → List ℕ → Type 0
LeavesRow post old new = (row left : MutBor (List ℕ)) → row.now ≡ old → post row tt left → left.now ≡ new

-- class c is one of n, and its kept reach, of its kept sets, holds class k
unfoldable pub holds : ℕ → ℕ → ℕ → List ℕ → Bool
holds n k c row = ltb c n && member (part reached_at class_set row) k

-- the kept sets of class c, where such classes get what f gives
unfoldable pub row_where : ℕ → ℕ → (ℕ → List ℕ → List ℕ) → List ℕ → ℕ → List ℕ
row_where n k f closure c = cond (holds n k c (closure_at closure c)) (f c (closure_at closure c)) (closure_at closure c)

-- the closure store then
unfoldable pub each_holding : ℕ → ℕ → (ℕ → List ℕ → List ℕ) → List ℕ → List ℕ
each_holding n k f closure = splice 0 (concat_below class_limit (row_where n k f closure)) closure

-- sets joined in
unfoldable pub joined_into : ℕ → ℕ → List ℕ → List ℕ → List ℕ
joined_into n k more closure = each_holding n k (λ c row. union row more) closure

-- sets worked out afresh
unfoldable pub refreshed_at : Table → ℕ → ℕ → List ℕ → List ℕ
refreshed_at t n k closure = each_holding n k (λ c row. closure_row t c) closure

-- ---- what is joined in

-- an attribute that becomes optional: the kept sets of a class that allows it alone
unfoldable pub option_row : ℕ → List ℕ
option_row b = zeros allowed_at ++ with_member b (zeros attribute_set)

-- class n itself, and its own lists
unfoldable pub own_row : ℕ → List ℕ → List ℕ
own_row n row = with_member n (zeros class_set) ++ (mandatory_of row ++ union (fixed_optional_of row) (open_optional_of row))

-- the union of the kept sets of the classes that class n names as superclass or auxiliary
unfoldable pub named_sets : Table → List ℕ → ℕ → List ℕ
named_sets t closure n = set_of closure_width (λ b. any_below class_limit (λ y. inherits t n y && member (closure_at closure y) b))

-- the kept sets of an added class
unfoldable pub new_row : Table → List ℕ → ℕ → List ℕ
new_row t closure n = union (named_sets t closure n) (own_row n (t.row n))

unfoldable pub with_new : Table → ℕ → List ℕ → List ℕ
with_new t n closure = splice (closure_width * n) (new_row t closure n) closure
