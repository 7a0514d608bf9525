-- Unions over the rows of chosen classes: one row more, all rows, and that they give what a class demands and allows.
use mathlib.Core.Bool.{Bool, true, false, ◌&&◌, ◌||◌, or_assoc, or-false}
use mathlib.Core.List.{List}
use mathlib.Core.Path.{◌≡◌, sym, ap, ◌∙◌}
use Prim.Native.Nat.{ℕ, ◌+◌, ◌*◌, ◌≤◌, ◌<◌}
use native.Mathlib.Numerals.{add-one}
use native.Mathlib.Omega.{arith}
use lib.ListN.{length, get_or}
use Rattle.prelude.specs.Below.{any_below}
use Rattle.prelude.specs.BelowLaws.{any_cong}
use Rattle.prelude.specs.Part.{part, zeros}
use Rattle.sets.specs.Sets.{flag, member, set_of, union}
use Rattle.sets.specs.SetsLaws.{bit_flag, is_set, set_cong, member_within}
use Rattle.sets.specs.SideLaws.{member_zeros}
use Rattle.schema.specs.Numbers.{class_limit}
use Rattle.schema.specs.Layout.{class_set, attribute_set, mandatory_at}
use Rattle.schema.specs.Store.{Table}
use Rattle.graph.specs.Graph.{collects_by, lists_mandatory, reaches, demands, demanded_set}
use Rattle.graph.specs.Collect.{chosen_lists, collected, plus}

-- nothing added
plus_none : (out : List ℕ) → length out ≡ attribute_set → ((i : ℕ) → get_or out i 0 < 256) → out ≡ plus out (λ b. false)
unfolding plus
plus_none out l s = is_set out attribute_set (λ k. member out k || false) l s (λ k m. bit_flag out k ∙ ap flag (sym (or-false (member out k))))

-- ---- one row

module _ (t : Table) (chosen : ℕ → Bool) (at k : ℕ) (out : List ℕ) (long : length out ≡ attribute_set) where
  -- chosen: its set is joined in
  pub chosen_joined : (row p r : List ℕ) → chosen k ≡ true → row ≡ t.row k → p ≡ part at attribute_set row → r ≡ union out p → r
      ≡ plus out (chosen_lists t chosen at k)
  unfolding union plus chosen_lists
  chosen_joined row p r e w q u = rw (u, long, e, q, w)

  -- not chosen: nothing changes
  pub not_chosen : ((i : ℕ) → get_or out i 0 < 256) → chosen k ≡ false → out ≡ plus out (chosen_lists t chosen at k)
  unfolding plus chosen_lists
  not_chosen s e =
      plus_none out long s
      ∙ set_cong attribute_set (λ b. member out b || false) (λ b. member out b || (chosen k && member (part at attribute_set (t.row k)) b)) (λ b l. rw e)

-- ---- all rows

module _ (t : Table) (chosen : ℕ → Bool) (at : ℕ) where
  -- the first k rows
  abbrev pub Added : ℕ → List ℕ → List ℕ → Type 0
  Added k o out = out ≡ plus o (λ b. any_below k (λ j. chosen_lists t chosen at j b))

  pub add_none : (out : List ℕ) → length out ≡ attribute_set → ((i : ℕ) → get_or out i 0 < 256) → Added 0 out out
  unfolding any_below
  add_none out l s = plus_none out l s

  -- one row more
  pub add_more : (k : ℕ) (o out r : List ℕ) → Added k o out → r ≡ plus out (chosen_lists t chosen at k) → Added (k + 1) o r
  unfolding any_below plus
  add_more k o out r p q = q ∙ set_cong attribute_set (λ b. member out b || lists b k) (λ b. member o b || any_below (k + 1) (lists b)) each
    where
      lists : ℕ → ℕ → Bool
      lists b j = chosen_lists t chosen at j b

      each : (b : ℕ) → b < attribute_set * 8 → member out b || lists b k ≡ member o b || any_below (k + 1) (lists b)
      each b l =
          ap (λ (x : Bool). x || lists b k) (ap (λ (s : List ℕ). member s b) p ∙ member_within attribute_set (λ b. member o b || any_below k (lists b)) b l)
          ∙ or_assoc (member o b) (any_below k (lists b)) (lists b k)
          ∙ ap (λ (n : ℕ). member o b || any_below n (lists b)) (sym (add-one k))

  pub add_end : (k n : ℕ) (o out : List ℕ) → n ≡ t.count → k ≤ n → n ≤ k → Added k o out → out ≡ plus o (collected t chosen at)
  unfolding collected
  add_end k n o out e h g q = let z : k ≡ t.count = omega arith in q ∙ ap (λ (m : ℕ). plus o (λ b. any_below m (λ j. chosen_lists t chosen at j b))) z

  -- from an empty set
  pub from_empty : (o out : List ℕ) → o ≡ zeros attribute_set → out ≡ plus o (collected t chosen at) → out ≡ set_of attribute_set (collected t chosen at)
  unfolding plus
  from_empty o out z q = q ∙ set_cong attribute_set (λ b. member o b || collected t chosen at b) (collected t chosen at)
      (λ b l. rw (z, member_zeros attribute_set b))

-- ---- over the classes reached

module _ (t : Table) (c : ℕ) (s : List ℕ) (few : t.count ≤ class_limit) (reached : s ≡ set_of class_set (reaches t c)) where
  chosen_reached : (k : ℕ) → k < t.count → member s k ≡ reaches t c k
  chosen_reached k l = ap (λ (x : List ℕ). member x k) reached ∙ member_within class_set (reaches t c) k (omega arith)

  pub collected_demands : (b : ℕ) → collected t (member s) mandatory_at b ≡ demands t c b
  unfolding collected chosen_lists collects_by lists_mandatory
  collected_demands b = any_cong t.count _ _ (λ k l. ap (λ (x : Bool). x && member (part mandatory_at attribute_set (t.row k)) b) (chosen_reached k l))

  pub demanded_is : (out : List ℕ) → out ≡ set_of attribute_set (collected t (member s) mandatory_at) → out ≡ demanded_set t c
  unfolding demanded_set
  demanded_is out q = q ∙ set_cong attribute_set (collected t (member s) mandatory_at) (demands t c) (λ b l. collected_demands b)
