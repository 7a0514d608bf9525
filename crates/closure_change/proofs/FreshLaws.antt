-- Kept sets that were afresh are afresh after a change: what is worked out from them equals what is worked out from the rows.
use Rattle.std.proofs.Math.Dec.{eqb, ltb}
use Rattle.std.proofs.Math.ListN.{length}
use Rattle.std.proofs.Common.{arith, inl, inr, ◌∙◌}
use Rattle.std.proofs.Math.Decide.{ℕ_discrete}
use Prim.Native.Nat.{◌*◌, ◌+◌, ◌<◌, ◌≤◌, ℕ}
use Rattle.std.proofs.Math.Bool.{Bool, cond, or-false}
use Rattle.std.specs.Prelude.{◌&&◌, ◌||◌, false, true, ◌⊎◌, ◌≡◌, refl}
use mathlib.Core.List.{List}
use Rattle.std.proofs.Math.Path.{ap, ap₂, sym}
use Rattle.schema.specs.Numbers.{class_limit}
use Rattle.schema.specs.Layout.{attribute_set, class_set, class_width, closure_length, fixed_optional_at, mandatory_at, reached_at}
use Rattle.schema.specs.ClassRow.{fixed_optional_of, mandatory_of, open_auxiliary_of, open_optional_of}
use Rattle.schema.specs.Store.{Table, closure_at, plus_row, with_row}
use Rattle.schema.specs.StoreLaws.{plus_last}
use Rattle.prelude.specs.Below.{any_below}
use Rattle.prelude.specs.BelowLaws.{any_cong, any_fewer}
use Rattle.prelude.specs.Part.{part, zeros}
use Rattle.prelude.specs.PartLaws.{part_length, zeros_length}
use Rattle.prelude.specs.SaysLaws.{says_and, says_false, says_iff, says_lt, says_same, true_or_false}
use Rattle.sets.specs.Sets.{member, union, with_member}
use Rattle.sets.specs.SideLaws.{member_alone, member_union}
use Rattle.sets.specs.SetsLaws.{and-false, member_within, union_length, with_length}
use Rattle.graph.specs.Graph.{allows, closure_row, collects_by, demands, inherits, lists_mandatory, lists_optional, reaches}
use Rattle.graph.specs.GraphLaws.{says_collects, says_reaches}
use Rattle.graph.proofs.FreshLaws.{reached_part}
use Rattle.graph.specs.ThreeLaws.{three, three_cong, union_three}
use Rattle.graph.specs.Changes.{AuxiliaryMore, OptionalMore}
use Rattle.graph.proofs.ClosureLaws.{closure_before, closure_joined, closure_kept, closure_listed, closure_new}
use Rattle.closure_change.specs.Kept.{holds, joined_into, named_sets, new_row, option_row, own_row, refreshed_at, row_where, with_new}
use Rattle.closure_change.proofs.KeptLaws.{each_at, fresh_wide, joined_wide, with_new_other, with_new_same}
use Rattle.closure_change.specs.JoinedLaws.{member_first, member_second, member_third, option_joined, three_split}

-- either of two tests, in the other order
or_swap : (a b c : Bool) → b ≡ c → (a || b) ≡ (c || a)
or_swap true b true e = refl
or_swap true b false e = refl
or_swap false b true e = e
or_swap false b false e = e

module _ (t : Table) (few : t.count ≤ class_limit) (closure : List ℕ) (long : closure_length ≤ length closure)
    (fresh : (c : ℕ) → c < class_limit → closure_at closure c ≡ closure_row t c) where
  -- a kept reach holds a class exactly where that is reached
  pub holds_reaches : (k c : ℕ) → k < class_limit → c < class_limit → holds t.count k c (closure_at closure c) ≡ reaches t c k
  unfolding holds
  holds_reaches k c lk lc =
      ap (λ (s : List ℕ). ltb c t.count && member s k) (ap (part reached_at class_set) (fresh c lc) ∙ reached_part t c)
      ∙ ap (λ (b : Bool). ltb c t.count && b) (member_within class_set (reaches t c) k (omega arith))
      ∙ says_same (says_and (says_lt c t.count) (says_reaches t.count (inherits t) c k))
      (says_iff (says_reaches t.count (inherits t) c k) (λ q. (q.present, q), λ q. q.1))

  -- ---- class k gets another row

  module _ (k : ℕ) (new : List ℕ) (present : k < t.count) where
    where_reached : (f : ℕ → List ℕ → List ℕ) (c : ℕ) → c < class_limit
        → row_where t.count k f closure c ≡ cond (reaches t c k) (f c (closure_row t c)) (closure_row t c)
    unfolding row_where
    where_reached f c l = ap₂ (λ (b : Bool) (row : List ℕ). cond b (f c row) row) (holds_reaches k c (omega arith) l) (fresh c l)

    -- worked out afresh for the classes that reach k
    pub refreshed_fresh : (c : ℕ) → c < class_limit → closure_at (refreshed_at (with_row t k new) t.count k closure) c ≡ closure_row (with_row t k new) c
    unfolding refreshed_at
    refreshed_fresh c l =
        each_at closure long t.count k (λ c row. closure_row (with_row t k new) c) (fresh_wide closure long (with_row t k new)) c l
        ∙ where_reached (λ c row. closure_row (with_row t k new) c) c l ∙ go (true_or_false (reaches t c k))
      where
        go : (reaches t c k ≡ true) ⊎ (reaches t c k ≡ false)
            → cond (reaches t c k) (closure_row (with_row t k new) c) (closure_row t c) ≡ closure_row (with_row t k new) c
        go (inl q) = rw q
        go (inr q) = rw q (sym (closure_kept t k new c q))

    -- an auxiliary joined in
    pub auxiliary_fresh : (a : ℕ) → a < t.count → a < length (open_auxiliary_of (t.row k)) * 8 → AuxiliaryMore a (t.row k) new
        → (c : ℕ) → c < class_limit → closure_at (joined_into t.count k (closure_at closure a) closure) c ≡ closure_row (with_row t k new) c
    unfolding joined_into
    auxiliary_fresh a there room more c l =
        each_at closure long t.count k (λ c row. union row (closure_at closure a)) (joined_wide closure long (closure_at closure a)) c l
        ∙ where_reached (λ c row. union row (closure_at closure a)) c l
        ∙ ap (λ (x : List ℕ). cond (reaches t c k) (union (closure_row t c) x) (closure_row t c)) (fresh a (omega arith))
        ∙ sym (closure_joined t k a new present there room more c)

    -- an optional attribute joined in
    pub optional_fresh : (b : ℕ) → b < length (open_optional_of (t.row k)) * 8 → OptionalMore b (t.row k) new
        → (c : ℕ) → c < class_limit → closure_at (joined_into t.count k (option_row b) closure) c ≡ closure_row (with_row t k new) c
    unfolding joined_into
    optional_fresh b room more c l =
        each_at closure long t.count k (λ c row. union row (option_row b)) (joined_wide closure long (option_row b)) c l
        ∙ where_reached (λ c row. union row (option_row b)) c l
        ∙ go (true_or_false (reaches t c k)) ∙ sym (closure_listed t k b new room more c)
      where
        listed : Bool → List ℕ
        listed x = three (reaches t c) (demands t c) (λ a. allows t c a || (x && eqb a b))

        go : (reaches t c k ≡ true) ⊎ (reaches t c k ≡ false)
            → cond (reaches t c k) (union (closure_row t c) (option_row b)) (closure_row t c) ≡ listed (reaches t c k)
        go (inl q) = unfold closure_row in rw q (option_joined (reaches t c) (demands t c) (allows t c) b)
        go (inr q) =
            unfold closure_row in
            rw q (three_cong (λ x m. refl) (λ x m. refl) (λ x m. sym (or-false (allows t c x))))

  -- ---- a class more

  module _ (new : List ℕ) (wide : length new ≡ class_width) (room : t.count < class_limit)
      (unnamed : (x : ℕ) → x < t.count → inherits t x t.count ≡ false) where
    abbrev n : ℕ
    n = t.count

    abbrev more : Table
    more = plus_row t new

    -- the union over the classes that it names, of which only those with a row have sets
    reached_fewer : (x : ℕ) → any_below class_limit (λ y. inherits more n y && reaches t y x) ≡ any_below n (λ y. inherits more n y && reaches t y x)
    reached_fewer x = any_fewer n class_limit (λ y. inherits more n y && reaches t y x) few (λ y l. and-false (inherits more n y) (reaches t y x)
        (says_false (says_reaches n (inherits t) y x) (λ q. omega (arith, q.present))))

    collected_fewer : (o : ℕ → ℕ → Bool) (x : ℕ) → any_below class_limit (λ y. inherits more n y && collects_by n (inherits t) o y x)
        ≡ any_below n (λ y. inherits more n y && collects_by n (inherits t) o y x)
    collected_fewer o x = any_fewer n class_limit (λ y. inherits more n y && collects_by n (inherits t) o y x) few
        (λ y l. and-false (inherits more n y) (collects_by n (inherits t) o y x)
        (says_false (says_collects n (inherits t) o y x) (λ q. omega (arith, q.present))))

    named_by : (at : ℕ) (f : ℕ → Bool) → ((y : ℕ) → y < class_limit → member (closure_row t y) at ≡ f y)
        → any_below class_limit (λ y. inherits more n y && member (closure_at closure y) at) ≡ any_below class_limit (λ y. inherits more n y && f y)
    named_by at f h = any_cong class_limit _ _ (λ y l. ap (λ (b : Bool). inherits more n y && b) (ap (λ (s : List ℕ). member s at) (fresh y l) ∙ h y l))

    abbrev reached : ℕ → Bool
    reached x = any_below n (λ y. inherits more n y && reaches t y x)

    abbrev demanded : ℕ → Bool
    demanded b = any_below n (λ y. inherits more n y && demands t y b)

    abbrev allowed : ℕ → Bool
    allowed b = any_below n (λ y. inherits more n y && allows t y b)

    named_three : named_sets more closure n ≡ three reached demanded allowed
    unfolding named_sets closure_row
    named_three =
        three_split (λ b. any_below class_limit (λ y. inherits more n y && member (closure_at closure y) b))
        ∙ three_cong
        (λ x l. named_by x (λ y. reaches t y x) (λ y m. member_first (reaches t y) (demands t y) (allows t y) x l) ∙ reached_fewer x)
        (λ b l. named_by (class_set * 8 + b) (λ y. demands t y b) (λ y m. member_second (reaches t y) (demands t y) (allows t y) b l)
        ∙ collected_fewer (lists_mandatory t) b)
        (λ b l. named_by (class_set * 8 + (attribute_set * 8 + b)) (λ y. allows t y b)
        (λ y m. member_third (reaches t y) (demands t y) (allows t y) b l) ∙ collected_fewer (lists_optional t) b)

    abbrev row : List ℕ
    row = more.row n

    row_wide : length row ≡ class_width
    row_wide = ap length (plus_last t new n refl) ∙ wide

    -- the kept sets of the new class
    new_fresh : new_row more closure n ≡ closure_row more n
    unfolding new_row own_row lists_mandatory lists_optional
    new_fresh =
        let fixed : length (fixed_optional_of row) ≡ attribute_set = part_length fixed_optional_at attribute_set row (omega (arith, row_wide)) in
        ap (λ (s : List ℕ). union s (own_row n row)) named_three
        ∙ union_three reached demanded allowed (with_member n (zeros class_set)) (mandatory_of row) (union (fixed_optional_of row) (open_optional_of row))
        (with_length n (zeros class_set) ∙ zeros_length class_set) (part_length mandatory_at attribute_set row (omega (arith, row_wide)))
        (union_length (fixed_optional_of row) (open_optional_of row) ∙ fixed)
        ∙ three_cong (λ x l. or_swap (reached x) (member (with_member n (zeros class_set)) x) (eqb x n) (member_alone class_set n x l))
        (λ b l. or_swap (demanded b) (member (mandatory_of row) b) (member (mandatory_of row) b) refl)
        (λ b l. or_swap (allowed b) (member (union (fixed_optional_of row) (open_optional_of row)) b)
        (member (fixed_optional_of row) b || member (open_optional_of row) b) (member_union (fixed_optional_of row) (open_optional_of row) b (omega arith)))
        ∙ sym (closure_new t new unnamed)

    pub class_fresh : (c : ℕ) → c < class_limit → closure_at (with_new more n closure) c ≡ closure_row more c
    class_fresh c l = go (ℕ_discrete c n)
      where
        go : Dec (c ≡ n) → closure_at (with_new more n closure) c ≡ closure_row more c
        go (yes e) = rw e (with_new_same closure long more n room ∙ new_fresh)
        go (no d) = with_new_other closure long more n room c d ∙ fresh c l ∙ sym (closure_before t new unnamed c d)
