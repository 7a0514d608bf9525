-- How a visit and a walk change the bytes of the set of visited classes: the laws that the code's proof cites. The set has 16 bytes, and the table
-- at most 128 classes.
use mathlib.Core.Bool.{Bool, true, false, not, ◌&&◌, true≢false}
use mathlib.Core.List.{List}
use mathlib.Core.Logic.{◌⊎◌, inl, inr, ⊎_elim, ⊎_map, ◌↔◌}
use mathlib.Core.Path.{◌≡◌, refl, sym, ap, ◌∙◌}
use Prim.Native.Nat.{ℕ, ◌+◌, ◌*◌, ◌≤◌, ◌<◌}
use native.Mathlib.Decide.{ℕ_discrete}
use native.Mathlib.Omega.{arith}
use lib.ListN.{length, get_or}
use Rattle.prelude.specs.Says.{Says}
use Rattle.prelude.specs.SaysLaws.{says_and, says_or, says_eq, says_le, says_test, says_iff, says_same, says_true, says_false, says_not_test}
use Rattle.prelude.specs.BelowLaws.{says_any}
use Rattle.prelude.specs.Part.{zeros}
use Rattle.sets.specs.Sets.{flag, bit, member, set_of, with_member, from, count_below}
use Rattle.sets.specs.SetsLaws.{bit_past, bit_flag, bit_with, bit_with_other, with_length, says_member, member_set, is_set, set_cong, set_length}
use Rattle.sets.specs.SideLaws.{member_zeros}
use Rattle.sets.specs.CountLaws.{count_mono, count_less}
use Rattle.schema.specs.Numbers.{class_limit}
use Rattle.schema.specs.Layout.{class_set}
use Rattle.schema.specs.ClassRow.{superclass_of, fixed_auxiliary_of, open_auxiliary_of}
use Rattle.schema.specs.Store.{Table}
use Rattle.schema.specs.declared.number.ClassNumber.{ClassNumber}
use Rattle.tables.specs.Named.{lists}
use Rattle.tables.specs.declared.named.ClassList.TheVariants.{Auxiliaries}
use Rattle.graph.specs.WalkLaws.{widen}
use Rattle.graph.specs.Graph.{Edge, Reaches, inherits, reaches}
use Rattle.graph.specs.GraphLaws.{reach_below, says_reaches}
use Rattle.graph.specs.Visit.{avoiding, reaches_past, after_visit, after_walk, unvisited_in, first_class, next_unvisited}
use Rattle.graph.proofs.Next.{Found, class_is, none_is}
use Rattle.graph.proofs.Past.{Past, Added, says_avoiding, past_added, past_on, visit_new, walk_more}
use Rattle.std.specs.Prelude.{Option, Some, None}

-- a set of 16 bytes
pub record ClassBytes (b : List ℕ) : Type 0 where
  pub long : length b ≡ class_set
  pub bytes : (i : ℕ) → get_or b i 0 < 256

module _ (t : Table) where
  -- ---- what the tests say

  abbrev PastOf : (ℕ → Bool) → ℕ → ℕ → Type 0
  PastOf s c x = Past t.count (inherits t) s c x

  says_past : (s : ℕ → Bool) (c x : ℕ) → Says (reaches_past t s c x) (PastOf s c x)
  unfolding reaches_past
  says_past s c x =
      says_iff (says_and (says_not_test (s c)) (says_reaches t.count (avoiding s (inherits t)) c x))
      (λ q. record { unseen = q.0; reach = q.1 }, λ p. (p.unseen, p.reach))

  says_visit : (s : ℕ → Bool) (c k : ℕ) → Says (after_visit t s c k) ((s k ≡ true) ⊎ PastOf s c k)
  unfolding after_visit
  says_visit s c k = says_or (says_test (s k)) (says_past s c k)

  -- some auxiliary d of c from i on reaches k past s
  abbrev PastAuxiliary : (ℕ → Bool) → ℕ → ℕ → ℕ → Type 0
  PastAuxiliary s c i k = (d : ℕ) × ((i ≤ d) × (lists Auxiliaries (t.row c) d ≡ true)) × PastOf s d k

  says_walk : (s : ℕ → Bool) (c i k : ℕ) → Says (after_walk t s c i k) ((s k ≡ true) ⊎ PastAuxiliary s c i k)
  unfolding after_walk
  says_walk s c i k =
      says_or (says_test (s k))
      (says_iff (says_any t.count {P = λ d. ((i ≤ d) × (lists Auxiliaries (t.row c) d ≡ true)) × PastOf s d k}
      (λ d l. says_and (says_and (says_le i d) (says_test (lists Auxiliaries (t.row c) d))) (says_past s d k)))
      (λ q. (q.at, q.is.0, q.is.1), λ q. record { at = q.0; below = q.2.reach.present; is = (q.1, q.2) }))

  names_says : (c d : ℕ) → Says (inherits t c d) ((superclass_of (t.row c) ≡ d) ⊎ (lists Auxiliaries (t.row c) d ≡ true))
  unfolding inherits
  names_says c d = says_or (says_eq (superclass_of (t.row c)) d) (says_test (lists Auxiliaries (t.row c) d))

  walk_added : (s : ℕ → Bool) (c i : ℕ) (r : ℕ → Bool) → ((k : ℕ) → r k ≡ after_walk t s c i k)
      → Added t.count (inherits t) s r (λ k. PastAuxiliary s c i k)
  walk_added s c i r h = record {
    to = λ k q. (says_walk s c i k).holds (sym (h k) ∙ q);
    keep = λ k q. h k ∙ (says_walk s c i k).passes (inl q);
    new = λ k p. h k ∙ (says_walk s c i k).passes (inr p);
    on = λ y z p q l v. (p.0, p.1, past_on t.count (inherits t) s p.0 y z p.2 q l v);
  }

  visit_added : (s : ℕ → Bool) (c : ℕ) (r : ℕ → Bool) → ((k : ℕ) → r k ≡ after_visit t s c k) → Added t.count (inherits t) s r (PastOf s c)
  visit_added s c r h = past_added t.count (inherits t) c (λ k. rw (h k) (says_visit s c k))

  -- ---- the bytes of a set of classes

  none_past : (b : List ℕ) → length b ≡ class_set → (k : ℕ) → class_set * 8 ≤ k → member b k ≡ false
  none_past b e k h = says_false (says_member b k) (λ o. omega (arith, bit_past b k (omega arith)))

  module _ (few : t.count ≤ class_limit) where
    -- past the last number nothing is reached
    past_limit : (s : ℕ → Bool) (c k : ℕ) → PastOf s c k → k < class_limit
    past_limit s c k p = let l : k < t.count = reach_below p.reach.present p.reach.walk in omega arith

    member_visit : (b u : List ℕ) (c : ℕ) → length b ≡ class_set → u ≡ set_of class_set (after_visit t (member b) c) → (k : ℕ) → member u k
        ≡ after_visit t (member b) c k
    member_visit b u c e q k =
        ap (λ (s : List ℕ). member s k) q
        ∙ member_set class_set (after_visit t (member b) c) k (λ h. says_false (says_visit (member b) c k)
        (⊎_elim (λ o. true≢false (sym o ∙ none_past b e k h)) (λ p. omega (arith, past_limit (member b) c k p))))

    -- a set that stays as it is
    unchanged : (b : List ℕ) (f : ℕ → Bool) → ClassBytes b → ((k : ℕ) → member b k ≡ f k) → b ≡ set_of class_set f
    unchanged b f s h = is_set b class_set f s.long s.bytes (λ k l. bit_flag b k ∙ ap flag (h k))

    -- ---- a visit

    pub visit_absent : (c : ℕ) (b : List ℕ) → ClassBytes b → t.count ≤ c → b ≡ set_of class_set (after_visit t (member b) c)
    visit_absent c b s h =
        unchanged b (after_visit t (member b) c) s
        (λ k. says_same (says_test (member b k))
        (says_iff (says_visit (member b) c k) (⊎_elim (λ q. q) (λ p. absurd (omega (arith, p.reach.present))), inl)))

    pub visit_seen : (c : ℕ) (b : List ℕ) → ClassBytes b → member b c ≡ true → b ≡ set_of class_set (after_visit t (member b) c)
    visit_seen c b s h =
        unchanged b (after_visit t (member b) c) s
        (λ k. says_same (says_test (member b k))
        (says_iff (says_visit (member b) c k) (⊎_elim (λ q. q) (λ p. absurd (true≢false (sym h ∙ p.unseen))), inl)))

    marked_says : (b : List ℕ) (c : ℕ) → length b ≡ class_set → c < class_limit → (k : ℕ) → Says (member (with_member c b) k) ((member b k ≡ true) ⊎ (k ≡ c))
    marked_says b c e l k = says_iff (says_member (with_member c b) k) (to (ℕ_discrete k c), from)
      where
        to : Dec (k ≡ c) → bit (with_member c b) k ≡ 1 → (member b k ≡ true) ⊎ (k ≡ c)
        to (yes q) o = inr q
        to (no d) o = inl ((says_member b k).passes (sym (bit_with_other b c k d) ∙ o))

        here : bit (with_member c b) c ≡ 1
        here = bit_with b c (omega arith)

        old : Dec (k ≡ c) → member b k ≡ true → bit (with_member c b) k ≡ 1
        old (yes q) m = ap (bit (with_member c b)) q ∙ here
        old (no d) m = bit_with_other b c k d ∙ (says_member b k).holds m

        from : (member b k ≡ true) ⊎ (k ≡ c) → bit (with_member c b) k ≡ 1
        from (inl m) = old (ℕ_discrete k c) m
        from (inr q) = ap (bit (with_member c b)) q ∙ here

    -- c is marked, its superclass visited, or beyond the limit, and its auxiliaries walked
    module _ (c up : ℕ) (b m u r : List ℕ) (long : length b ≡ class_set) (present : c < t.count) (unseen : member b c ≡ false)
        (super : superclass_of (t.row c) ≡ up) (marked : m ≡ with_member c b) (walked : r ≡ set_of class_set (after_walk t (member u) c 0)) where
      marked_long : length m ≡ class_set
      marked_long = ap length marked ∙ with_length c b ∙ long

      newly : length u ≡ class_set → Added t.count (inherits t) (member m) (member u) (PastOf (member m) up) → r
          ≡ set_of class_set (after_visit t (member b) c)
      newly e above = walked ∙ set_cong class_set (after_walk t (member u) c 0) (after_visit t (member b) c)
          (λ k l. says_same (whole k) (says_visit (member b) c k))
        where
          loosen : Added t.count (inherits t) (member u) (after_walk t (member u) c 0) (λ k. PastAuxiliary (member u) c 0 k)
              → Added t.count (inherits t) (member u) (after_walk t (member u) c 0)
              (λ k. (d : ℕ) × (lists Auxiliaries (t.row c) d ≡ true) × PastOf (member u) d k)
          loosen a = record {
            to = λ k q. ⊎_map (λ w. w) (λ w. (w.0, w.1.1, w.2)) (a.to k q);
            keep = a.keep;
            new = λ k p. a.new k (p.0, (omega arith, p.1), p.2);
            on = λ y z p q l v. (p.0, p.1, past_on t.count (inherits t) (member u) p.0 y z p.2 q l v);
          }

          whole : (k : ℕ) → Says (after_walk t (member u) c 0 k) ((member b k ≡ true) ⊎ PastOf (member b) c k)
          whole k =
              visit_new t.count (inherits t) (lists Auxiliaries (t.row c)) up c (member b) (member m) (member u) (after_walk t (member u) c 0)
              present unseen
              (λ d. rw (← super) (names_says c d))
              (λ j. rw marked (marked_says b c long (omega arith) j)) above (loosen (walk_added (member u) c 0 (after_walk t (member u) c 0) (λ j. refl))) k

      pub visit_above : u ≡ set_of class_set (after_visit t (member m) up) → r ≡ set_of class_set (after_visit t (member b) c)
      visit_above q =
          newly (ap length q ∙ set_length class_set (after_visit t (member m) up)) (visit_added (member m) up (member u) (member_visit m u up marked_long q))

      -- the superclass is beyond the limit: nothing is reached there
      pub visit_beyond : class_limit ≤ up → u ≡ m → r ≡ set_of class_set (after_visit t (member b) c)
      visit_beyond h q = newly (ap length q ∙ marked_long) (record {
        to = λ k w. inl (rw q at w);
        keep = λ k w. rw q w;
        new = λ k p. absurd (omega (arith, p.reach.present));
        on = λ y z p e l v. absurd (omega (arith, p.reach.present));
      })

    -- ---- a walk

    pub walk_end : (c i : ℕ) (b : List ℕ) → ClassBytes b
        → ((d : ℕ) → d < t.count → from i (λ x. lists Auxiliaries (t.row c) x && not (member b x)) d ≡ false) → b
        ≡ set_of class_set (after_walk t (member b) c i)
    walk_end c i b s h =
        unchanged b (after_walk t (member b) c i) s
        (λ k. says_same (says_test (member b k)) (says_iff (says_walk (member b) c i k) (⊎_elim (λ q. q) (λ p. absurd (none k p)), inl)))
      where
        none : (k : ℕ) → PastAuxiliary (member b) c i k → ⊥
        none k p =
            true≢false (sym (says_true
            (says_and (says_le i p.0) (says_and (says_test (lists Auxiliaries (t.row c) p.0)) (says_not_test (member b p.0))))
            (p.1.0, (p.1.1, p.2.unseen)))
            ∙ h p.0 p.2.reach.present)

    -- d is the next auxiliary, and is visited; the walk goes on behind it
    pub walk_on : (c i d : ℕ) (b u r : List ℕ) → length b ≡ class_set → d < t.count
        → from i (λ x. lists Auxiliaries (t.row c) x && not (member b x)) d ≡ true
        → ((j : ℕ) → j < d → from i (λ x. lists Auxiliaries (t.row c) x && not (member b x)) j ≡ false)
        → u ≡ set_of class_set (after_visit t (member b) d) → r ≡ set_of class_set (after_walk t (member u) c (d + 1)) → r
        ≡ set_of class_set (after_walk t (member b) c i)
    walk_on c i d b u r e l p before q w = w ∙ set_cong class_set (after_walk t (member u) c (d + 1)) (after_walk t (member b) c i)
        (λ k m. says_same (whole k) (says_walk (member b) c i k))
      where
        next : (x : ℕ) → Says (from i (λ x. lists Auxiliaries (t.row c) x && not (member b x)) x)
            ((i ≤ x) × ((lists Auxiliaries (t.row c) x ≡ true) × (member b x ≡ false)))
        next x = says_and (says_le i x) (says_and (says_test (lists Auxiliaries (t.row c) x)) (says_not_test (member b x)))

        at : (i ≤ d) × ((lists Auxiliaries (t.row c) d ≡ true) × (member b d ≡ false))
        at = (next d).holds p

        first : (x : ℕ) → i ≤ x → lists Auxiliaries (t.row c) x ≡ true → x < t.count → member b x ≡ false → (x ≡ d) ⊎ (d + 1 ≤ x)
        first x h a m v = go (ℕ_discrete x d)
          where
            not_before : x < d → ⊥
            not_before g = true≢false (sym ((next x).passes (h, (a, v))) ∙ before x g)

            go : Dec (x ≡ d) → (x ≡ d) ⊎ (d + 1 ≤ x)
            go (yes q) = inl q
            go (no n) = inr (omega (arith, n, not_before))

        whole : (k : ℕ) → Says (after_walk t (member u) c (d + 1) k) ((member b k ≡ true) ⊎ PastAuxiliary (member b) c i k)
        whole k =
            walk_more t.count (inherits t) (lists Auxiliaries (t.row c)) (λ x. i ≤ x) (λ x. d + 1 ≤ x) d (member b) (member u)
            (after_walk t (member u) c (d + 1))
            l at.1.1 at.1.0 at.0 first (λ x h. omega (arith, h, at.0))
            (visit_added (member b) d (member u) (member_visit b u d e q))
            (walk_added (member u) c (d + 1) (after_walk t (member u) c (d + 1)) (λ j. refl)) k

  -- ---- from nothing visited

  pub visited_none : (c : ℕ) (r : List ℕ) → r ≡ set_of class_set (after_visit t (member (zeros class_set)) c) → r ≡ set_of class_set (reaches t c)
  visited_none c r q = q ∙ set_cong class_set (after_visit t (member (zeros class_set)) c) (reaches t c)
      (λ k l. says_same (says_visit (member (zeros class_set)) c k) (says_iff (says_reaches t.count (inherits t) c k) (to k, from k)))
    where
      edge : (x y : ℕ) → Edge t.count (inherits t) x y ↔ Edge t.count (avoiding (member (zeros class_set)) (inherits t)) x y
      edge x y = (
        λ r. record {
          source = r.source;
          target = r.target;
          named = (says_avoiding t.count (inherits t) (member (zeros class_set)) x y).passes
              (member_zeros class_set x, (member_zeros class_set y, r.named));
        },
        λ r. record {
          source = r.source;
          target = r.target;
          named = ((says_avoiding t.count (inherits t) (member (zeros class_set)) x y).holds
              r.named).1.1;
        },
      )

      to : (k : ℕ) → Reaches t.count (inherits t) c k → (member (zeros class_set) k ≡ true) ⊎ PastOf (member (zeros class_set)) c k
      to k r = inr (record { unseen = member_zeros class_set c; reach = record { present = r.present; walk = widen (λ x y. (edge x y).0) r.walk } })

      from : (k : ℕ) → (member (zeros class_set) k ≡ true) ⊎ PastOf (member (zeros class_set)) c k → Reaches t.count (inherits t) c k
      from k (inl q) = absurd (true≢false (sym q ∙ member_zeros class_set k))
      from k (inr p) = record { present = p.reach.present; walk = widen (λ x y. (edge x y).1) p.reach.walk }

-- ---- how many classes are left to visit

unfoldable pub unvisited_count : List ℕ → ℕ
unvisited_count b = count_below class_limit (λ k. not (member b k))

unmarked : (b u : List ℕ) → ((k : ℕ) → member b k ≡ true → member u k ≡ true) → (k : ℕ) → not (member u k) ≡ true → not (member b k) ≡ true
unmarked b u h k e = ap not (says_false (says_test (member b k)) (λ q. true≢false (sym (h k q) ∙ (says_not_test (member u k)).holds e)))

module _ (t : Table) (few : t.count ≤ class_limit) (b u : List ℕ) (c : ℕ) (long : length b ≡ class_set) where
  -- marking a class leaves one fewer, and a visit no more
  pub marked_fewer : c < class_limit → member b c ≡ false → u ≡ with_member c b → unvisited_count u < unvisited_count b
  unfolding unvisited_count
  marked_fewer l z q =
      count_less class_limit c (λ k. not (member u k)) (λ k. not (member b k)) l (unmarked b u (λ k w. (says k).passes (inl w)))
      (ap not ((says c).passes (inr refl))) (ap not z)
    where
      says : (k : ℕ) → Says (member u k) ((member b k ≡ true) ⊎ (k ≡ c))
      says k = rw q (marked_says t few b c long l k)

  pub visit_no_more : u ≡ set_of class_set (after_visit t (member b) c) → unvisited_count u ≤ unvisited_count b
  unfolding unvisited_count
  visit_no_more q =
      count_mono class_limit (λ k. not (member u k)) (λ k. not (member b k))
      (unmarked b u (λ k w. member_visit t few b u c long q k ∙ (says_visit t (member b) c k).passes (inl w)))

-- ---- what the search for the next auxiliary tells

module _ (t : Table) (c i : ℕ) (b : List ℕ) where
  abbrev pub next_test : ℕ → Bool
  next_test = from i (λ x. lists Auxiliaries (t.row c) x && not (member b x))

  pub next_found : (d : ClassNumber) → Some d ≡ next_unvisited t (member b) c i → Found t.count next_test d.0
  unfolding next_unvisited
  next_found d e = class_is t.count next_test d e

  pub next_none_left : None ≡ next_unvisited t (member b) c i → (d : ℕ) → d < t.count → next_test d ≡ false
  unfolding next_unvisited
  next_none_left e = none_is t.count next_test e

  pub found_late : (d : ℕ) → Found t.count next_test d → i ≤ d
  found_late d f = ((says_and (says_le i d) (says_test (lists Auxiliaries (t.row c) d && not (member b d)))).holds f.passes).0

  -- the search over c's two lists is the search for c's next auxiliary
  pub next_searched : (r : Option ClassNumber) (n : ℕ) (row fixed other : List ℕ) → row ≡ t.row c → n ≡ t.count → fixed ≡ fixed_auxiliary_of row → other
      ≡ open_auxiliary_of row
      → r ≡ first_class n (from i (unvisited_in fixed other b)) → r ≡ next_unvisited t (member b) c i
  unfolding next_unvisited unvisited_in lists
  next_searched r n row fixed other p q f o e = rw (e, q, f, o, p)
