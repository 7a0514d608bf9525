-- Walks that avoid a set of visited classes, for any number n of classes and any test e of naming; and sets that grow by what such walks reach.
use mathlib.Core.Bool.{Bool, true, false, true≢false}
use mathlib.Core.Logic.{◌⊎◌, inl, inr, ⊎_elim}
use mathlib.Core.Path.{◌≡◌, refl, sym, ◌∙◌}
use Prim.Native.Nat.{ℕ, ◌<◌}
use Rattle.prelude.specs.Says.{Says}
use Rattle.prelude.specs.SaysLaws.{says_and, says_test, says_false, says_not_test, true_or_false}
use Rattle.graph.specs.Walk.{Reach, here, step}
use Rattle.graph.specs.WalkLaws.{one, join, widen}
use Rattle.graph.specs.Graph.{Edge, Reaches}
use Rattle.graph.specs.Visit.{avoiding}

-- a set of classes
abbrev pub Set : Type 0
Set = ℕ → Bool

module _ (n : ℕ) (e : ℕ → ℕ → Bool) where
  pub says_avoiding : (s : Set) (x y : ℕ) → Says (avoiding s e x y) ((s x ≡ false) × ((s y ≡ false) × (e x y ≡ true)))
  unfolding avoiding
  says_avoiding s x y = says_and (says_not_test (s x)) (says_and (says_not_test (s y)) (says_test (e x y)))

  -- c reaches x over classes with a row that are not in s
  pub record Past (s : Set) (c x : ℕ) : Type 0 where
    pub unseen : s c ≡ false
    pub reach : Reaches n (avoiding s e) c x

  past_here : (s : Set) (c : ℕ) → c < n → s c ≡ false → Past s c c
  past_here s c h z = record { unseen = z; reach = record { present = h; walk = here } }

  -- one step in front, and one behind
  pub past_from : (s : Set) (c d x : ℕ) → c < n → s c ≡ false → e c d ≡ true → Past s d x → Past s c x
  past_from s c d x h z q p = record {
    unseen = z;
    reach = record {
      present = h;
      walk = step (record { source = h; target = p.reach.present; named = (says_avoiding s c d).passes (z, (p.unseen, q)) }) p.reach.walk;
    };
  }

  walk_end : (s : Set) {c x : ℕ} → s c ≡ false → c < n → Reach (Edge n (avoiding s e)) c x → (s x ≡ false) × (x < n)
  walk_end s z h here = (z, h)
  walk_end s z h (step {y = y} r p) = walk_end s ((says_avoiding s _ y).holds r.named).1.0 r.target p

  pub past_on : (s : Set) (c y z : ℕ) → Past s c y → e y z ≡ true → z < n → s z ≡ false → Past s c z
  past_on s c y z p q h w =
      let end = walk_end s p.unseen p.reach.present p.reach.walk in
      record {
        unseen = p.unseen;
        reach = record {
          present = p.reach.present;
          walk = join p.reach.walk (one (record { source = end.1; target = h; named = (says_avoiding s y z).passes (end.0, (w, q)) }));
        };
      }

  -- with fewer classes visited, no less is reached
  fewer : (s u : Set) → ((k : ℕ) → s k ≡ true → u k ≡ true) → (k : ℕ) → u k ≡ false → s k ≡ false
  fewer s u h k z = says_false (says_test (s k)) (λ q. true≢false (sym (h k q) ∙ z))

  pub past_less : (s u : Set) → ((k : ℕ) → s k ≡ true → u k ≡ true) → (c x : ℕ) → Past u c x → Past s c x
  past_less s u h c x p = record {
    unseen = fewer s u h c p.unseen;
    reach = record { present = p.reach.present; walk = widen edge p.reach.walk };
  }
    where
      edge : (x y : ℕ) → Edge n (avoiding u e) x y → Edge n (avoiding s e) x y
      edge x y r =
          let q = (says_avoiding u x y).holds r.named in
          record { source = r.source; target = r.target; named = (says_avoiding s x y).passes (fewer s u h x q.0, (fewer s u h y q.1.0, q.1.1)) }

  -- ---- sets that grow

  -- u is s with the classes of P, and P goes on from each of them past s
  pub record Added (s u : Set) (P : ℕ → Type 0) : Type 0 where
    pub to : (k : ℕ) → u k ≡ true → (s k ≡ true) ⊎ P k
    pub keep : (k : ℕ) → s k ≡ true → u k ≡ true
    pub new : (k : ℕ) → P k → u k ≡ true
    pub on : (y z : ℕ) → P y → e y z ≡ true → z < n → s z ≡ false → P z

  -- r has, of each of its classes that s lacks, all that it names
  abbrev pub Closed : Set → Set → Type 0
  Closed s r = (y z : ℕ) → r y ≡ true → s y ≡ false → e y z ≡ true → z < n → r z ≡ true

  pub added_closed : {s u : Set} {P : ℕ → Type 0} → Added s u P → Closed s u
  added_closed {s} {u} {P} a y z h w q l = ⊎_elim (λ k. absurd (true≢false (sym k ∙ w))) (λ p. next p (true_or_false (s z))) (a.to y h)
    where
      next : P y → (s z ≡ true) ⊎ (s z ≡ false) → u z ≡ true
      next p (inl k) = a.keep z k
      next p (inr v) = a.new z (a.on y z p q l v)

  pub closed_then : {s u r : Set} → Closed s u → Closed u r → ((k : ℕ) → u k ≡ true → r k ≡ true) → Closed s r
  closed_then {s} {u} {r} a b keep y z h w q l = ⊎_elim (λ k. keep z (a y z k w q l)) (λ v. b y z h v q l) (true_or_false (u y))

  -- a closed set that has c has all that c reaches past s
  pub closed_reach : {s r : Set} → Closed s r → {c x : ℕ} → r c ≡ true → Reach (Edge n (avoiding s e)) c x → r x ≡ true
  closed_reach k h here = h
  closed_reach {s} k h (step {y = y} g p) =
      let q = (says_avoiding s _ y).holds g.named in
      closed_reach k (k _ y h q.0 q.1.1 g.target) p

  -- what is visited is new, or was visited before
  pub found : {u r : Set} {P : ℕ → Type 0} → Added u r P → (d : ℕ) → d < n → (u d ≡ false → P d) → r d ≡ true
  found {u} a d l p = ⊎_elim (λ k. a.keep d k) (λ v. a.new d (p v)) (true_or_false (u d))

  pub past_added : {s u : Set} (c : ℕ) → ((k : ℕ) → Says (u k) ((s k ≡ true) ⊎ Past s c k)) → Added s u (Past s c)
  past_added {s} c h = record {
    to = λ k. (h k).holds;
    keep = λ k q. (h k).passes (inl q);
    new = λ k p. (h k).passes (inr p);
    on = λ y z p q l v. past_on
        s c y z p q l v;
  }

  -- ---- the two theorems

  -- a visit of c, which is not visited: c is marked, its superclass `up` is visited, and then its auxiliaries
  module _ (aux : ℕ → Bool) (up c : ℕ) (s m u r : Set) (present : c < n) (unseen : s c ≡ false)
      (names-c : (d : ℕ) → Says (e c d) ((up ≡ d) ⊎ (aux d ≡ true)))
      (marked : (k : ℕ) → Says (m k) ((s k ≡ true) ⊎ (k ≡ c)))
      (above : Added m u (Past m up)) (beside : Added u r (λ k. (d : ℕ) × (aux d ≡ true) × Past u d k)) where
    keep_m : (k : ℕ) → s k ≡ true → m k ≡ true
    keep_m k q = (marked k).passes (inl q)

    keep_u : (k : ℕ) → s k ≡ true → u k ≡ true
    keep_u k q = above.keep k (keep_m k q)

    to : (k : ℕ) → r k ≡ true → (s k ≡ true) ⊎ Past s c k
    to k h = ⊎_elim (λ q. from_u (above.to k q))
        (λ q. inr (past_from s c q.0 k present unseen ((names-c q.0).passes (inr q.1)) (past_less s u keep_u q.0 k q.2)))
        (beside.to k h)
      where
        from_u : (m k ≡ true) ⊎ Past m up k → (s k ≡ true) ⊎ Past s c k
        from_u (inl q) = ⊎_elim inl (λ w. inr (rw w (past_here s c present unseen))) ((marked k).holds q)
        from_u (inr p) = inr (past_from s c up k present unseen ((names-c up).passes (inl refl)) (past_less s m keep_m up k p))

    r_c : r c ≡ true
    r_c = beside.keep c (above.keep c ((marked c).passes (inr refl)))

    closed : Closed s r
    closed y z h w q l = ⊎_elim (λ v. at_c z ((marked y).holds v) q l)
        (λ v. closed_then (added_closed above) (added_closed beside) beside.keep y z h v q l) (true_or_false (m y))
      where
        at_c : (z : ℕ) → (s y ≡ true) ⊎ (y ≡ c) → e y z ≡ true → z < n → r z ≡ true
        at_c z (inl k) q l = absurd (true≢false (sym k ∙ w))
        at_c z (inr v) q l = ⊎_elim
            (λ k. beside.keep z (found above z l (λ f. rw k (past_here m z l f))))
            (λ k. found beside z l (λ f. (z, k, past_here u z l f)))
            ((names-c z).holds (rw v at q))

    pub visit_new : (k : ℕ) → Says (r k) ((s k ≡ true) ⊎ Past s c k)
    visit_new k = record { holds = to k; passes = ⊎_elim (λ q. beside.keep k (keep_u k q)) (λ p. closed_reach closed r_c p.reach.walk) }

  -- a walk on from the auxiliary d, the first from i on that is not visited: d is visited, and then those after it
  module _ (aux : ℕ → Bool) (Late Later : ℕ → Type 0) (d : ℕ) (s u r : Set) (present : d < n) (unseen : s d ≡ false) (listed : aux d ≡ true) (late : Late d)
      (first : (x : ℕ) → Late x → aux x ≡ true → x < n → s x ≡ false → (x ≡ d) ⊎ Later x) (later : (x : ℕ) → Later x → Late x)
      (visited : Added s u (Past s d)) (rest : Added u r (λ k. (x : ℕ) × (Later x × (aux x ≡ true)) × Past u x k)) where
    walk_to : (k : ℕ) → r k ≡ true → (s k ≡ true) ⊎ ((x : ℕ) × (Late x × (aux x ≡ true)) × Past s x k)
    walk_to k h = ⊎_elim
        (λ q. ⊎_elim inl (λ p. inr (d, (late, listed), p)) (visited.to k q))
        (λ q. inr (q.0, (later q.0 q.1.0, q.1.1), past_less s u visited.keep q.0 k q.2))
        (rest.to k h)

    walk_closed : Closed s r
    walk_closed = closed_then (added_closed visited) (added_closed rest) rest.keep

    walk_from : (k x : ℕ) → Late x → aux x ≡ true → Past s x k → r k ≡ true
    walk_from k x l q p = ⊎_elim
        (λ w. rest.keep k (visited.new k (rw w at p)))
        (λ w. closed_reach walk_closed (found rest x p.reach.present (λ v. (x, (w, q), past_here u x p.reach.present v))) p.reach.walk)
        (first x l q p.reach.present p.unseen)

    pub walk_more : (k : ℕ) → Says (r k) ((s k ≡ true) ⊎ ((x : ℕ) × (Late x × (aux x ≡ true)) × Past s x k))
    walk_more k = record { holds = walk_to k; passes = ⊎_elim (λ q. rest.keep k (visited.keep k q)) (λ q. walk_from k q.0 q.1.0 q.1.1 q.2) }
