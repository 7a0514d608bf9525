-- The stages of Warshall's rule: the first, one more, and the last.
use mathlib.Core.Bool.{Bool, true, false, cond, ◌&&◌, ◌||◌}
use mathlib.Core.List.{List, [], ◌++◌}
use mathlib.Core.Logic.{◌⊎◌, inl, inr, ⊎_elim}
use mathlib.Core.Path.{◌≡◌, refl, sym, ap, ap₂, ◌∙◌}
use Prim.Native.Nat.{ℕ, zero, suc, ◌+◌, ◌*◌, ◌≤◌, ◌<◌}
use native.Mathlib.Numerals.{add-one}
use native.Mathlib.Omega.{arith}
use lib.Dec.{eqb, ltb}
use Rattle.prelude.specs.SaysLaws.{says_and, says_or, says_lt, says_eq, says_test, says_iff, says_same, says_true, says_false, true_or_false}
use Rattle.prelude.specs.Below.{any_below}
use Rattle.prelude.specs.BelowLaws.{any_cong, any_one, any_false, last_or_less}
use Rattle.prelude.specs.Part.{part, zeros}
use Rattle.prelude.specs.PartLaws.{part_between, zeros_add}
use Rattle.sets.specs.Sets.{member, set_of, union}
use Rattle.sets.specs.SetsLaws.{set_length, member_within, or-false}
use Rattle.sets.specs.SideLaws.{zeros_set}
use Rattle.schema.specs.Numbers.{class_limit}
use Rattle.schema.specs.Layout.{class_set, attribute_set, closure_width, reached_at}
use Rattle.schema.specs.Store.{Table}
use Rattle.graph.specs.Walk.{via}
use Rattle.graph.specs.WarshallLaws.{via_suc, via_self}
use Rattle.graph.specs.ThreeLaws.{three, three_cong, three_union}
use Rattle.graph.specs.Graph.{reaches_by, collects_by, inherits, lists_mandatory, lists_optional, reaches, closure_row}
use Rattle.graph.specs.Stages.{steps_to, comes_to, gathers_from, gathers, stage_row, passed_row}

-- some number passes one test, or, where q holds, another
any_apart : (n : ℕ) (q : Bool) (p r o : ℕ → Bool)
    → any_below n (λ x. (p x || (q && r x)) && o x) ≡ any_below n (λ x. p x && o x) || (q && any_below n (λ x. r x && o x))
unfolding any_below
any_apart zero true p r o = refl
any_apart zero false p r o = refl
any_apart (suc n) q p r o =
    ap (λ (x : Bool). x || ((p n || (q && r n)) && o n)) (any_apart n q p r o)
    ∙ mix q (any_below n (λ x. p x && o x)) (any_below n (λ x. r x && o x)) (p n) (r n) (o n)
  where
    mix : (q a b p r o : Bool) → (a || (q && b)) || ((p || (q && r)) && o) ≡ (a || (p && o)) || (q && (b || (r && o)))
    mix false true b p r o = refl
    mix false false b true r true = refl
    mix false false b true r false = refl
    mix false false b false r o = refl
    mix true true b p r o = refl
    mix true false true true r true = refl
    mix true false true true r false = refl
    mix true false true false r o = refl
    mix true false false true r true = refl
    mix true false false true true false = refl
    mix true false false true false false = refl
    mix true false false false r o = refl

module _ (t : Table) where
  -- ---- one stage more

  comes_more : (k c x : ℕ) → k < t.count → comes_to t (k + 1) c x ≡ comes_to t k c x || (comes_to t k c k && comes_to t k k x)
  unfolding comes_to via
  comes_more k c x l =
      rw (add-one k, says_true (says_lt k t.count) l)
      (go (ltb c t.count) (via k (steps_to t) c x) (via k (steps_to t) c k) (via k (steps_to t) k x))
    where
      go : (r a b d : Bool) → r && (a || (b && d)) ≡ (r && a) || ((r && b) && (true && d))
      go true a b d = refl
      go false a b d = refl

  from_more : (k c x : ℕ) → k < t.count → gathers_from t (k + 1) c x ≡ gathers_from t k c x || (comes_to t k c k && gathers_from t k k x)
  unfolding gathers_from comes_to
  from_more k c x l =
      rw (add-one k)
      (says_same (says_and (says_lt c t.count) (says_or (says_eq x c) (says_and (says_lt x (suc k)) (via_suc (steps_to t) k c x))))
      (says_iff
      (says_or (says_and (says_lt c t.count) (says_or (says_eq x c) (says_and (says_lt x k) (says_test (via k (steps_to t) c x)))))
      (says_and (says_and (says_lt c t.count) (says_test (via k (steps_to t) c k)))
      (says_and (says_lt k t.count) (says_or (says_eq x k) (says_and (says_lt x k) (says_test (via k (steps_to t) k x)))))))
      (⊎_elim old new, back)))
    where
      To : ℕ → ℕ → Type 0
      To c x = via k (steps_to t) c x ≡ true

      After : Type 0
      After = (c < t.count) × ((x ≡ c) ⊎ ((x < suc k) × (To c x ⊎ (To c k × To k x))))

      old : (c < t.count) × ((x ≡ c) ⊎ ((x < k) × To c x)) → After
      old h = (h.0, ⊎_elim (λ e. inl e) (λ p. inr (omega (arith, p.0), inl p.1)) h.1)

      new : ((c < t.count) × To c k) × ((k < t.count) × ((x ≡ k) ⊎ ((x < k) × To k x))) → After
      new h = (
        h.0.0,
        inr (⊎_elim (λ e. (omega (arith, e), inl (rw e h.0.1))) (λ p. (omega (arith, p.0), inr (h.0.1, p.1))) h.1.1),
      )

      back : After → ((c < t.count) × ((x ≡ c) ⊎ ((x < k) × To c x))) ⊎ (((c < t.count) × To c k) × ((k < t.count) × ((x ≡ k) ⊎ ((x < k) × To k x))))
      back h = ⊎_elim (λ e. inl (h.0, inl e)) (λ p. ⊎_elim (below p.1) (last p.1) (last_or_less p.0)) h.1
        where
          below : To c x ⊎ (To c k × To k x) → x < k → ((c < t.count) × ((x ≡ c) ⊎ ((x < k) × To c x)))
              ⊎ (((c < t.count) × To c k) × ((k < t.count) × ((x ≡ k) ⊎ ((x < k) × To k x))))
          below (inl v) m = inl (h.0, inr (m, v))
          below (inr v) m = inr ((h.0, v.0), (l, inr (m, v.1)))

          last : To c x ⊎ (To c k × To k x) → x ≡ k → ((c < t.count) × ((x ≡ c) ⊎ ((x < k) × To c x)))
              ⊎ (((c < t.count) × To c k) × ((k < t.count) × ((x ≡ k) ⊎ ((x < k) × To k x))))
          last (inl v) e = inr ((h.0, rw e at v), (l, inl e))
          last (inr v) e = inr ((h.0, v.0), (l, inl e))

  gathers_more : (o : ℕ → ℕ → Bool) (k c b : ℕ) → k < t.count → gathers t o (k + 1) c b ≡ gathers t o k c b || (comes_to t k c k && gathers t o k k b)
  unfolding gathers
  gathers_more o k c b l =
      any_cong t.count _ _ (λ x m. ap (λ (q : Bool). q && o x b) (from_more k c x l))
      ∙ any_apart t.count (comes_to t k c k) (gathers_from t k c) (gathers_from t k k) (λ x. o x b)

  module _ (few : t.count ≤ class_limit) where
    come_part : (k c : ℕ) → k < t.count → member (part reached_at class_set (stage_row t k c)) k ≡ comes_to t k c k
    unfolding stage_row
    come_part k c l =
        ap (λ (s : List ℕ). member s k)
        (part_between [] (set_of class_set (comes_to t k c)) (set_of attribute_set (gathers t (lists_mandatory t) k c) ++ set_of attribute_set (gathers t
        (lists_optional t) k c))
        reached_at class_set refl (set_length class_set (comes_to t k c)))
        ∙ member_within class_set (comes_to t k c) k (omega arith)

    -- class k passes on what it has
    pub stage_more : (k c : ℕ) → k < t.count → passed_row k (stage_row t k k) (stage_row t k c) ≡ stage_row t (k + 1) c
    unfolding passed_row stage_row
    stage_more k c l = ap (λ (q : Bool). cond q (union (stage_row t k c) (stage_row t k k)) (stage_row t k c)) (come_part k c l)
        ∙ go (true_or_false (comes_to t k c k))
      where
        go : (comes_to t k c k ≡ true) ⊎ (comes_to t k c k ≡ false)
            → cond (comes_to t k c k) (union (stage_row t k c) (stage_row t k k)) (stage_row t k c) ≡ stage_row t (k + 1) c
        go (inl q) = ap (λ (r : Bool). cond r (union (stage_row t k c) (stage_row t k k)) (stage_row t k c)) q
            ∙ three_union _ _ _ _ _ _
            ∙ three_cong
            (λ x m. sym (comes_more k c x l ∙ ap (λ (r : Bool). comes_to t k c x || (r && comes_to t k k x)) q))
            (λ b m. sym (gathers_more (lists_mandatory t) k c b l
            ∙ ap (λ (r : Bool). gathers t (lists_mandatory t) k c b || (r && gathers t (lists_mandatory t) k k b)) q))
            (λ b m. sym (gathers_more (lists_optional t) k c b l
            ∙ ap (λ (r : Bool). gathers t (lists_optional t) k c b || (r && gathers t (lists_optional t) k k b)) q))
        go (inr q) = ap (λ (r : Bool). cond r (union (stage_row t k c) (stage_row t k k)) (stage_row t k c)) q
            ∙ three_cong
            (λ x m. sym (comes_more k c x l ∙ or-false _ _ (ap (λ (r : Bool). r && comes_to t k k x) q)))
            (λ b m. sym (gathers_more (lists_mandatory t) k c b l ∙ or-false _ _ (ap (λ (r : Bool). r && gathers t (lists_mandatory t) k k b) q)))
            (λ b m. sym (gathers_more (lists_optional t) k c b l ∙ or-false _ _ (ap (λ (r : Bool). r && gathers t (lists_optional t) k k b) q)))

  -- ---- the last: all classes have passed on what they have

  from_end : (c x : ℕ) → x < t.count → gathers_from t t.count c x ≡ reaches t c x
  unfolding gathers_from reaches_by steps_to
  from_end c x l =
      says_same
      (says_iff (says_and (says_lt c t.count) (says_or (says_eq x c) (says_and (says_lt x t.count) (says_test (via t.count (steps_to t) c x))))) (
        λ h. (h.0, ⊎_elim (λ e. rw e (via_self (steps_to t) t.count c)) (λ p. p.1) h.1),
        λ h. (h.0, inr (l, h.1)),
      ))
      (says_and (says_lt c t.count) (says_test (via t.count (steps_to t) c x)))

  gathers_end : (o : ℕ → ℕ → Bool) (c b : ℕ) → gathers t o t.count c b ≡ collects_by t.count (inherits t) o c b
  unfolding gathers collects_by
  gathers_end o c b = any_cong t.count _ _ (λ x l. ap (λ (q : Bool). q && o x b) (from_end c x l))

  comes_end : (c x : ℕ) → comes_to t t.count c x ≡ reaches t c x
  unfolding comes_to reaches_by steps_to
  comes_end c x = refl

  pub stage_end : (c : ℕ) → stage_row t t.count c ≡ closure_row t c
  unfolding stage_row closure_row
  stage_end c = three_cong (λ x l. comes_end c x) (λ b l. gathers_end (lists_mandatory t) c b) (λ b l. gathers_end (lists_optional t) c b)

  -- ---- the first: a class without a row has nothing; any other, what it names and lists itself

  pub stage_none : (k c : ℕ) → t.count ≤ c → stage_row t k c ≡ zeros closure_width
  unfolding stage_row gathers gathers_from comes_to
  stage_none k c l =
      let off : ltb c t.count ≡ false = says_false (says_lt c t.count) (λ m. omega arith) in
      three_cong {p = λ x. false} {q = λ b. false} {o = λ b. false}
      (λ x m. ap (λ (q : Bool). q && via k (steps_to t) c x) off)
      (λ b m. any_false _ t.count (λ x h. ap (λ (q : Bool). (q && (eqb x c || (ltb x k && via k (steps_to t) c x))) && lists_mandatory t x b) off))
      (λ b m. any_false _ t.count (λ x h. ap (λ (q : Bool). (q && (eqb x c || (ltb x k && via k (steps_to t) c x))) && lists_optional t x b) off))
      ∙ sym (zeros_add class_set (attribute_set + attribute_set)
      ∙ ap₂ ◌++◌ (zeros_set class_set) (zeros_add attribute_set attribute_set ∙ ap₂ ◌++◌ (zeros_set attribute_set) (zeros_set attribute_set)))

  module _ (c : ℕ) (there : c < t.count) where
    gathers_first : (o : ℕ → ℕ → Bool) (b : ℕ) → gathers t o 0 c b ≡ o c b
    unfolding gathers gathers_from
    gathers_first o b = any_one t.count c _ there (λ x l d. ap (λ (q : Bool). q && o x b) (others x d)) ∙ ap (λ (q : Bool). q && o c b) itself
      where
        itself : gathers_from t 0 c c ≡ true
        itself = rw (says_true (says_lt c t.count) there, says_true (says_eq c c) refl)

        others : (x : ℕ) → ¬ (x ≡ c) → gathers_from t 0 c x ≡ false
        others x d = rw (says_true (says_lt c t.count) there, says_false (says_eq x c) d, says_false (says_lt x 0) (λ l. omega arith))

    pub stage_first : (r m o : ℕ → Bool) → ((x : ℕ) → x < class_set * 8 → r x ≡ comes_to t 0 c x)
        → ((b : ℕ) → b < attribute_set * 8 → m b ≡ lists_mandatory t c b) → ((b : ℕ) → b < attribute_set * 8 → o b ≡ lists_optional t c b)
        → three r m o ≡ stage_row t 0 c
    unfolding stage_row
    stage_first r m o p q s = three_cong p (λ b l. q b l ∙ sym (gathers_first (lists_mandatory t) b))
        (λ b l. s b l ∙ sym (gathers_first (lists_optional t) b))
