-- Laws of the first case that holds, for every list of cases.
use Rattle.std.specs.Prelude.{◌≡◌, refl, true, false, ◌⊎◌, ◌↔◌, List, [], ◌∷◌, ◌++◌, ℕ, ◌≤◌, ◌<◌}
use Rattle.std.proofs.Common.{sym, ap, ◌∙◌, inl, inr, ⊎_elim, arith}
use Rattle.std.proofs.lemmas.Bool.{false≢true}
use Rattle.std.proofs.Math.Logic.{⊎_map}
use Rattle.std.proofs.Math.Decide.{ℕ_discrete, dec_lt}
use Rattle.prelude.specs.SaysLaws.{true_or_false}
use Rattle.prelude.specs.First.{Case, first_of, NoneHolds, FirstHolds, Among, NonZero, Rising}

-- ---- one case, for a function that tests one after the other

pub first_none : first_of [] ≡ 0
unfolding first_of
first_none = refl

pub first_hit : (c : Case) (cs : List Case) → c.holds ≡ true → first_of (c ∷ cs) ≡ c.number
unfolding first_of
first_hit c cs e = rw e

pub first_miss : (c : Case) (cs : List Case) → c.holds ≡ false → first_of (c ∷ cs) ≡ first_of cs
unfolding first_of
first_miss c cs e = rw e

-- two lists that begin alike: the rest is compared only where the first condition does not hold
pub first_rest : (c : Case) (cs ds : List Case) → (c.holds ≡ false → first_of cs ≡ first_of ds) → first_of (c ∷ cs) ≡ first_of (c ∷ ds)
first_rest c cs ds h = ⊎_elim (λ e. first_hit c cs e ∙ sym (first_hit c ds e)) (λ e. first_miss c cs e ∙ h e ∙ sym (first_miss c ds e))
    (true_or_false c.holds)

-- ---- what the answer is

-- the first that holds is the answer
pub first_is : {n : ℕ} {cs : List Case} → FirstHolds n cs → first_of cs ≡ n
first_is (FirstHolds.here {c} {cs} e q) = first_hit c cs e ∙ q
first_is (FirstHolds.there {c} {cs} e h) = first_miss c cs e ∙ first_is h

pub none_zero : (cs : List Case) → NoneHolds cs → first_of cs ≡ 0
none_zero [] h = first_none
none_zero (c ∷ cs) h = first_miss c cs h.0 ∙ none_zero cs h.1

-- some condition holds first, or none does
pub first_or_none : (cs : List Case) → FirstHolds (first_of cs) cs ⊎ NoneHolds cs
first_or_none [] = inr tt
first_or_none (c ∷ cs) = go (first_or_none cs) (true_or_false c.holds)
  where
    go : FirstHolds (first_of cs) cs ⊎ NoneHolds cs → (c.holds ≡ true) ⊎ (c.holds ≡ false) → FirstHolds (first_of (c ∷ cs)) (c ∷ cs) ⊎ NoneHolds (c ∷ cs)
    go d (inl e) = inl (FirstHolds.here e (sym (first_hit c cs e)))
    go (inl h) (inr e) = inl (rw (first_miss c cs e) (FirstHolds.there e h))
    go (inr h) (inr e) = inr (e, h)

first_positive : {n : ℕ} (cs : List Case) → NonZero cs → FirstHolds n cs → 0 < n
first_positive {n = n} [] z x'' = elim x'' [ ]
first_positive (c ∷ cs) z (FirstHolds.here e q) = omega (arith, z.0)
first_positive (c ∷ cs) z (FirstHolds.there e h) = first_positive cs z.1 h

-- 0 is the answer exactly where no condition holds
pub zero_iff_none : (cs : List Case) → NonZero cs → (first_of cs ≡ 0) ↔ NoneHolds cs
zero_iff_none cs z = (λ e. ⊎_elim (λ h. absurd (omega (arith, first_positive cs z h))) (λ h. h) (first_or_none cs), none_zero cs)

-- any other answer is of the first condition that holds
pub other_first : (cs : List Case) → ¬ (first_of cs ≡ 0) → FirstHolds (first_of cs) cs
other_first cs d = ⊎_elim (λ h. h) (λ h. absurd (d (none_zero cs h))) (first_or_none cs)

pub first_among : {n : ℕ} {cs : List Case} → FirstHolds n cs → Among n cs
first_among (FirstHolds.here e q) = Among.here e q
first_among (FirstHolds.there e h) = Among.there (first_among h)

-- ---- where the ranks rise, the first has the smallest

module _ (rank : ℕ → ℕ) where
  pub among_above : {n : ℕ} (m : ℕ) (cs : List Case) → Rising rank m cs → Among n cs → m < rank n
  among_above {n = n} m [] r x'' = elim x'' [ ]
  among_above m (c ∷ cs) r (Among.here e q) = omega (arith, r.0, ap rank q)
  among_above m (c ∷ cs) r (Among.there a) = omega (arith, r.0, among_above (rank c.number) cs r.1 a)

  -- 0 has the rank 0, so that it stands above nothing
  pub rising_nonzero : rank 0 ≡ 0 → (m : ℕ) (cs : List Case) → Rising rank m cs → NonZero cs
  rising_nonzero z m [] r = tt
  rising_nonzero z m (c ∷ cs) r = (go (dec_lt 0 c.number), rising_nonzero z (rank c.number) cs r.1)
    where
      go : Dec (0 < c.number) → 0 < c.number
      go (yes l) = l
      go (no d) = let e : c.number ≡ 0 = omega arith in absurd (omega (arith, r.0, ap rank e))

  pub first_least : (m n : ℕ) (cs : List Case) → Rising rank m cs → Among n cs → rank (first_of cs) ≤ rank n
  first_least m n [] r x'' = elim x'' [ ]
  first_least m n (c ∷ cs) r (Among.here e q) = omega (arith, ap rank (first_hit c cs e ∙ q))
  first_least m n (c ∷ cs) r (Among.there a) = go (first_least (rank c.number) n cs r.1 a) (true_or_false c.holds)
    where
      go : rank (first_of cs) ≤ rank n → (c.holds ≡ true) ⊎ (c.holds ≡ false) → rank (first_of (c ∷ cs)) ≤ rank n
      go ih (inl e) = omega (arith, ap rank (first_hit c cs e), among_above (rank c.number) cs r.1 a)
      go ih (inr e) = omega (arith, ap rank (first_miss c cs e))

  -- the first is of a rank above n, or none holds
  pub first_above : (n : ℕ) (cs : List Case) → Rising rank n cs → (first_of cs ≡ 0) ⊎ (n < rank (first_of cs))
  first_above n cs rise = go (ℕ_discrete (first_of cs) 0)
    where
      go : Dec (first_of cs ≡ 0) → (first_of cs ≡ 0) ⊎ (n < rank (first_of cs))
      go (yes e) = inl e
      go (no d) = inr (among_above n cs rise (first_among (other_first cs d)))

-- ---- two lists one after the other: a group of cases that a function of its own judges

pub append_miss : (p q : List Case) → NoneHolds p → first_of (p ++ q) ≡ first_of q
append_miss [] q h = refl
append_miss (c ∷ p) q h = first_miss c (p ++ q) h.0 ∙ append_miss p q h.1

append_hit : {n : ℕ} (p q : List Case) → FirstHolds n p → FirstHolds n (p ++ q)
append_hit {n = n} [] q x' = elim x' [ ]
append_hit (c ∷ p) q (FirstHolds.here e r) = FirstHolds.here e r
append_hit (c ∷ p) q (FirstHolds.there e h) = FirstHolds.there e (append_hit p q h)

-- the first group gives a number: that is the answer. It gives 0: the second group's is
pub append_first : (p q : List Case) → ¬ (first_of p ≡ 0) → first_of (p ++ q) ≡ first_of p
append_first p q d = first_is (append_hit p q (other_first p d))

pub append_second : (p q : List Case) → NonZero p → first_of p ≡ 0 → first_of (p ++ q) ≡ first_of q
append_second p q z e = append_miss p q ((zero_iff_none p z).0 e)

-- two lists one after the other
pub among_append : {n : ℕ} (p q : List Case) → Among n (p ++ q) → Among n p ⊎ Among n q
among_append [] q a = inr a
among_append (c ∷ p) q (Among.here e i) = inl (Among.here e i)
among_append (c ∷ p) q (Among.there a) = ⊎_map Among.there (λ x. x) (among_append p q a)

pub among_left : {n : ℕ} {p : List Case} (q : List Case) → Among n p → Among n (p ++ q)
among_left q (Among.here e i) = Among.here e i
among_left q (Among.there a) = Among.there (among_left q a)

pub among_right : {n : ℕ} (p : List Case) {q : List Case} → Among n q → Among n (p ++ q)
among_right [] a = a
among_right (c ∷ p) a = Among.there (among_right p a)

-- where no condition holds, none is among them
pub none_among : {n : ℕ} {cs : List Case} → NoneHolds cs → ¬ (Among n cs)
none_among h (Among.here e q) = false≢true (sym h.0 ∙ e)
none_among h (Among.there a) = none_among h.1 a

-- two lists that begin alike: the rest is compared only where none of the first conditions holds
pub append_rest : (p q u : List Case) → (NoneHolds p → first_of q ≡ first_of u) → first_of (p ++ q) ≡ first_of (p ++ u)
append_rest [] q u h = h tt
append_rest (c ∷ p) q u h = first_rest c (p ++ q) (p ++ u) (λ e. append_rest p q u (λ none. h (e, none)))

-- two lists one after the other give what others give that give the same
pub append_cong : (p q u v : List Case) → NonZero p → NonZero u → first_of p ≡ first_of u → first_of q ≡ first_of v → first_of (p ++ q) ≡ first_of (u ++ v)
append_cong p q u v zp zu e f = go (ℕ_discrete (first_of p) 0)
  where
    go : Dec (first_of p ≡ 0) → first_of (p ++ q) ≡ first_of (u ++ v)
    go (yes z) = append_second p q zp z ∙ f ∙ sym (append_second u v zu (sym e ∙ z))
    go (no d) = append_first p q d ∙ e ∙ sym (append_first u v (λ z. d (e ∙ z)))
