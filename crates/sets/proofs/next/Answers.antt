use Rattle.std.proofs.Common.{rules, arith, ◌≡◌, ◌≤◌, ◌<◌, ℕ, Bool, true, false, sym, ◌∙◌, ◌*◌, length}
use Rattle.std.specs.Prelude.{Option, None, Some}
use Rattle.std.specs.Option.{MatchOption, unwrap_or}
use Rattle.std.proofs.lemmas.Iterator.{first_from_Range}
use Rattle.std.proofs.Math.Decide.{dec_lt}
use Rattle.prelude.specs.Below.{first_below}
use Rattle.prelude.specs.BelowLaws.{any_false, first_found, first_absent}
use Rattle.sets.specs.Sets.{member, from}
use Rattle.sets.specs.ListLaws.{from_before, from_past}
use Rattle.sets.proofs.next.Goals as goal

-- what is found of the numbers from start on
found : (start n : ℕ) (p : ℕ → Bool) (o : Option ℕ)
    → MatchOption o ((k : ℕ) → start ≤ k → k < n → p k ≡ false) (λ i. (start ≤ i) × (i < n) × (p i ≡ true) × ((k : ℕ) → start ≤ k → k < i → p k ≡ false))
    → unwrap_or o n ≡ first_below n (from start p)
found start n p None h =
    sym (first_absent (from start p) n (any_false (from start p) n (λ k l. before k (h k) l (dec_lt k start))))
  where
    before : (k : ℕ) → (start ≤ k → k < n → p k ≡ false) → k < n → Dec (k < start) → from start p k ≡ false
    before k h l (yes m) = from_before start p k m
    before k h l (no g) = from_past start p k (omega arith) ∙ h (omega arith) l
found start n p (Some i) h =
    sym (first_found (from start p) i n h.1 (any_false (from start p) i (λ k l. before k l (dec_lt k start))) (from_past start p i h.0 ∙ h.2))
  where
    before : (k : ℕ) → k < i → Dec (k < start) → from start p k ≡ false
    before k l (yes m) = from_before start p k m
    before k l (no g) = from_past start p k (omega arith) ∙ h.3 k (omega arith) l

pub returns : goal.returns
returns c =
    let p = member c.args.s.now in
    c.unwrap_or.ensures
    ∙ found c.args.start (length c.args.s.now * 8) p c.find.result
    (first_from_Range _ _ _ c.find.result (λ k. p k ≡ true) (λ k. p k ≡ false) c.find.ensures.ran (λ x q k. search rules) (λ x q k. search rules))
