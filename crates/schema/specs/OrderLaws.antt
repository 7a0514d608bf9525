-- The order of judging: what a number's rank says.
use Rattle.std.specs.Prelude.{true, false, List, [], ◌∷◌, ◌⊎◌, ◌≡◌, refl, ℕ, suc, ◌<◌, eqb, length}
use Rattle.std.proofs.Common.{inl, inr, sym, ◌∙◌, arith}
use Rattle.prelude.specs.SaysLaws.{says_eq, says_split}
use Rattle.schema.specs.Order.{order, position, rank}

-- "done" comes first: it is the answer only where nothing else is
pub rank_zero : rank 0 ≡ 0
unfolding rank position
rank_zero = refl

-- of a number and the rest of a list
position_here : (x : ℕ) (xs : List ℕ) (n : ℕ) → eqb x n ≡ true → position (x ∷ xs) n ≡ 0
unfolding position
position_here x xs n e = rw e

position_later : (x : ℕ) (xs : List ℕ) (n : ℕ) → eqb x n ≡ false → position (x ∷ xs) n ≡ suc (position xs n)
unfolding position
position_later x xs n e = rw e

-- a number that stands in a list stands there before or after every other
position_apart : (xs : List ℕ) (m n : ℕ) → position xs m < length xs → position xs m ≡ position xs n → m ≡ n
position_apart [] m n l e = absurd (omega arith)
position_apart (x ∷ xs) m n l e = go (position_apart xs m n) (says_split (says_eq x m)) (says_split (says_eq x n))
  where
    go : (position xs m < length xs → position xs m ≡ position xs n → m ≡ n)
        → ((eqb x m ≡ true) × (x ≡ m)) ⊎ ((eqb x m ≡ false) × ¬ (x ≡ m)) → ((eqb x n ≡ true) × (x ≡ n)) ⊎ ((eqb x n ≡ false) × ¬ (x ≡ n)) → m ≡ n
    go ih (inl p) (inl q) = sym p.1 ∙ q.1
    go ih (inl p) (inr q) = absurd (omega (arith, e, position_here x xs m p.0, position_later x xs n q.0))
    go ih (inr p) (inl q) = absurd (omega (arith, e, position_later x xs m p.0, position_here x xs n q.0))
    go ih (inr p) (inr q) =
        let a = position_later x xs m p.0 in
        let b = position_later x xs n q.0 in
        ih (omega (arith, l, a)) (omega (arith, e, a, b))

-- so two numbers of the order with one rank are one number: the first of several is one number
pub rank_apart : (m n : ℕ) → rank m < length order → rank m ≡ rank n → m ≡ n
unfolding rank
rank_apart = position_apart order
