-- Sets side by side, any bytes joined to a set, and the set of one number.
use Rattle.std.specs.Prelude.{eqb, length, ◌*◌, ◌+◌, ◌<◌, suc, zero, ℕ, Bool, ◌||◌, false, List, ◌++◌, ◌∷◌, ◌≡◌}
use Rattle.std.proofs.Common.{arith, zero-add, ◌∙◌, ap}
use Rattle.prelude.specs.Part.{zeros}
use Rattle.prelude.specs.PartLaws.{zeros_length}
use Rattle.prelude.specs.BytesLaws.{zeros_bytes}
use Rattle.prelude.specs.SaysLaws.{says_false}
use Rattle.sets.specs.Sets.{digits_of, member, set_of, union, with_member}
use Rattle.sets.specs.SetsLaws.{bit_zeros, is_set, member_within, says_member, set_cong, set_length, with_set}

-- a set is two sets side by side
pub set_append : (a b : ℕ) (f : ℕ → Bool) → set_of (a + b) f ≡ set_of a f ++ set_of b (λ k. f (a * 8 + k))
unfolding set_of
set_append zero b f =
    ap (λ (m : ℕ). set_of m f) (zero-add b) ∙ set_cong b f (λ k. f (0 * 8 + k)) (λ k l. let e : k ≡ 0 * 8 + k = omega arith in ap f e)
set_append (suc a) b f =
    let s : suc a + b ≡ suc (a + b) = omega arith in
    ap (λ (m : ℕ). set_of m f) s
    ∙ ap (λ (x : List ℕ). digits_of 8 f ∷ x) (set_append a b (λ k. f (8 + k))
    ∙ ap (λ (x : List ℕ). set_of a (λ k. f (8 + k)) ++ x)
    (set_cong b (λ k. f (8 + (a * 8 + k))) (λ k. f (suc a * 8 + k)) (λ k l. let e : 8 + (a * 8 + k) ≡ suc a * 8 + k = omega arith in ap f e)))

-- any bytes joined to a set
pub union_any : (n : ℕ) (f : ℕ → Bool) (s : List ℕ) → union (set_of n f) s ≡ set_of n (λ k. f k || member s k)
unfolding union
union_any n f s =
    ap (λ (m : ℕ). set_of m (λ k. member (set_of n f) k || member s k)) (set_length n f)
    ∙ set_cong n (λ k. member (set_of n f) k || member s k) (λ k. f k || member s k) (λ k l. ap (λ (x : Bool). x || member s k) (member_within n f k l))

-- zeros have no member; one number alone
pub zeros_set : (n : ℕ) → zeros n ≡ set_of n (λ k. false)
zeros_set n = is_set (zeros n) n (λ k. false) (zeros_length n) (zeros_bytes n) (λ k l. bit_zeros n k)

pub member_zeros : (n k : ℕ) → member (zeros n) k ≡ false
member_zeros n k = says_false (says_member (zeros n) k) (λ e. omega (arith, bit_zeros n k))

pub member_alone : (n b k : ℕ) → k < n * 8 → member (with_member b (zeros n)) k ≡ eqb k b
member_alone n b k l =
    ap (λ (s : List ℕ). member s k) (ap (with_member b) (zeros_set n) ∙ with_set n b (λ j. false)) ∙ member_within n (λ j. eqb j b) k l

-- a member of two sets joined
pub member_union : (x y : List ℕ) (k : ℕ) → k < length x * 8 → member (union x y) k ≡ member x k || member y k
unfolding union
member_union x y k l = member_within (length x) (λ j. member x j || member y j) k l
