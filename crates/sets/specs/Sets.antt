-- Sets of small numbers as byte strings: n is a member where bit n % 8, the least significant first, of byte n / 8 is set.
-- The seven sets of a class row and the three kept sets of document 01 are such sets.
use Rattle.std.specs.Prelude.{Bool, true, false, cond, not, ◌&&◌, ◌||◌, List, [], ◌∷◌, ◌++◌, ℕ, zero, suc, ◌+◌, ◌*◌, ◌/◌, ◌%◌, ◌^◌, ◌≤◌, eqb, leb, length, get_or}
use Rattle.prelude.specs.Below.{any_below, all_below}

-- a test as a number
abbrev pub flag : Bool → ℕ
flag true = 1
flag false = 0

-- binary digit k of x, the lowest first: 0 or 1
unfoldable pub digit : ℕ → ℕ → ℕ
digit x k = x / 2 ^ k % 2

-- 1 where n is a member of s, else 0. Past the end of s nothing is a member.
-- As a number, union is the larger, inclusion is ≤ and the count is a sum.
unfoldable pub bit : List ℕ → ℕ → ℕ
bit s n = digit (get_or s (n / 8) 0) (n % 8)

-- n is a member of s
unfoldable pub member : List ℕ → ℕ → Bool
member s n = eqb (bit s n) 1

-- the number of n binary digits of which digit k is 1 where f k holds
unfoldable pub digits_of : ℕ → (ℕ → Bool) → ℕ
digits_of zero f = 0
digits_of (suc n) f = flag (f 0) + 2 * digits_of n (λ k. f (suc k))

-- the n bytes whose members are where f holds
unfoldable pub set_of : ℕ → (ℕ → Bool) → List ℕ
set_of zero f = []
set_of (suc n) f = digits_of 8 f ∷ set_of n (λ k. f (8 + k))

-- s with n added, and with n taken out
unfoldable pub with_member : ℕ → List ℕ → List ℕ
with_member n s = set_of (length s) (λ k. member s k || eqb k n)

unfoldable pub without_member : ℕ → List ℕ → List ℕ
without_member n s = set_of (length s) (λ k. member s k && not (eqb k n))

-- the members of a and those of b, as many bytes as a has
unfoldable pub union : List ℕ → List ℕ → List ℕ
union a b = set_of (length a) (λ k. member a k || member b k)

-- every member of a is one of b
unfoldable pub subset : List ℕ → List ℕ → Bool
subset a b = all_below (length a * 8) (λ k. not (member a k) || member b k)

-- s has no member
unfoldable pub is_empty : List ℕ → Bool
is_empty s = not (any_below (length s * 8) (member s))

-- how many numbers below n pass p
unfoldable pub count_below : ℕ → (ℕ → Bool) → ℕ
count_below zero p = 0
count_below (suc n) p = count_below n p + flag (p n)

-- how many members s has
unfoldable pub member_count : List ℕ → ℕ
member_count s = count_below (length s * 8) (member s)

-- the numbers below n that pass p, in rising order
unfoldable pub list_below : ℕ → (ℕ → Bool) → List ℕ
list_below zero p = []
list_below (suc n) p = list_below n p ++ cond (p n) (n ∷ []) []

-- p, of the numbers from i on
abbrev pub from : ℕ → (ℕ → Bool) → ℕ → Bool
from i p k = leb i k && p k

-- the members of s from i on, in rising order
unfoldable pub members_from : ℕ → List ℕ → List ℕ
members_from i s = list_below (length s * 8) (from i (member s))

-- each number of the list is above the one before, the first at least low
pub data Rises : ℕ → List ℕ → Type 0 where
  none : {low : ℕ} → Rises low []
  more : {low x : ℕ} {xs : List ℕ} → low ≤ x → Rises (suc x) xs → Rises low (x ∷ xs)
