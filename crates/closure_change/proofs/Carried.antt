-- What an entry's change carries, as the code reads it.
use mathlib.Core.List.{List}
use mathlib.Core.Path.{◌≡◌}
use Prim.Native.Nat.{ℕ}
use native.Mathlib.Omega.{arith}
use Rattle.schema.specs.declared.number.TableId.TheVariants.{Attributes, Classes}
use Rattle.change_read.specs.declared.carried.OpenList.{OpenList}
use Rattle.closure_change.specs.After.{entry_demands, entry_joined}

pub entry_same : {l m : OpenList} {e f k j : ℕ} → l ≡ m → e ≡ f → k ≡ j → (closure : List ℕ) → entry_demands l e k closure ≡ entry_demands m f j closure
entry_same p q r closure = λ i. entry_demands (p i) (q i) (r i) closure

pub joined_same : {l m : OpenList} {e f : ℕ} → l ≡ m → e ≡ f → (n : ℕ) {k j : ℕ} → k ≡ j → (closure : List ℕ) → entry_joined l e n k closure
    ≡ entry_joined m f n j closure
joined_same p q n r closure = λ i. entry_joined (p i) (q i) n (r i) closure

-- the two tables are not one
pub not_same : Classes ≡ Attributes → ⊥
not_same e = let no : ◌≡◌ {A = ℕ} 0 1 = cc in omega arith
