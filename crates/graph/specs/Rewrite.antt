-- Functions that rewrite a row of the closure store.
use Rattle.std.specs.Prelude.{ℕ, List, ◌≡◌, ◌<◌, length}
use denote.Ref.{MutBor}
use Rattle.schema.specs.Layout.{closure_width}
use Rattle.schema.specs.Numbers.{class_limit}
use Rattle.schema.specs.Store.{closure_at}
use Rattle.schema.specs.declared.number.ClassNumber.{ClassNumber}

-- each of f's values is as wide as a row
abbrev pub AreRows : (ℕ → List ℕ) → Type 0
AreRows f = (c : ℕ) → c < class_limit → length (f c) ≡ closure_width

-- a function may be called for each of the first n classes, at a row
abbrev pub TakesRows : (ClassNumber → MutBor (List ℕ) → Type 0) → ℕ → Type 0
TakesRows pre n = (c : ClassNumber) (row : MutBor (List ℕ)) → c.0 < n → length row.now ≡ closure_width → pre c row

-- called at the row of such a class, it leaves what f gives for the class
abbrev pub LeavesRows : (ClassNumber → MutBor (List ℕ) → Unit {0} → MutBor (List ℕ) → Type 0) → List ℕ → ℕ → (ℕ → List ℕ) → Type 0
LeavesRows post closure n f =
    (c : ClassNumber) (row left : MutBor (List ℕ)) → c.0 < n → row.now ≡ closure_at closure c.0 → post c row tt left → left.now ≡ f c.0
