-- Byte strings one after the other.
use Rattle.std.specs.Prelude.{List, [], ◌++◌, ℕ, zero, suc}

-- f 0, f 1, .. f (n - 1), one after the other
unfoldable pub concat_below : ℕ → (ℕ → List ℕ) → List ℕ
concat_below zero f = []
concat_below (suc n) f = concat_below n f ++ f n
