-- Uniqueness depends only on the rows that the tables hold.
use Rattle.std.specs.Prelude.{Bool, ◌&&◌, ◌||◌, ◌≡◌, ℕ, ◌<◌}
use Rattle.std.proofs.Math.Bool.{not}
use mathlib.Core.List.{List}
use Rattle.std.proofs.Math.Path.{ap, ap₂}
use Rattle.std.proofs.Common.{◌∙◌}
use Rattle.schema.specs.declared.number.TableId.{TableId}
use Rattle.schema.specs.declared.number.TableId.TheVariants.{Attributes, Classes}
use Rattle.schema.specs.Numbers.{same_row}
use Rattle.schema.specs.Store.{Table, Schema, table}
use Rattle.tables.specs.Same.{Same, SameRows}
use Rattle.tables.specs.SameLaws.{any_same}
use Rattle.rules_unique.specs.declared.Key.{Key}
use Rattle.rules_unique.specs.Unique.{Counting, has_key, clash, rival_in, taken}

module _ (counts : Counting) (key : Key) where
  rival_same : (u : TableId) {x y : Table} → Same x y → (t : TableId) (k : ℕ) (row : List ℕ) → rival_in counts key u x t k row ≡ rival_in counts key u y t k row
  unfolding rival_in
  rival_same u s t k row = ap (λ (q : Bool). has_key key u && q)
      (any_same s _ _ (λ j l. ap (λ (r : List ℕ). not (same_row t k u j) && clash counts key row r) (s.rows j l)))

  -- of a row that is there
  pub taken_same : {m n : Schema} → SameRows m n → (t : TableId) (k : ℕ) → k < (table t m).count → taken counts key m t k ≡ taken counts key n t k
  unfolding taken
  taken_same {m} {n} s t k l =
      ap₂ (λ (p q : Bool). has_key key t && (p || q)) (rival_same Attributes (s Attributes) t k ((table t m).row k))
      (rival_same Classes (s Classes) t k ((table t m).row k))
      ∙ ap (λ (r : List ℕ). has_key key t && (rival_in counts key Attributes n.attributes t k r || rival_in counts key Classes n.classes t k r))
      ((s t).rows k l)
