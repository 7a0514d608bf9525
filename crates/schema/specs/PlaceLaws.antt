-- The rows of both tables by one number, the attributes first.
use Rattle.std.specs.Prelude.{Bool, cond, ◌≡◌, ℕ, ◌+◌, ◌-◌, ◌<◌, ◌≤◌}
use Rattle.std.proofs.Common.{ap, ◌∙◌, arith}
use Rattle.prelude.specs.SaysLaws.{says_false, says_lt, says_true}
use Rattle.schema.specs.Numbers.{number_of, place_id, row_id, table_of}
use Rattle.schema.specs.Store.{Schema, place_of, place_row, table}
use Rattle.schema.specs.declared.number.RowId.{RowId}
use Rattle.schema.specs.declared.number.TableId.{TableId}
use Rattle.schema.specs.declared.number.TableId.TheVariants.{Attributes, Classes}

pub place_low : (n p : ℕ) → p < n → place_id n p ≡ row_id Attributes p
unfolding place_id
place_low n p l = ap (λ (b : Bool). cond b (row_id Attributes p) (row_id Classes (p - n))) (says_true (says_lt p n) l)

pub place_high : (n p : ℕ) → n ≤ p → place_id n p ≡ row_id Classes (p - n)
unfolding place_id
place_high n p l = ap (λ (b : Bool). cond b (row_id Attributes p) (row_id Classes (p - n))) (says_false (says_lt p n) (λ h. omega (arith, h)))

module _ (m : Schema) where
  pub place_back : (t : TableId) (k : ℕ) → k < (table t m).count → place_id m.attributes.count (place_of m t k) ≡ row_id t k
  place_back Attributes k l = place_low m.attributes.count k l
  place_back Classes k l =
      let e : m.attributes.count + k - m.attributes.count ≡ k = omega arith in
      place_high m.attributes.count (m.attributes.count + k) (omega arith) ∙ ap (row_id Classes) e

  pub place_row_lem : (t : TableId) (k : ℕ) → k < (table t m).count → place_row m (place_of m t k) ≡ (table t m).row k
  place_row_lem Attributes k l = ap (λ (i : RowId). (table (table_of i) m).row (number_of i)) (place_back Attributes k l)
  place_row_lem Classes k l = ap (λ (i : RowId). (table (table_of i) m).row (number_of i)) (place_back Classes k l)
