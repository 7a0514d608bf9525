-- Rule 25: the ends of a range.
use Rattle.std.specs.Prelude.{Bool, false, cond, List, ◌≡◌, ℕ, ◌+◌, ◌-◌, ◌^◌, ltb, ℤ, pos, negsuc, ◌<ℤ◌}
use Rattle.std.specs.Int.Signed.{lt_z}
use Rattle.schema.specs.AttributeRow.{range_lower, range_upper}
use Rattle.std.specs.Prelude.{Option, Some, None}

-- "rangeLower and rangeUpper (signed, 32 bits ..)": the integer that 32 bits stand for in two's complement. From half their range on a number
-- stands for itself less 2 ^ 32, and negsuc n is the integer -1 - n
unfoldable pub signed : ℕ → ℤ
signed x = cond (ltb x (2 ^ 31)) (pos x) (negsuc (2 ^ 32 - 1 - x))

-- a is smaller than b with their signs
abbrev pub less_signed : ℕ → ℕ → Bool
less_signed a b = lt_z (signed a) (signed b)

-- how that is computed by numbers without a sign: each half of the range of 32 bits changes places with the other (`less_biased`)
unfoldable pub biased : ℕ → ℕ
biased x = cond (ltb x (2 ^ 31)) (x + 2 ^ 31) (x - 2 ^ 31)

-- equal ends are not crossed: "both negative and equal passes too"
unfoldable pub ends_crossed : Option ℕ → Option ℕ → Bool
ends_crossed (Some lower) (Some upper) = less_signed upper lower
ends_crossed (Some lower) None = false
ends_crossed None upper = false

-- "25 Both ranges present", and, as document 02 has it, "only where rangeLower is greater than rangeUpper"
unfoldable pub range_wrong : List ℕ → Bool
range_wrong row = ends_crossed (range_lower row) (range_upper row)

-- the same as a statement: both are present, and as integers the upper end is smaller than the lower
pub record EndsCrossed (l u : Option ℕ) : Type 0 where
  pub lower : ℕ
  pub upper : ℕ
  pub lower_given : l ≡ Some lower
  pub upper_given : u ≡ Some upper
  pub crossed : signed upper <ℤ signed lower
