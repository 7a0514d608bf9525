-- The judge of all rows. Document 01: "Load and audit name the table and lowest row that break the rule found, attributes first".
use Rattle.std.specs.Prelude.{Bool, true, false, cond, ◌||◌, List, [], ◌∷◌, ◌≡◌, ℕ, ◌<◌}
use Rattle.prelude.specs.Below.{any_below, first_below}
use Rattle.prelude.specs.First.{Case}
use Rattle.schema.specs.declared.answer.Answer.{Answer}
use Rattle.schema.specs.declared.number.TableId.{TableId}
use Rattle.schema.specs.declared.number.TableId.TheVariants.{Attributes, Classes}
use Rattle.schema.specs.Answers.{broken_by, passed, table_number}
use Rattle.schema.specs.Store.{Schema, table}
use Rattle.rules.specs.declared.row.Added.{Added}
use Rattle.rules.specs.Rules.{Rule, schema_rules, cases_of, Each}

-- some row of a table breaks a rule; the lowest that does
abbrev pub breaks_in : Rule → Schema → TableId → Bool
breaks_in r m t = any_below (table t m).count (r.breaks m t)

abbrev pub first_row : Rule → Schema → TableId → ℕ
first_row r m t = first_below (table t m).count (r.breaks m t)

-- one rule over one table: the lowest row that breaks it, else an answer
unfoldable pub judge_table : Rule → Schema → TableId → Answer → Answer
judge_table r m t else = cond (breaks_in r m t) (broken_by r.number t (first_row r m t)) else

-- over both, "attributes first"
unfoldable pub judge_rule : Rule → Schema → Answer → Answer
judge_rule r m else = judge_table r m Attributes (judge_table r m Classes else)

-- rule by rule, in the order of the list
unfoldable pub judge_rules : List Rule → Schema → Answer
judge_rules [] m = passed
judge_rules (r ∷ rs) m = judge_rule r m (judge_rules rs m)

-- a schema by rules 12 to 29
unfoldable pub judged : Added → Schema → Answer
judged added m = judge_rules (schema_rules added) m

-- the rules that some row breaks
abbrev pub broken : Schema → Rule → Bool
broken m r = breaks_in r m Attributes || breaks_in r m Classes

abbrev pub broken_cases : List Rule → Schema → List Case
broken_cases rs m = cases_of (broken m) rs

-- ---- the same as statements

-- no row breaks a rule
abbrev pub Kept : Schema → Rule → Type 0
Kept m r = (t : TableId) (k : ℕ) → k < (table t m).count → r.breaks m t k ≡ false

-- no row breaks any schema rule
abbrev pub AllKept : Added → Schema → Type 0
AllKept added m = Each (Kept m) (schema_rules added)

-- row k of table t is the lowest that breaks a rule, "attributes first"
pub record Lowest (m : Schema) (r : Rule) (t : TableId) (k : ℕ) : Type 0 where
  pub below : k < (table t m).count
  pub breaks : r.breaks m t k ≡ true
  pub none : (j : ℕ) → j < k → r.breaks m t j ≡ false
  pub first : (u : TableId) → table_number u < table_number t → (j : ℕ) → j < (table u m).count → r.breaks m u j ≡ false

-- the answer names the first rule of the list that some row breaks, "the table and lowest row that break the rule found"
pub data FirstBroken (m : Schema) : List Rule → Answer → Type 0 where
  here : {r : Rule} {rs : List Rule} (t : TableId) (k : ℕ) → Lowest m r t k → FirstBroken m (r ∷ rs) (broken_by r.number t k)
  later : {r : Rule} {rs : List Rule} {x : Answer} → Kept m r → FirstBroken m rs x → FirstBroken m (r ∷ rs) x
