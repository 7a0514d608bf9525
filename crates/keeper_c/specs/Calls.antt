-- The calls as C sees them: the number is returned, table and place stand in the first two numbers of `detail`. Each says what the keeper's own
-- definition says; a `detail` too short for both counts as a short store: "1 a lent store is shorter than its length", and nothing is altered.
use Rattle.std.specs.Prelude.{Bool, cond, List, ℕ, ltb, length, set}
use Rattle.schema.specs.Store.{Stores, Result}
use Rattle.schema.specs.declared.answer.Answer.{Answer}
use Rattle.schema.specs.Refusals as refusal
use Rattle.keeper.specs.Audit.{audit}
use Rattle.keeper.specs.Depth.{depth}
use Rattle.keeper.specs.Load.{load}
use Rattle.keeper.specs.Write.{Written, write}
use Rattle.keeper_change.specs.Plain.{plain_change}
use Rattle.keeper_change.specs.Quick.{quick_change}

-- table and place
abbrev pub detail_length : ℕ
detail_length = 2

unfoldable pub is_short : List ℕ → Bool
is_short detail = ltb (length detail) detail_length

-- what a call tells: the number that it returns, and detail as it leaves it
pub record Told : Type 0 where
  pub number : ℕ
  pub detail : List ℕ

abbrev pub told : ℕ → List ℕ → Told
told n detail = record { number = n; detail = detail }

-- an answer, told
unfoldable pub answered : Answer → List ℕ → Told
answered a detail = told a.number (set (set detail 0 a.table) 1 a.place)

unfoldable pub audit_call : Stores → List ℕ → Told
audit_call s detail = cond (is_short detail) (told refusal.short_store detail) (answered (audit s) detail)

unfoldable pub depth_call : Stores → ℕ → List ℕ → Told
depth_call s c detail = cond (is_short detail) (told refusal.short_store detail) (answered (depth s c) detail)

-- what a call that may write the stores tells, and the stores as it leaves them
pub record Outcome : Type 0 where
  pub tells : Told
  pub left : Stores

abbrev pub outcome : Told → Stores → Outcome
outcome t s = record { tells = t; left = s }

abbrev pub outcome_by : Result → List ℕ → Outcome
outcome_by r detail = outcome (answered r.answer detail) r.left

-- such a call: what the keeper's own comes to, told of the stores that it was lent
unfoldable pub stores_call : Result → Stores → List ℕ → Outcome
stores_call r s detail = cond (is_short detail) (outcome (told refusal.short_store detail) s) (outcome_by r detail)

abbrev pub load_call : List ℕ → Stores → List ℕ → Outcome
load_call sheet s detail = stores_call (load sheet s) s detail

abbrev pub plain_change_call : List ℕ → Stores → List ℕ → Outcome
plain_change_call change s detail = stores_call (plain_change change s) s detail

abbrev pub quick_change_call : List ℕ → Stores → List ℕ → Outcome
quick_change_call change s detail = stores_call (quick_change change s) s detail

-- what a write tells, and the output as it leaves it
pub record Wrote : Type 0 where
  pub tells : Told
  pub output : List ℕ

abbrev pub wrote : Told → List ℕ → Wrote
wrote t output = record { tells = t; output = output }

abbrev pub wrote_by : Written → List ℕ → Wrote
wrote_by w detail = wrote (answered w.answer detail) w.output

unfoldable pub write_call : Stores → List ℕ → List ℕ → Wrote
write_call s output detail = cond (is_short detail) (wrote (told refusal.short_store detail) output) (wrote_by (write s output) detail)
