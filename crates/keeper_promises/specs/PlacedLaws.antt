-- Every number that a call gives has a place in the order of judging, for any input.
use Rattle.std.specs.Prelude.{List, [], ◌∷◌, ◌++◌, ◌≡◌, refl, ℕ, ◌<◌, length, Err}
use Rattle.std.proofs.Math.Logic.{⊎_elim}
use Rattle.std.proofs.Common.{ap, subst, sym}
use Rattle.std.proofs.Math.Decide.{ℕ_discrete, dec_lt}
use native.Mathlib.Omega.{arith}
use Rattle.prelude.specs.First.{Case, first_of}
use Rattle.prelude.specs.SaysLaws.{choose}
use Rattle.schema.specs.Order.{order, position, rank}
use Rattle.schema.specs.Store.{LongEnough, Schema, Stores, schema_of}
use Rattle.schema.specs.declared.answer.Answer.{Answer}
use Rattle.graph.specs.Depth.{depth_of}
use Rattle.graph.specs.DepthLaws.{depth_chain, late_no_chain}
use Rattle.sheet_read.specs.Reading.{read_sheet}
use Rattle.sheet_read.specs.SheetRead.{SheetRead}
use Rattle.sheet_read.specs.SheetRead.{Bad, Full, Read}
use Rattle.rules.specs.declared.row.Added.{Added}
use Rattle.rules.specs.declared.row.Added.TheVariants.{Nothing}
use Rattle.rules.specs.Judge.{FirstBroken, here, judged, later}
use Rattle.rules.specs.Rules.{Each, Rule, schema_rules}
use Rattle.change_read.specs.declared.read.Change.{Change}
use Rattle.change_read.specs.ChangeRead.{ChangeRead}
use Rattle.change_read.specs.Reading.{change_out, read_change}
use Rattle.change_model.specs.Model.{change_cases, change_number}
use Rattle.keeper.specs.Audit.{audit}
use Rattle.keeper.specs.Depth.{depth}
use Rattle.keeper.specs.Load.{load}
use Rattle.keeper.specs.Write.{Written, sheet_of, write}
use Rattle.keeper_change.specs.Plain.{plain_change}
use Rattle.keeper_change.specs.Quick.{quick_change}
use Rattle.keeper_promises.specs.Promises.{Fresh, InOrder, Shape, SomeShort}
use Rattle.keeper_promises.specs.OrderLaws.{audit_one, audit_rule, audit_three, audit_two, audit_zero, has_shape, judged_meets, meets_judged}
use Rattle.keeper_promises.specs.StoppingLaws.{number_of_lem, order_or_not, shape_or_not, short_or_long}
use Rattle.change_read.specs.ChangeRead as changes
use Rattle.keeper_promises.specs.CallLaws as calls
use Rattle.keeper_promises.specs.LoadLaws as loads
use Rattle.keeper_promises.specs.PlainLaws as plain
use Rattle.keeper_promises.specs.QuickLaws as quick
use Rattle.keeper_promises.specs.ThirtyLaws as thirty
use Rattle.std.specs.Prelude.{Option, Some, None}

abbrev Placed : ℕ → Type 0
Placed n = rank n < length order

is_placed : {m n : ℕ} → m ≡ n → Placed n → Placed m
is_placed e h = subst (λ (n : ℕ). Placed n) (sym e) h

-- ---- the numbers that the calls name

record Named : Type 0 where
  zero : Placed 0
  one : Placed 1
  two : Placed 2
  three : Placed 3
  four : Placed 4
  five : Placed 5
  six : Placed 6
  eighteen : Placed 18
  thirty_one : Placed 31

named : Named
unfolding rank position
named = record {
  zero = omega arith;
  one = omega arith;
  two = omega arith;
  three = omega arith;
  four = omega arith;
  five = omega arith;
  six = omega arith;
  eighteen = omega arith;
  thirty_one = omega arith;
}

-- ---- the first of several cases, the first broken rule

abbrev AllPlaced : List Case → Type 0
AllPlaced [] = Unit {0}
AllPlaced (c ∷ cs) = Placed c.number × AllPlaced cs

first_placed : (cs : List Case) → AllPlaced cs → Placed (first_of cs)
unfolding first_of
first_placed [] h = named.zero
first_placed (c ∷ cs) h = choose (λ (n : ℕ). Placed n) c.holds (λ e. h.0) (λ e. first_placed cs h.1)

rules_placed : (added : Added) → Each (λ r. Placed r.number) (schema_rules added)
unfolding rank position
rules_placed added = omega arith

broken_placed : {m : Schema} {rs : List Rule} {x : Answer} → Each (λ r. Placed r.number) rs → FirstBroken m rs x → Placed x.number
broken_placed h (here t k lowest) = h.0
broken_placed h (later kept first) = broken_placed h.1 first

-- ---- load

pub load_placed : (sheet : List ℕ) (s : Stores) → rank (load sheet s).answer.number < length order
load_placed sheet s =
    ⊎_elim (λ h. is_placed (number_of_lem (loads.load_one sheet s h)) named.one) (λ long. go long (read_sheet sheet).answer refl) (short_or_long s)
  where
    read : LongEnough s → (read_sheet sheet).answer ≡ Read → Dec ((load sheet s).answer.number ≡ 0) → Placed (load sheet s).answer.number
    read long e (yes z) = is_placed z named.zero
    read long e (no d) =
        broken_placed (rules_placed Nothing) (loads.load_rule sheet s long e (λ met. d ((loads.load_zero sheet s).1 (long, record { reads = e; rules = met }))))

    go : LongEnough s → (r : SheetRead) → (read_sheet sheet).answer ≡ r → Placed (load sheet s).answer.number
    go long Read e = read long e (ℕ_discrete (load sheet s).answer.number 0)
    go long (Bad at) e = is_placed (number_of_lem (loads.load_bad sheet s long at e)) named.four
    go long (Full t) e = is_placed (number_of_lem (loads.load_no_room sheet s long t e)) named.six

-- ---- audit, write, depth

answer_placed : {x y : Answer} → x ≡ y → Placed y.number → Placed x.number
answer_placed e h = is_placed (ap (λ (a : Answer). a.number) e) h

-- stores that are short get 1 and those out of shape 2
module _ (s : Stores) (P : Type 0) (short : SomeShort s → P) (broken : LongEnough s → ¬ Shape s → P) (shaped : LongEnough s → Shape s → P) where
  by_shape : P
  by_shape = ⊎_elim short (λ long. ⊎_elim (shaped long) (broken long) (shape_or_not s long)) (short_or_long s)

pub audit_placed : (s : Stores) → rank (audit s).number < length order
audit_placed s =
    by_shape s (Placed (audit s).number) (λ h. answer_placed (audit_one s h) named.one) (λ long d. answer_placed (audit_two s long d) named.two)
    (λ long shape. go long shape (ℕ_discrete (audit s).number 0) (ℕ_discrete (judged Nothing (schema_of s)).number 0))
  where
    go : LongEnough s → Shape s → Dec ((audit s).number ≡ 0) → Dec ((judged Nothing (schema_of s)).number ≡ 0) → Placed (audit s).number
    go long shape (yes z) j = is_placed z named.zero
    go long shape (no d) (yes j) =
        let met = judged_meets s j in
        let stale : ¬ Fresh s = λ f. d ((audit_zero s).1 (record { long = long; shape = shape; rules = met; fresh = f })) in
        answer_placed (audit_three s long shape met stale) named.three
    go long shape (no d) (no j) = broken_placed (rules_placed Nothing) (audit_rule s long shape (λ met. j (meets_judged s met)))

pub write_placed : (s : Stores) (out : List ℕ) → rank (write s out).answer.number < length order
write_placed s out =
    by_shape s (Placed (write s out).answer.number) (λ h. is (calls.write_one s out h) named.one)
    (λ long d. is (calls.write_two s out long d) named.two)
    (λ long shape. go long shape (dec_lt (length out) (length (sheet_of s))))
  where
    is : {x y : Written} → x ≡ y → Placed y.answer.number → Placed x.answer.number
    is e h = is_placed (ap (λ (w : Written). w.answer.number) e) h

    go : LongEnough s → Shape s → Dec (length out < length (sheet_of s)) → Placed (write s out).answer.number
    go long shape (yes l) = is (calls.write_needs s out long shape l) named.thirty_one
    go long shape (no n) = is (calls.write_done s out long shape (omega arith)) named.zero

pub depth_placed : (s : Stores) (c : ℕ) → rank (depth s c).number < length order
depth_placed s c =
    by_shape s (Placed (depth s c).number) (λ h. answer_placed (calls.depth_one s c h) named.one)
    (λ long d. answer_placed (calls.depth_two s c long d) named.two)
    (λ long shape. go long shape (dec_lt c (schema_of s).classes.count) (depth_of (schema_of s).classes c) refl)
  where
    go : LongEnough s → Shape s → Dec (c < (schema_of s).classes.count) → (x : Option ℕ) → depth_of (schema_of s).classes c ≡ x → Placed (depth s c).number
    go long shape (no n) x e = answer_placed (calls.depth_five s c long shape (omega arith)) named.five
    go long shape (yes l) (Some k) e =
        answer_placed (calls.depth_steps s c long shape k l (depth_chain (schema_of s).classes c k e)) named.zero
    go long shape (yes l) None e =
        answer_placed (calls.depth_late s c long shape l ((late_no_chain (schema_of s).classes c).0 e)) named.eighteen

-- ---- the changes

module _ (x : List ℕ) (s : Stores) where
  carries : {change : Change} → (read_change x).answer ≡ changes.Read change → read_change x ≡ change_out (changes.Read change) (read_change x).row
  carries e = ap (λ (y : ChangeRead). change_out y (read_change x).row) e

  plain_cases : (change : Change) (r : List ℕ) → AllPlaced (change_cases change r (schema_of s))
  unfolding rank position
  plain_cases change r = omega arith

  pub plain_placed : rank (plain_change x s).answer.number < length order
  unfolding change_number
  plain_placed = ⊎_elim (λ h. go h (read_change x).answer refl) disorder (order_or_not s)
    where
      disorder : ¬ InOrder s → Placed (plain_change x s).answer.number
      disorder d =
          by_shape s (Placed (plain_change x s).answer.number) (λ h. is_placed (number_of_lem (plain.plain_one x s h)) named.one)
          (λ long n. is_placed (number_of_lem (plain.plain_two x s long n)) named.two)
          (λ long shape. is_placed (number_of_lem (plain.plain_three x s long shape d)) named.three)

      go : InOrder s → (y : ChangeRead) → (read_change x).answer ≡ y → Placed (plain_change x s).answer.number
      go h (Err bad) e = is_placed (number_of_lem (plain.plain_bad x s h bad.at e)) named.four
      go h (changes.Read change) e =
          is_placed (plain.number_is x s h change (read_change x).row (carries e))
          (first_placed (change_cases change (read_change x).row (schema_of s)) (plain_cases change (read_change x).row))

  module _ (change : Change) (r : List ℕ) (read : read_change x ≡ change_out (changes.Read change) r) where
    abbrev quick_cases : List Case
    quick_cases = thirty.before x s change r read ++ (thirty.thirty_case x s change r read ∷ [])

    quick_cases_lem : AllPlaced quick_cases
    unfolding rank position
    quick_cases_lem = omega arith

  pub quick_placed : rank (quick_change x s).answer.number < length order
  quick_placed =
      by_shape s (Placed (quick_change x s).answer.number) (λ h. is_placed (number_of_lem (quick.quick_one x s h)) named.one)
      (λ long d. is_placed (number_of_lem (quick.quick_two x s long d)) named.two) (λ long shape. go long shape (read_change x).answer refl)
    where
      go : LongEnough s → Shape s → (y : ChangeRead) → (read_change x).answer ≡ y → Placed (quick_change x s).answer.number
      go long shape (Err bad) e = is_placed (number_of_lem (quick.quick_bad x s long shape bad.at e)) named.four
      go long shape (changes.Read change) e =
          is_placed (thirty.number_is x s change (read_change x).row (carries e) (has_shape s long shape))
          (first_placed (quick_cases change (read_change x).row (carries e)) (quick_cases_lem change (read_change x).row (carries e)))
