-- Numbers 4 and 6: when load and the change calls give them, and with which table and place.
use Rattle.std.specs.Prelude.{List, [], ◌∷◌, ◌++◌, ◌↔◌, ◌⊎◌, ◌≡◌, refl, ℕ, ◌≤◌, ◌<◌, Err}
use Rattle.std.proofs.Common.{inl, inr, ⊎_elim, ap, sym, ◌∙◌, arith}
use Rattle.std.proofs.Math.Decide.{ℕ_discrete}
use Rattle.prelude.specs.First.{first_of}
use Rattle.prelude.specs.FirstLaws.{first_above}
use Rattle.prelude.specs.SaysLaws.{says_split}
use Rattle.schema.specs.declared.answer.Answer.{Answer}
use Rattle.schema.specs.declared.number.TableId.{TableId}
use Rattle.schema.specs.declared.number.TableId.TheVariants.{Attributes, Classes}
use Rattle.schema.specs.Answers.{answer, passed}
use Rattle.schema.specs.Order.{rank, position}
use Rattle.schema.specs.Store.{LongEnough, Result, Schema, Stores, result_of, schema_of}
use Rattle.schema.specs.StoreLaws.{long_enough, says_short}
use Rattle.sheet_read.specs.SheetRead.{SheetRead}
use Rattle.sheet_read.specs.SheetRead.{Bad, Full, Read}
use Rattle.sheet_read.specs.Reading.{read_sheet, schema_from, sheet_answer}
use Rattle.sheet_read.specs.Stopping.{SheetStops}
use Rattle.sheet_read.proofs.StoppingLaws.{sheet_stops}
use Rattle.change_read.specs.declared.read.Change.{Change}
use Rattle.change_read.specs.ChangeRead.{ChangeRead}
use Rattle.change_read.specs.Reading.{change_answer, change_out, read_change}
use Rattle.change_read.specs.Stopping.{ChangeStops}
use Rattle.change_read.specs.StoppingLaws.{change_stops}
use Rattle.rules.specs.declared.row.Added.TheVariants.{Nothing}
use Rattle.rules.specs.Rules.{schema_rules}
use Rattle.rules.specs.Judge.{broken, broken_cases}
use Rattle.rules.proofs.JudgeLaws.{judged_number}
use Rattle.rules.specs.RulesLaws.{rising}
use Rattle.tables_shape.proofs.ShapeLaws.{says_formed}
use Rattle.change_model.proofs.ConditionsLaws.{cases_rise}
use Rattle.change_model.specs.Model.{change_cases, change_number}
use Rattle.schema.specs.Answering.{first_answer}
use Rattle.keeper.specs.InShape.{InShape}
use Rattle.keeper.specs.Order.{order_answers}
use Rattle.keeper.specs.Load.{emptied, load}
use Rattle.keeper_change.specs.Plain.{plain_change}
use Rattle.keeper_change.specs.Quick.{quick_change}
use Rattle.keeper_promises.specs.LoadLaws.{judged_answer, load_bad, load_no_room, load_one}
use Rattle.keeper_promises.specs.OrderLaws.{has_shape}
use Rattle.keeper_promises.specs.PlainLaws.{number_is, order_passes, passes_order, plain_bad, plain_one, plain_three, plain_two}
use Rattle.keeper_promises.specs.Promises.{InOrder, Shape, SomeShort}
use Rattle.keeper_promises.specs.QuickLaws.{quick_bad, quick_one, quick_two}
use Rattle.change_read.specs.ChangeRead as changes
use Rattle.keeper_promises.specs.ThirtyLaws as thirty
use Rattle.schema.specs.Refusals as refusal

-- an answer's number
pub number_of_lem : {x y : Result} → x ≡ y → x.answer.number ≡ y.answer.number
number_of_lem e = ap (λ (x : Result). x.answer.number) e

-- stores are too short, or long enough
pub short_or_long : (s : Stores) → SomeShort s ⊎ LongEnough s
short_or_long s = ⊎_elim (λ e. inl e.1) (λ e. inr (long_enough s e.0)) (says_split (says_short s))

-- and then in shape or not
pub shape_or_not : (s : Stores) → LongEnough s → Shape s ⊎ (¬ Shape s)
shape_or_not s long =
    ⊎_elim (λ e. inl e.1) (λ e. inr e.1) (says_split (says_formed s.attributes s.classes long.attributes long.classes))

-- in order or not
pub order_or_not : (s : Stores) → InOrder s ⊎ (¬ InOrder s)
order_or_not s = go (ℕ_discrete (first_answer (order_answers s) passed).number 0)
  where
    go : Dec ((first_answer (order_answers s) passed).number ≡ 0) → InOrder s ⊎ (¬ InOrder s)
    go (yes e) = inl (passes_order s e)
    go (no d) = inr (λ h. d (ap (λ (a : Answer). a.number) (order_passes s h)))

-- ---- load

module _ (sheet : List ℕ) (s : Stores) where
  pub load_unreadable : LongEnough s → (at : ℕ) → SheetStops sheet (Bad at) → load sheet s ≡ result_of (sheet_answer (Bad at)) (emptied s)
  load_unreadable long at stops = load_bad sheet s long at ((sheet_stops sheet (Bad at)).1 stops)

  pub load_full : LongEnough s → (t : TableId) → SheetStops sheet (Full t) → load sheet s ≡ result_of (sheet_answer (Full t)) (emptied s)
  load_full long t stops = load_no_room sheet s long t ((sheet_stops sheet (Full t)).1 stops)

  -- a sheet that reads gets 0 or a rule's number
  read_number : LongEnough s → (read_sheet sheet).answer ≡ Read
      → ((load sheet s).answer.number ≡ 0) ⊎ (rank refusal.still_needed < rank (load sheet s).answer.number)
  read_number long e =
      let m : Schema = schema_from (read_sheet sheet).rows in
      let is : (load sheet s).answer.number ≡ first_of (broken_cases (schema_rules Nothing) m) =
      ap (λ (a : Answer). a.number) (judged_answer sheet s long e) ∙ judged_number Nothing m in
      rw is (first_above rank (rank refusal.still_needed) (broken_cases (schema_rules Nothing) m) (rising Nothing (broken m)))

  -- a number from 2 on that comes before the rules is that of a reading that stopped
  module _ (n : ℕ) (z : (load sheet s).answer.number ≡ n) (l : 1 < n) (k : rank n ≤ rank refusal.still_needed) where
    stopped : LongEnough s × ((r : SheetRead) × SheetStops sheet r × ((sheet_answer r).number ≡ n))
    stopped = ⊎_elim (λ h. absurd (short h)) (λ long. (long, go long (read_sheet sheet).answer refl)) (short_or_long s)
      where
        short : SomeShort s → ⊥
        short h = let q : (load sheet s).answer.number ≡ 1 = number_of_lem (load_one sheet s h) in omega arith

        reads : ((load sheet s).answer.number ≡ 0) ⊎ (rank refusal.still_needed < rank (load sheet s).answer.number) → ⊥
        reads (inl e) = omega arith
        reads (inr e) = omega (arith, ap rank z)

        go : LongEnough s → (r : SheetRead) → (read_sheet sheet).answer ≡ r → (r : SheetRead) × SheetStops sheet r × ((sheet_answer r).number ≡ n)
        go long Read e = absurd (reads (read_number long e))
        go long (Bad at) e = (Bad at, (sheet_stops sheet (Bad at)).0 e, sym (number_of_lem (load_bad sheet s long at e)) ∙ z)
        go long (Full t) e = (Full t, (sheet_stops sheet (Full t)).0 e, sym (number_of_lem (load_no_room sheet s long t e)) ∙ z)

  pub load_four : ((load sheet s).answer.number ≡ 4) ↔ (LongEnough s × ((at : ℕ) × SheetStops sheet (Bad at)))
  unfolding rank position
  load_four = (
    λ z. (let x = stopped 4 z (omega arith) (omega arith) in (x.0, go x.1.0 x.1.1 x.1.2)),
    λ h. number_of_lem (load_unreadable h.0 h.1.0 h.1.1),
  )
    where
      go : (r : SheetRead) → SheetStops sheet r → (sheet_answer r).number ≡ 4 → (at : ℕ) × SheetStops sheet (Bad at)
      go Read h e = absurd (omega arith)
      go (Bad at) h e = (at, h)
      go (Full t) h e = absurd (omega arith)

  pub load_six : ((load sheet s).answer.number ≡ 6) ↔ (LongEnough s × ((t : TableId) × SheetStops sheet (Full t)))
  unfolding rank position
  load_six = (
    λ z. (let x = stopped 6 z (omega arith) (omega arith) in (x.0, go x.1.0 x.1.1 x.1.2)),
    λ h. number_of_lem (load_full h.0 h.1.0 h.1.1),
  )
    where
      go : (r : SheetRead) → SheetStops sheet r → (sheet_answer r).number ≡ 6 → (t : TableId) × SheetStops sheet (Full t)
      go Read h e = absurd (omega arith)
      go (Bad at) h e = absurd (omega arith)
      go (Full t) h e = (t, h)

  pub load_limit : (load sheet s).answer.number ≡ 6 → ((load sheet s).answer ≡ answer 6 1 256) ⊎ ((load sheet s).answer ≡ answer 6 2 128)
  load_limit z = let x = load_six.0 z in go x.1.0 (load_full x.0 x.1.0 x.1.1)
    where
      go : (t : TableId) → load sheet s ≡ result_of (sheet_answer (Full t)) (emptied s)
          → ((load sheet s).answer ≡ answer 6 1 256) ⊎ ((load sheet s).answer ≡ answer 6 2 128)
      go Attributes e = inl (ap (λ (x : Result). x.answer) e)
      go Classes e = inr (ap (λ (x : Result). x.answer) e)

-- ---- the changes

module _ (x : List ℕ) (s : Stores) where
  pub plain_unreadable : InOrder s → (at : ℕ) → ChangeStops x (changes.Bad at) → plain_change x s ≡ result_of (change_answer (changes.Bad at)) s
  plain_unreadable h at stops = plain_bad x s h at ((change_stops x (changes.Bad at)).1 stops)

  pub quick_unreadable : LongEnough s → Shape s → (at : ℕ) → ChangeStops x (changes.Bad at) → quick_change x s ≡ result_of (change_answer (changes.Bad at)) s
  quick_unreadable long shape at stops = quick_bad x s long shape at ((change_stops x (changes.Bad at)).1 stops)

  -- a number that is 0 or comes after 4
  not_four : {n : ℕ} → n ≡ 4 → (n ≡ 0) ⊎ (rank refusal.unreadable < rank n) → ⊥
  not_four e (inl z) = omega arith
  not_four e (inr l) = omega (arith, ap rank e)

  abbrev carried : List ℕ
  carried = (read_change x).row

  reads : {change : Change} → (read_change x).answer ≡ changes.Read change → read_change x ≡ change_out (changes.Read change) carried
  reads e = ap (λ (y : ChangeRead). change_out y carried) e

  -- ---- plain: stores not in order get 1, 2 or 3, and a change that reads 0 or a number from 5 on

  disorder_number : ¬ InOrder s → (plain_change x s).answer.number < 4
  disorder_number d = ⊎_elim short long (short_or_long s)
    where
      short : SomeShort s → (plain_change x s).answer.number < 4
      short h = omega (arith, number_of_lem (plain_one x s h))

      long : LongEnough s → (plain_change x s).answer.number < 4
      long l =
          ⊎_elim (λ h. omega (arith, number_of_lem (plain_three x s l h d))) (λ h. omega (arith, number_of_lem (plain_two x s l h)))
          (shape_or_not s l)

  plain_number : InOrder s → (change : Change) → (read_change x).answer ≡ changes.Read change
      → ((plain_change x s).answer.number ≡ 0) ⊎ (rank refusal.unreadable < rank (plain_change x s).answer.number)
  unfolding change_number
  plain_number h change e =
      rw (number_is x s h change carried (reads e))
      (first_above rank (rank refusal.unreadable) (change_cases change carried (schema_of s)) (cases_rise change carried (schema_of s)))

  pub plain_four : ((plain_change x s).answer.number ≡ 4) ↔ (InOrder s × ((at : ℕ) × ChangeStops x (changes.Bad at)))
  plain_four = (to, λ h. number_of_lem (plain_unreadable h.0 h.1.0 h.1.1))
    where
      go : (plain_change x s).answer.number ≡ 4 → InOrder s → (y : ChangeRead) → (read_change x).answer ≡ y → (at : ℕ) × ChangeStops x (changes.Bad at)
      go z h (changes.Read change) e = absurd (not_four z (plain_number h change e))
      go z h (Err bad) e = (bad.at, (change_stops x (Err bad)).0 e)

      to : (plain_change x s).answer.number ≡ 4 → InOrder s × ((at : ℕ) × ChangeStops x (changes.Bad at))
      to z =
          ⊎_elim (λ h. (h, go z h (read_change x).answer refl)) (λ d. absurd (let l = disorder_number d in omega arith)) (order_or_not s)

  -- ---- quick: stores not in shape get 1 or 2, and a change that reads 0 or a number from 5 on

  quick_number_lem : InShape s → (change : Change) → (read_change x).answer ≡ changes.Read change
      → ((quick_change x s).answer.number ≡ 0) ⊎ (rank refusal.unreadable < rank (quick_change x s).answer.number)
  quick_number_lem h change e =
      rw (thirty.number_is x s change carried (reads e) h)
      (first_above rank (rank refusal.unreadable) (thirty.before x s change carried (reads e) ++ (thirty.thirty_case x s change carried (reads e) ∷ []))
      (thirty.numbers_rise x s change carried (reads e)))

  pub quick_four : ((quick_change x s).answer.number ≡ 4) ↔ (LongEnough s × Shape s × ((at : ℕ) × ChangeStops x (changes.Bad at)))
  quick_four = (to, λ h. number_of_lem (quick_unreadable h.0 h.1 h.2.0 h.2.1))
    where
      go : (quick_change x s).answer.number ≡ 4 → InShape s → (y : ChangeRead) → (read_change x).answer ≡ y → (at : ℕ) × ChangeStops x (changes.Bad at)
      go z h (changes.Read change) e = absurd (not_four z (quick_number_lem h change e))
      go z h (Err bad) e = (bad.at, (change_stops x (Err bad)).0 e)

      short : (quick_change x s).answer.number ≡ 4 → SomeShort s → ⊥
      short z h = omega (arith, number_of_lem (quick_one x s h))

      long : (quick_change x s).answer.number ≡ 4 → LongEnough s → LongEnough s × Shape s × ((at : ℕ) × ChangeStops x (changes.Bad at))
      long z l =
          ⊎_elim (λ h. (l, h, go z (has_shape s l h) (read_change x).answer refl)) (λ d. absurd (let q = number_of_lem (quick_two x s l d) in omega arith))
          (shape_or_not s l)

      to : (quick_change x s).answer.number ≡ 4 → LongEnough s × Shape s × ((at : ℕ) × ChangeStops x (changes.Bad at))
      to z = ⊎_elim (λ h. absurd (short z h)) (long z) (short_or_long s)
