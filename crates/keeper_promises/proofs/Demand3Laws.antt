-- Demand 3, over whole lists of changes: on stores in order a quick change is the plain one, and a plain change leaves stores in order.
use Rattle.std.specs.Prelude.{List, ◌≡◌, refl, length}
use Rattle.std.proofs.Common.{◌∙◌, subst, subst₂, sym, arith}
use Rattle.std.proofs.Math.Path.{ap}
use Prim.Native.Nat.{◌<◌, ◌≤◌, suc, zero, ℕ}
use Rattle.std.proofs.Math.Decide.{ℕ_discrete}
use Rattle.prelude.specs.Part.{Bytes}
use Rattle.schema.specs.Store.{LongEnough, Result, Stores, schema_of}
use Rattle.schema.specs.declared.answer.Answer.{Answer}
use Rattle.tables.specs.Same.{SameRows}
use Rattle.sheet_read.specs.Reading.{read_sheet}
use Rattle.sheet_read.specs.ReadingLaws.{sheet_sound}
use Rattle.change_read.specs.Reading.{read_change}
use Rattle.change_model.proofs.SameLaws.{answer_same, rows_same}
use Rattle.keeper.specs.Load.{filled, load}
use Rattle.keeper_change.specs.Quick.{quick_change}
use Rattle.keeper_promises.specs.AgreeLaws.{quick_plain}
use Rattle.keeper_promises.specs.Demand3.{Agreement, AllBytes, SameDemand, Stays, after, change_at, copy_at, model_answer, model_at, plain_told, quick_told}
use Rattle.keeper_promises.specs.Demand3.{rows_given, sheet_rows, stores_at}
use Rattle.keeper_promises.specs.LoadLaws.{load_done, load_order, load_zero}
use Rattle.keeper_promises.specs.PlainLaws.{plain_answer_lem}
use Rattle.keeper_promises.specs.Promises.{Acceptable, InOrder}
use Rattle.keeper_promises.specs.StepLaws.{rows_transitive, step_demand, step_order, step_rows, step_stays}
use Rattle.keeper.specs.LoadLaws as loading

-- ---- what a class demands, and what stays, of stores that are the same

demand_reflexive : (c : ℕ) (s : Stores) → SameDemand c s s
demand_reflexive c s = record { rows = λ b l. refl; kept = refl }

demand_transitive : {c : ℕ} {s t u : Stores} → SameDemand c s t → SameDemand c t u → SameDemand c s u
demand_transitive p q = record { rows = λ b l. p.rows b l ∙ q.rows b l; kept = p.kept ∙ q.kept }

stays_same : {a b : Answer} {s t u v : Stores} → a ≡ b → s ≡ t → u ≡ v → Stays b t v → Stays a s u
stays_same {a} {b} {s} {t} {u} {v} e f g h = subst (λ (y : Answer). Stays y s u) (sym e) (subst₂ (Stays b) (sym f) (sym g) h)

-- ---- a loaded sheet

module _ (sheet : List ℕ) (first : Stores) (bytes : Bytes sheet) (long : LongEnough first) (h : Acceptable sheet) where
  filled_rows : SameRows (schema_of (filled (read_sheet sheet).rows first)) (sheet_rows sheet)
  unfolding filled
  filled_rows =
      loading.both_same (read_sheet sheet).rows (sheet_sound sheet bytes) first.attributes first.classes
      (record { attributes = long.attributes; classes = long.classes })

  -- "at first as the sheet reads"
  load_rows : SameRows (schema_of (load sheet first).left) (sheet_rows sheet)
  load_rows = subst (λ (x : Result). SameRows (schema_of x.left) (sheet_rows sheet)) (sym (load_done sheet first long h)) filled_rows

-- ---- a list of changes

module _ (sheet : List ℕ) (first : Stores) (xs : List (List ℕ)) (bytes : Bytes sheet) (all : AllBytes xs)
    (accepted : (load sheet first).answer.number ≡ 0) where
  long : LongEnough first
  long = ((load_zero sheet first).0 accepted).0

  acceptable : Acceptable sheet
  acceptable = ((load_zero sheet first).0 accepted).1

  abbrev copy : ℕ → Stores
  copy i = copy_at sheet first xs i

  -- the claim that is carried from change to change
  record Holds (i : ℕ) : Type 0 where
    pub same : stores_at sheet first xs i ≡ copy i
    pub order : InOrder (copy i)
    pub rows : SameRows (schema_of (copy i)) (model_at sheet xs i)

  holds : (i : ℕ) → i ≤ length xs → Holds i
  unfolding after rows_given
  holds zero l = record {
    same = refl;
    order = load_order sheet first bytes long acceptable;
    rows = load_rows sheet first bytes long acceptable;
  }
  holds (suc i) l =
      let h = holds i (omega arith) in
      let x = change_at xs i in
      let b = all i (omega arith) in
      record {
        same = ap (λ (s : Stores). (quick_change x s).left) h.same ∙ ap (λ (y : Result). y.left) (quick_plain x (copy i) b h.order);
        order = step_order x b (copy i) h.order;
        rows = rows_transitive (step_rows x b (copy i) h.order) (rows_same (read_change x).answer (read_change x).row h.rows);
      }

  -- ---- each change

  module _ (i : ℕ) (l : i < length xs) where
    abbrev x : List ℕ
    x = change_at xs i

    now : Holds i
    now = holds i (omega arith)

    same_answers : quick_told sheet first xs i ≡ plain_told sheet first xs i
    same_answers =
        ap (λ (s : Stores). (quick_change x s).answer) now.same ∙ ap (λ (y : Result). y.answer) (quick_plain x (copy i) (all i l) now.order)

    given_answer : quick_told sheet first xs i ≡ model_answer x (model_at sheet xs i)
    given_answer = same_answers ∙ plain_answer_lem x (copy i) now.order ∙ answer_same (read_change x).answer (read_change x).row now.rows

    copy_stays : Stays (plain_told sheet first xs i) (copy i) (copy (suc i))
    unfolding after
    copy_stays = step_stays x (all i l) (copy i) now.order

    all_stays : Stays (quick_told sheet first xs i) (stores_at sheet first xs i) (stores_at sheet first xs (suc i))
    all_stays = stays_same same_answers now.same (holds (suc i) l).same copy_stays

    next_demand : (c : ℕ) → c < (schema_of (copy i)).classes.count → (c < (schema_of (copy (suc i))).classes.count) × SameDemand c (copy i) (copy (suc i))
    unfolding after
    next_demand c q = step_demand x (all i l) (copy i) now.order c q

  -- ---- from any time to any later one

  abbrev Lasts : ℕ → ℕ → ℕ → Type 0
  Lasts c i j = (c < (schema_of (copy j)).classes.count) × SameDemand c (copy i) (copy j)

  lasting : (i j : ℕ) → i ≤ j → j ≤ length xs → (c : ℕ) → c < (schema_of (copy i)).classes.count → Lasts c i j
  lasting i zero p q c l = subst (Lasts c i) (let e : i ≡ zero = omega arith in e) (l, demand_reflexive c (copy i))
  lasting i (suc j) p q c l = go (ℕ_discrete i (suc j)) (λ e. lasting i j e (omega arith) c l)
    where
      go : Dec (i ≡ suc j) → (i ≤ j → Lasts c i j) → Lasts c i (suc j)
      go (yes e) earlier = subst (Lasts c i) e (l, demand_reflexive c (copy i))
      go (no d) earlier =
          let before = earlier (omega arith) in
          let next = next_demand j (omega arith) c before.0 in
          (next.0, demand_transitive before.1 next.1)

  demand_lasts : (i j : ℕ) → i ≤ j → j ≤ length xs → (c : ℕ) → c < (schema_of (stores_at sheet first xs i)).classes.count
      → SameDemand c (stores_at sheet first xs i) (stores_at sheet first xs j)
  demand_lasts i j p q c l =
      let e = (holds i (omega arith)).same in
      subst₂ (SameDemand c) (sym e) (sym (holds j q).same) (lasting i j p q c (rw e at l)).1

  ordered : (i : ℕ) → i ≤ length xs → InOrder (stores_at sheet first xs i)
  ordered i l = subst InOrder (sym (holds i l).same) (holds i l).order

  pub agreement : Agreement sheet first xs
  agreement = record {
    answers = same_answers;
    bytes = λ i l. (holds i l).same;
    rows = λ i l. subst (λ (s : Stores). SameRows (schema_of s) (model_at sheet xs i)) (sym (holds i l).same) (holds i l).rows;
    given = given_answer;
    fresh = λ i l. (ordered i l).fresh;
    order = ordered;
    demanded = demand_lasts;
    stays = all_stays;
  }
