-- What a load gives. Document 01: "Load never looks at what stood in the stores; it reads left to right and gives 4 or 6, whichever comes first, then judges
-- 12 to 29; refused by 4 or more, it leaves every store byte zero."
use Rattle.std.specs.Prelude.{false, true, List, ◌↔◌, ◌≡◌, refl, ◌≤◌, ℕ}
use Rattle.std.proofs.Common.{⊎_elim, ap, subst, sym, ◌∙◌, arith}
use Rattle.std.proofs.Math.ListN.{length}
use Rattle.prelude.specs.Part.{Bytes, splice}
use Rattle.prelude.specs.SaysLaws.{says_eq, says_split, says_test, says_true}
use Rattle.prelude.specs.SpliceLaws.{splice_length}
use Rattle.schema.specs.declared.answer.Answer.{Answer}
use Rattle.schema.specs.declared.number.TableId.{TableId}
use Rattle.schema.specs.declared.number.TableId.TheVariants.{Classes}
use Rattle.schema.specs.Answers.{full, passed, refused, unreadable}
use Rattle.schema.specs.Layout.{closure_length}
use Rattle.schema.specs.Store.{LongEnough, Result, Stores, any_short, result_of}
use Rattle.schema.specs.Order.{rank}
use Rattle.schema.specs.StoreLaws.{long_enough, says_short}
use Rattle.tables.specs.Filled.{table_from}
use Rattle.tables.specs.SameLaws.{same_symmetric}
use Rattle.graph.specs.Graph.{closure_rows}
use Rattle.graph.proofs.FreshLaws.{bytes_fresh, closure_rows_length, says_fresh}
use Rattle.graph.proofs.SameLaws.{fresh_same}
use Rattle.sheet_read.specs.SheetRead.{SheetRead}
use Rattle.sheet_read.specs.SheetRead.{Bad, Full, Read}
use Rattle.sheet_read.specs.Held.{Lent}
use Rattle.sheet_read.specs.Reading.{Rows, SheetOut, read_sheet, schema_from, sheet_out}
use Rattle.sheet_read.specs.ReadingLaws.{sheet_sound}
use Rattle.rules.specs.declared.row.Added.TheVariants.{Nothing}
use Rattle.rules.specs.Rules.{schema_rules}
use Rattle.rules.specs.Judge.{FirstBroken, judged}
use Rattle.rules.proofs.JudgeLaws.{judged_first, judged_passed, judged_zero}
use Rattle.rules.specs.Meets.{Meets, Met, RuleName, rule_number}
use Rattle.rules.proofs.MeetsLaws.{meets, judged_before}
use Rattle.rules.proofs.SameLaws.{kept_same}
use Rattle.tables_shape.proofs.ShapeLaws.{says_formed}
use Rattle.keeper.specs.InShapeLaws.{not_short}
use Rattle.keeper.specs.Audit.{audit}
use Rattle.keeper.specs.Load.{emptied, filled, load, read_answer}
use Rattle.keeper.specs.LoadLaws.{both_formed, both_lent, both_same, load_accepted, load_rejected, load_short, read_bad, read_full, read_judged}
use Rattle.keeper_promises.specs.Promises.{Acceptable, InOrder, SomeShort}
use Rattle.keeper_promises.specs.OrderLaws.{audit_done}
use Rattle.schema.specs.Refusals as refusal

-- ---- the answer of a reading

number_of_lem : {x y : Answer} → x ≡ y → x.number ≡ y.number
number_of_lem e = ap (λ (x : Answer). x.number) e

zero_reads : (r : SheetRead) (x : Rows) → (read_answer (sheet_out r x)).number ≡ 0 → (r ≡ Read) × Meets Nothing (schema_from x)
zero_reads Read x e = (refl, (meets Nothing (schema_from x)).0 ((judged_zero Nothing (schema_from x)).0 (number_of_lem (read_judged x) ∙ e)))
zero_reads (Bad at) x e = let n : ◌≡◌ {A = ℕ} 4 0 = number_of_lem (read_bad x at) ∙ e in absurd (omega arith)
zero_reads (Full t) x e = let n : ◌≡◌ {A = ℕ} 6 0 = number_of_lem (read_full x t) ∙ e in absurd (omega arith)

module _ (sheet : List ℕ) where
  abbrev out : SheetOut
  out = read_sheet sheet

  by_reading : {r : SheetRead} → out.answer ≡ r → read_answer out ≡ read_answer (sheet_out r out.rows)
  by_reading e = ap (λ (r : SheetRead). read_answer (sheet_out r out.rows)) e

  by_judging : out.answer ≡ Read → read_answer out ≡ judged Nothing (schema_from out.rows)
  by_judging e = by_reading e ∙ sym (read_judged out.rows)

  accepted_answer : Acceptable sheet → read_answer out ≡ passed
  accepted_answer h = by_judging h.reads ∙ judged_passed Nothing (schema_from out.rows) ((meets Nothing (schema_from out.rows)).1 h.rules)

  module _ (s : Stores) where
    -- ---- accepted

    pub load_done : LongEnough s → Acceptable sheet → load sheet s ≡ result_of passed (filled out.rows s)
    load_done long h =
        load_accepted sheet s (not_short s long) (number_of_lem (accepted_answer h)) ∙ ap (λ (x : Answer). result_of x (filled out.rows s)) (accepted_answer h)

    zero_accepts : (load sheet s).answer.number ≡ 0 → LongEnough s × Acceptable sheet
    zero_accepts e = ⊎_elim (λ q. absurd (short q.0)) (λ q. enough q.0) (says_split (says_test (any_short s)))
      where
        number_at : {x y : Result} → x ≡ y → x.answer.number ≡ y.answer.number
        number_at q = ap (λ (x : Result). x.answer.number) q

        short : any_short s ≡ true → ⊥
        short q = let n : ◌≡◌ {A = ℕ} 1 0 = sym (number_at (load_short sheet s q)) ∙ e in omega arith

        read : any_short s ≡ false → (read_answer out).number ≡ 0
        read q = ⊎_elim (λ w. w.1) (λ w. absurd (w.1 (sym (number_at (load_rejected sheet s q w.1)) ∙ e)))
            (says_split (says_eq (read_answer out).number 0))

        enough : any_short s ≡ false → LongEnough s × Acceptable sheet
        enough q = let z = zero_reads out.answer out.rows (read q) in (long_enough s q, record { reads = z.0; rules = z.1 })

    pub load_zero : ((load sheet s).answer.number ≡ 0) ↔ (LongEnough s × Acceptable sheet)
    load_zero = (zero_accepts, λ h. ap (λ (x : Result). x.answer.number) (load_done h.0 h.1))

    -- ---- refused

    pub load_one : SomeShort s → load sheet s ≡ result_of (refused refusal.short_store) s
    load_one e = load_short sheet s (says_true (says_short s) e)

    pub load_empty : LongEnough s → ¬ ((load sheet s).answer.number ≡ 0) → (load sheet s).left ≡ emptied s
    load_empty h d =
        ap (λ (x : Result). x.left)
        (load_rejected sheet s (not_short s h) (λ z. d (ap (λ (x : Result). x.answer.number) (load_accepted sheet s (not_short s h) z) ∙ z)))

    module _ (h : LongEnough s) where
      told : {x : Answer} → read_answer out ≡ x → ¬ (x.number ≡ 0) → load sheet s ≡ result_of x (emptied s)
      told e d = load_rejected sheet s (not_short s h) (λ z. d (sym (number_of_lem e) ∙ z)) ∙ ap (λ (y : Answer). result_of y (emptied s)) e

      pub load_bad : (at : ℕ) → out.answer ≡ Bad at → load sheet s ≡ result_of (unreadable at) (emptied s)
      load_bad at e = told (by_reading e ∙ sym (read_bad out.rows at)) (λ z. omega arith)

      pub load_no_room : (t : TableId) → out.answer ≡ Full t → load sheet s ≡ result_of (full t) (emptied s)
      load_no_room t e = told (by_reading e ∙ sym (read_full out.rows t)) (λ z. omega arith)

      module _ (e : out.answer ≡ Read) where
        pub judged_answer : (load sheet s).answer ≡ judged Nothing (schema_from out.rows)
        judged_answer = ⊎_elim (λ q. yes_answer q.1) (λ q. ap (λ (x : Result). x.answer) (told (by_judging e) q.1))
            (says_split (says_eq (judged Nothing (schema_from out.rows)).number 0))
          where
            yes_answer : (judged Nothing (schema_from out.rows)).number ≡ 0 → (load sheet s).answer ≡ judged Nothing (schema_from out.rows)
            yes_answer z = ap (λ (x : Result). x.answer) (load_accepted sheet s (not_short s h) (number_of_lem (by_judging e) ∙ z)) ∙ by_judging e

        pub load_rule : ¬ Meets Nothing (schema_from out.rows) → FirstBroken (schema_from out.rows) (schema_rules Nothing) (load sheet s).answer
        load_rule d =
            subst (FirstBroken (schema_from out.rows) (schema_rules Nothing)) (sym judged_answer)
            (⊎_elim (λ k. absurd (d ((meets Nothing (schema_from out.rows)).0 k))) (λ f. f) (judged_first Nothing (schema_from out.rows)))

        pub load_least : (rule : RuleName) → ¬ (Met Nothing rule (schema_from out.rows)) → rank (load sheet s).answer.number ≤ rank (rule_number rule)
        load_least rule unmet = omega (arith, ap rank (number_of_lem judged_answer), judged_before Nothing (schema_from out.rows) rule unmet)

    -- ---- a loaded store is in order

    module _ (bytes : Bytes sheet) (long : LongEnough s) (h : Acceptable sheet) where
      lent : Lent s.attributes s.classes
      lent = record { attributes = long.attributes; classes = long.classes }

      filled_order : InOrder (filled out.rows s)
      unfolding filled
      filled_order =
          let sound = sheet_sound sheet bytes in
          let x = (read_sheet sheet).rows in
          let l = both_lent x sound s.attributes s.classes lent in
          let same = both_same x sound s.attributes s.classes lent in
          let room : closure_length ≤ length s.closure = long.closure in
          let rows = closure_rows (table_from x.classes) in
          let k : length (splice 0 rows s.closure) ≡ length s.closure = splice_length 0 rows s.closure
          (omega (arith, closure_rows_length (table_from x.classes), room)) in
          record {
            long = record { attributes = l.attributes; classes = l.classes; closure = omega (arith, k, room) };
            shape = (says_formed _ _ l.attributes l.classes).holds (both_formed x sound s.attributes s.classes lent);
            rules = (meets Nothing _).0 (kept_same (λ t. same_symmetric (same t)) Nothing ((meets Nothing (schema_from x)).1 h.rules));
            fresh = (says_fresh _ (splice 0 rows s.closure)).holds
                (fresh_same (same Classes) (splice 0 rows s.closure) ∙ bytes_fresh (table_from x.classes) s.closure room);
          }

      pub load_order : InOrder (load sheet s).left
      load_order = subst (λ (x : Result). InOrder x.left) (sym (load_done long h)) filled_order

      pub load_audits : audit (load sheet s).left ≡ passed
      load_audits = audit_done (load sheet s).left load_order
