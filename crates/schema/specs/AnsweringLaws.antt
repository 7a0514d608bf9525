-- Laws of the first answer that refuses.
use Rattle.std.specs.Prelude.{Bool, true, false, List, [], ◌∷◌, ◌++◌, ◌↔◌, ◌⊎◌, ◌≡◌, refl, ◌<◌}
use Rattle.std.proofs.Common.{inl, inr, ⊎_elim, sym, ap, ◌∙◌, arith}
use Rattle.prelude.specs.SaysLaws.{says_eq, says_true, says_false, says_split}
use Rattle.schema.specs.Answering.{NoneRefuses, answer_if, first_answer}
use Rattle.schema.specs.Answers.{passed}
use Rattle.schema.specs.declared.answer.Answer.{Answer}

-- ---- one answer, for a function that tests one after the other

pub if_holds : (b : Bool) (a : Answer) → b ≡ true → answer_if b a ≡ a
unfolding answer_if
if_holds b a e = rw e

pub if_fails : (b : Bool) (a : Answer) → b ≡ false → answer_if b a ≡ passed
unfolding answer_if
if_fails b a e = rw e

-- a condition whose answer is passed over does not hold
pub if_passed : (b : Bool) (a : Answer) → 0 < a.number → (answer_if b a).number ≡ 0 → b ≡ false
if_passed true a l e = let n : (answer_if true a).number ≡ a.number = ap (λ (x : Answer). x.number) (if_holds true a refl) in absurd (omega arith)
if_passed false a l e = refl

module _ (a : Answer) (answers : List Answer) (last : Answer) where
  pub first_refused : ¬ (a.number ≡ 0) → first_answer (a ∷ answers) last ≡ a
  unfolding first_answer
  first_refused d = rw (says_false (says_eq a.number 0) d)

  pub first_passed : a.number ≡ 0 → first_answer (a ∷ answers) last ≡ first_answer answers last
  unfolding first_answer
  first_passed e = rw (says_true (says_eq a.number 0) e)

pub first_last : (last : Answer) → first_answer [] last ≡ last
unfolding first_answer
first_last last = refl

-- an answer that refuses or not
refuses_or_not : (a : Answer) → ¬ (a.number ≡ 0) ⊎ (a.number ≡ 0)
refuses_or_not a = ⊎_elim (λ q. inr q.1) (λ q. inl q.1) (says_split (says_eq a.number 0))

-- a condition that was tested
module _ {b : Bool} (a : Answer) (answers : List Answer) (last : Answer) where
  pub tested_holds : ¬ (a.number ≡ 0) → b ≡ true → first_answer (answer_if b a ∷ answers) last ≡ a
  tested_holds d e = ap (λ (x : Answer). first_answer (x ∷ answers) last) (if_holds b a e) ∙ first_refused a answers last d

  pub tested_fails : b ≡ false → first_answer (answer_if b a ∷ answers) last ≡ first_answer answers last
  tested_fails e = ap (λ (x : Answer). first_answer (x ∷ answers) last) (if_fails b a e) ∙ first_passed passed answers last refl

-- ---- what the answer is

pub passed_last : (answers : List Answer) (last : Answer) → NoneRefuses answers → first_answer answers last ≡ last
passed_last [] last h = first_last last
passed_last (a ∷ answers) last h = first_passed a answers last h.0 ∙ passed_last answers last h.1

-- 0 is given exactly where no answer refuses
pub zero_iff_pass : (answers : List Answer) (last : Answer) → last.number ≡ 0 → ((first_answer answers last).number ≡ 0) ↔ NoneRefuses answers
zero_iff_pass answers last z = (passes answers, λ h. ap (λ (x : Answer). x.number) (passed_last answers last h) ∙ z)
  where
    passes : (answers : List Answer) → (first_answer answers last).number ≡ 0 → NoneRefuses answers
    passes [] e = tt
    passes (a ∷ answers) e =
        ⊎_elim (λ d. absurd (d (sym (ap (λ (x : Answer). x.number) (first_refused a answers last d)) ∙ e)))
        (λ q. (q, passes answers (sym (ap (λ (x : Answer). x.number) (first_passed a answers last q)) ∙ e))) (refuses_or_not a)

-- a list that refuses does so whatever comes last, and one that passes gives what comes last
pub refused_any : (answers : List Answer) (a b : Answer) → a.number ≡ 0 → ¬ ((first_answer answers a).number ≡ 0) → first_answer answers a ≡ first_answer answers b
refused_any [] a b z d = absurd (d (ap (λ (x : Answer). x.number) (first_last a) ∙ z))
refused_any (c ∷ answers) a b z d =
    ⊎_elim (λ r. first_refused c answers a r ∙ sym (first_refused c answers b r))
    (λ e. first_passed c answers a e ∙ refused_any answers a b z (λ f. d (ap (λ (x : Answer). x.number) (first_passed c answers a e) ∙ f))
    ∙ sym (first_passed c answers b e)) (refuses_or_not c)

pub passed_any : (answers : List Answer) (a b : Answer) → a.number ≡ 0 → (first_answer answers a).number ≡ 0 → first_answer answers b ≡ b
passed_any answers a b z e = passed_last answers b ((zero_iff_pass answers a z).0 e)

-- ---- two lists one after the other: a group of answers that a function of its own finds

pub append_passed : (p q : List Answer) (last : Answer) → NoneRefuses p → first_answer (p ++ q) last ≡ first_answer q last
append_passed [] q last h = refl
append_passed (a ∷ p) q last h = first_passed a (p ++ q) last h.0 ∙ append_passed p q last h.1

pub append_refused : (p q : List Answer) (middle last : Answer) → middle.number ≡ 0 → ¬ ((first_answer p middle).number ≡ 0)
    → first_answer (p ++ q) last ≡ first_answer p middle
append_refused [] q middle last z d = absurd (d (ap (λ (x : Answer). x.number) (first_last middle) ∙ z))
append_refused (a ∷ p) q middle last z d =
    ⊎_elim (λ r. first_refused a (p ++ q) last r ∙ sym (first_refused a p middle r))
    (λ e. first_passed a (p ++ q) last e ∙ append_refused p q middle last z (λ f. d (ap (λ (x : Answer). x.number) (first_passed a p middle e) ∙ f))
    ∙ sym (first_passed a p middle e)) (refuses_or_not a)

-- the same number
pub number_is : {a b : Answer} → a ≡ b → b.number ≡ 0 → a.number ≡ 0
number_is e z = ap (λ (x : Answer). x.number) e ∙ z

-- ---- an answer that was found before the others

module _ {a r : Answer} (is : r ≡ a) (answers : List Answer) (last : Answer) where
  pub found_refused : ¬ (r.number ≡ 0) → r ≡ first_answer (a ∷ answers) last
  found_refused d = is ∙ sym (first_refused a answers last (λ z. d (number_is is z)))

  pub found_passed : r.number ≡ 0 → first_answer (a ∷ answers) last ≡ first_answer answers last
  found_passed z = first_passed a answers last (number_is (sym is) z)
