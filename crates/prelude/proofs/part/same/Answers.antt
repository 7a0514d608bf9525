use Rattle.std.proofs.Common.{rules, ◌≡◌, List, ℕ, Bool, length, sym, ◌∙◌, ap}
use Rattle.std.specs.Bool.{Decides}
use Rattle.std.proofs.lemmas.List.{length-reverse, reverse-reverse}
use Rattle.std.proofs.lemmas.Iterator.{YieldsList-from_zip, same_from_all}
use Rattle.std.proofs.lemmas.Iterator.Adapters.{YieldsList-from_rev_slice}
use borrow.Author.Tests.{tests}
use mathlib.Core.List.{reverse}
use Rattle.prelude.specs.Part.{same_bytes}
use Rattle.prelude.specs.SaysLaws.{says_eq, says_false, says_same}
use Rattle.prelude.specs.PartLaws.{says_same_bytes}
use Rattle.prelude.proofs.part.same.Goals as goal

-- what reads the same from the back is the same
same_from_back : (a b : List ℕ) (r : Bool) → Decides r (reverse a ≡ reverse b) → r ≡ same_bytes a b
same_from_back a b r d =
    says_same (record { holds = λ e. sym (reverse-reverse a) ∙ ap reverse (d.0 e) ∙ reverse-reverse b; passes = λ e. d.1 (ap reverse e) })
    (says_same_bytes a b)

pub returns-then-a-b : goal.returns-then-a-b
returns-then-a-b c =
    same_from_back _ _ _ (same_from_all c.all.new.self _ _ _ _ c.all.ensures.ran
    (YieldsList-from_zip (YieldsList-from_rev_slice c.args.a.now (cc)) (YieldsList-from_rev_slice c.args.b.now (cc)))
    (length-reverse c.args.a.now ∙ c.if-a-b.true ∙ sym (length-reverse c.args.b.now)) (λ x q k. search (rules, tests)) (λ x q k. search (rules, tests)))

pub returns-else-a-b : goal.returns-else-a-b
returns-else-a-b c =
    says_false (says_eq _ _) c.if-a-b.false ∙ sym (says_false (says_same_bytes c.args.a.now c.args.b.now) (λ e. c.if-a-b.false (ap length e)))
