-- What the tests of links say.
use Rattle.std.specs.Prelude.{true, false, List, ◌⊎◌, ◌≡◌, ℕ, ◌%◌, ◌<◌, eqb}
use Rattle.std.proofs.Common.{inl, inr, ⊎_elim, arith}
use Rattle.std.proofs.Math.Decide.{ℕ_discrete}
use Rattle.prelude.specs.Says.{Says}
use Rattle.prelude.specs.SaysLaws.{says, says_and, says_or, says_not, says_eq, says_iff, says_split, says_false, says_fails, choose}
use Rattle.prelude.specs.Below.{Some}
use Rattle.prelude.specs.BelowLaws.{says_any}
use Rattle.schema.specs.Row.{is_defunct}
use Rattle.schema.specs.AttributeRow.{syntax_of, link_of}
use Rattle.schema.specs.Store.{Table}
use Rattle.tables.specs.Live.{Live}
use Rattle.tables.specs.Changed.{ChangedAt}
use Rattle.tables.specs.ChangedLaws.{live_stays}
use Rattle.tables.specs.LiveLaws.{says_live}
use Rattle.rules_attribute.specs.Links.{is_back_link, is_forward_of, forward_missing, link_syntax_fits, link_syntax_wrong}
use Rattle.rules_attribute.specs.Links.{ForwardOf, ForwardMissing, LinkSyntaxFits}

pub says_forward : (back row : List ℕ) → Says (is_forward_of back row) (ForwardOf back row)
unfolding is_forward_of
says_forward back row = search says

-- rule 29
pub says_forward_missing : (a : Table) (row : List ℕ) → Says (forward_missing a row) (ForwardMissing a row)
unfolding forward_missing is_back_link
says_forward_missing a row =
    says_and (says_eq (link_of row % 2) 1) (says_not (says_any a.count (λ j l. says_and (says_forward row (a.row j)) (says_live a row j))))

-- rule 45
pub says_link_syntax_fits : (row : List ℕ) → Says (link_syntax_fits row) (LinkSyntaxFits row)
unfolding link_syntax_fits is_back_link
says_link_syntax_fits row =
    choose (λ t. Says t (LinkSyntaxFits row)) (eqb (link_of row % 2) 1)
    (λ e.
    let odd : link_of row % 2 ≡ 1 = (says_eq (link_of row % 2) 1).holds e in
    says_iff (says_eq (syntax_of row) 1) (λ fits. record { even = λ present even. absurd (omega arith); odd = λ z. fits }, λ h. h.odd odd))
    (λ e.
    let even : ¬ (link_of row % 2 ≡ 1) = says_fails (says_eq (link_of row % 2) 1) e in
    says_iff
    (says_or (says_eq (link_of row) 0) (says_or (says_eq (syntax_of row) 1) (says_or (says_eq (syntax_of row) 7) (says_eq (syntax_of row) 14)))) (
      ⊎_elim (λ absent. record { even = λ present z. absurd (present absent); odd = λ odd. absurd (even odd) })
          (λ fits. record { even = λ present z. fits; odd = λ odd. absurd (even odd) }),
      λ h. ⊎_elim (λ absent. inl absent.1) (λ present. inr (h.even present.1 (omega arith))) (says_split (says_eq (link_of row) 0)),
    ))

pub says_link_syntax_wrong : (row : List ℕ) → Says (link_syntax_wrong row) (¬ (LinkSyntaxFits row))
unfolding link_syntax_wrong
says_link_syntax_wrong row = says_not (says_link_syntax_fits row)

-- a row that is no back link needs no forward link
pub no_back_link : (a : Table) (row : List ℕ) → is_back_link row ≡ false → forward_missing a row ≡ false
unfolding forward_missing
no_back_link a row e = rw e

-- ---- where one attribute was changed or added

-- A back link keeps its forward link: the changed row has its linkID as before, and it is no defunct row now that an active back link needs.
pub forward_stays : {k : ℕ} {a u : Table} → ChangedAt k a u → (k < a.count → link_of (u.row k) ≡ link_of (a.row k)) → (row : List ℕ)
    → (k < a.count → is_forward_of row (a.row k) ≡ true → is_defunct (u.row k) ≡ true → (is_defunct (a.row k) ≡ true) ⊎ (is_defunct row ≡ true))
    → forward_missing a row ≡ false → forward_missing u row ≡ false
forward_stays {k} {a} {u} h link row ok e =
    says_false (says_forward_missing u row) (λ bad. says_fails (says_forward_missing a row) e (bad.0, λ s. bad.1 (moved s (ℕ_discrete s.at k))))
  where
    moved : (s : Some a.count (λ j. ForwardOf row (a.row j) × Live a row j)) → Dec (s.at ≡ k)
        → Some u.count (λ j. ForwardOf row (u.row j) × Live u row j)
    moved s (yes q) =
        let there : k < a.count = rw q at s.below in
        let was : ForwardOf row (a.row k) = rw q at s.is.0 in
        let now : ForwardOf row (u.row k) = rw (link there) was in
        let l : Live u row k = live_stays h row k (λ z. ok there ((says_forward row (a.row k)).passes was)) (rw q at s.is.1) in
        record { at = k; below = h.here; is = (now, l) }
    moved s (no d) =
        let f : ForwardOf row (u.row s.at) = rw (h.other s.at d s.below) s.is.0 in
        record { at = s.at; below = h.stays s.at s.below; is = (f, live_stays h row s.at (λ z. absurd (d z)) s.is.1) }
