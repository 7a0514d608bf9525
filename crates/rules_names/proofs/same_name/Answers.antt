use Rattle.std.proofs.Common.{◌≡◌, ◌↔◌, ℕ, List, map, length, get_or, sym, ap, ◌∙◌, arith, ext_get_or}
use Rattle.std.proofs.lemmas.Bool.Decides.{nat_tests}
use Rattle.std.proofs.lemmas.List.{length-map}
use Rattle.std.proofs.Math.ListN.{get_or-map}
use Rattle.std.specs.Char.{to_ascii_lowercase}
use Rattle.prelude.specs.SaysLaws.{says_same}
use Rattle.rules_names.specs.Name.{folded, between, SameName}
use Rattle.rules_names.specs.NameLaws.{says_same_name}
use Rattle.rules_names.proofs.same_name.Goals as goal

lower : (b : ℕ) → to_ascii_lowercase b ≡ folded b
unfolding folded between
lower b = grind (arith, nat_tests)

lower_at : (s : List ℕ) (i : ℕ) → get_or (map to_ascii_lowercase s) i 0 ≡ folded (get_or s i 0)
lower_at s i = get_or-map to_ascii_lowercase s i 0 ∙ lower (get_or s i 0)

-- names that are the same in lower case
lowered : (s t : List ℕ) → (map to_ascii_lowercase s ≡ map to_ascii_lowercase t) ↔ SameName s t
lowered s t = (
  λ e. record {
    lengths = sym (length-map s to_ascii_lowercase) ∙ ap length e ∙ length-map t to_ascii_lowercase;
    bytes = λ i l. sym (lower_at s i) ∙ ap (λ (x : List ℕ). get_or x i 0) e ∙ lower_at t i;
  },
  λ h. ext_get_or 0 (map to_ascii_lowercase s) (map to_ascii_lowercase t)
      (length-map s to_ascii_lowercase ∙ h.lengths ∙ sym (length-map t to_ascii_lowercase))
      (λ i l. lower_at s i ∙ h.bytes i (omega (arith, length-map s to_ascii_lowercase)) ∙ sym (lower_at t i)),
)

pub returns : goal.returns
returns c =
    let s = c.args.s.now in
    let t = c.args.t.now in
    let h = c.eq_ignore_ascii_case.ensures.test in
    says_same (record { holds = λ e. (lowered s t).0 (h.0 e); passes = λ q. h.1 ((lowered s t).1 q) }) (says_same_name s t)
