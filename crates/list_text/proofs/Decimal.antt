-- The library writes numbers in decimal as the listing does.
use Rattle.std.proofs.Common.{◌≡◌, ℕ, ◌+◌, ◌/◌, ◌%◌, ◌^◌, ◌<◌, ◌≤◌, List, [], ◌∷◌, ◌++◌, sym, ap, ◌∙◌, arith}
use Rattle.std.specs.Fmt.{decimal as library_decimal}
use Rattle.std.proofs.lemmas.Fmt.{decimal_by_steps}
use Rattle.list_text.specs.Text.{decimal}
use Rattle.list_text.specs.TextLaws.{decimal_one, decimal_more}

one : (n : ℕ) → n < 10 → (48 + n) ∷ [] ≡ decimal n
one n l =
    let e : n % 10 ≡ n = omega arith in
    sym (decimal_one n l ∙ rw e)

more : (n : ℕ) (ds : List ℕ) → 10 ≤ n → ds ≡ decimal (n / 10) → ds ++ ((48 + n % 10) ∷ []) ≡ decimal n
more n ds l e = ap (λ (x : List ℕ). x ++ ((48 + n % 10) ∷ [])) e ∙ sym (decimal_more n l)

pub decimal_same : (n : ℕ) → n < 2 ^ 64 → library_decimal n ≡ decimal n
decimal_same n h = decimal_by_steps (λ (m : ℕ) (ds : List ℕ). ds ≡ decimal m) one more n h
