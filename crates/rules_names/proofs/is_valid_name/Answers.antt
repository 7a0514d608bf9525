use Rattle.std.proofs.Common.{List, ◌≡◌, ℕ, Bool, get_or, sym, ap, ◌∙◌, arith, rules}
use Rattle.std.proofs.lemmas.Bool.Decides.{nat_tests}
use Rattle.std.proofs.lemmas.Iterator.{YieldsList-from_slice}
use Rattle.std.proofs.lemmas.Iterator.Search.{all_from_yields_List}
use Rattle.std.specs.Char.{is_ascii_alphabetic}
use Rattle.prelude.proofs.Places.{all_places}
use Rattle.prelude.specs.SaysLaws.{says_false}
use Rattle.rules_names.specs.Name.{is_letter, is_name_byte, valid_name, between}
use Rattle.rules_names.specs.NameLaws.{says_valid}
use Rattle.rules_names.proofs.is_valid_name.Goals as goal

letter : (b : ℕ) → is_ascii_alphabetic b ≡ is_letter b
unfolding is_letter between
letter b = grind (arith, nat_tests)

-- a name's first byte, as it was tested
begun : (s : List ℕ) (b : ℕ) (r : Bool) → r ≡ is_ascii_alphabetic b → b ≡ get_or s 0 0 → r ≡ is_letter (get_or s 0 0)
begun s b r e h = e ∙ letter b ∙ ap is_letter h

pub returns-in_default : goal.returns-in_default
returns-in_default c = sym (says_false (says_valid c.args.name.now) (λ v. omega (arith, v.begun, c.in_default.ensures.item.3)))

pub returns-then-is_ascii_alphabetic : goal.returns-then-is_ascii_alphabetic
unfolding valid_name
returns-then-is_ascii_alphabetic c =
    let name = c.args.name.now in
    let first = begun name _ _ c.is_ascii_alphabetic.ensures.value (c.in-Some.ensures.item.3.1 0) in
    rw (← first, c.if-is_ascii_alphabetic.true)
    (all_from_yields_List is_name_byte c.all.new.self _ c.all.result c.all.ensures.ran (YieldsList-from_slice name (cc)) (λ x r q h. search rules)
    ∙ all_places 0 is_name_byte name)

pub returns-else-is_ascii_alphabetic : goal.returns-else-is_ascii_alphabetic
unfolding valid_name
returns-else-is_ascii_alphabetic c =
    let first = begun c.args.name.now _ _ c.is_ascii_alphabetic.ensures.value (c.in-Some.ensures.item.3.1 0) in
    rw (← first, c.if-is_ascii_alphabetic.false)
