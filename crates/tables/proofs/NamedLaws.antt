-- What the tests of named rows say.
use Rattle.std.specs.Prelude.{true, false, List, ◌≡◌, ℕ}
use Rattle.std.proofs.lemmas.Bool.{false≢true}
use Rattle.std.proofs.Common.{ap}
use Rattle.prelude.specs.Says.{Says}
use Rattle.prelude.specs.SaysLaws.{says_or, says_eq, says_iff}
use Rattle.sets.specs.SetsLaws.{says_member}
use Rattle.schema.specs.ClassRow.{superclass_of, naming_of, mandatory_of, fixed_optional_of, open_optional_of, fixed_auxiliary_of, open_auxiliary_of}
use Rattle.schema.specs.ClassRow.{fixed_superior_of, open_superior_of}
use Rattle.schema.specs.declared.number.AttributeNumber.{AttributeNumber}
use Rattle.schema.specs.declared.number.TableId.{TableId}
use Rattle.schema.specs.declared.number.TableId.TheVariants.{Attributes, Classes}
use Rattle.tables.specs.declared.named.ClassList.{ClassList}
use Rattle.tables.specs.declared.named.ClassList.TheVariants.{Auxiliaries, Superiors}
use Rattle.tables.specs.Named.{lists, named_by, names, Lists, Names}
use Rattle.std.specs.Prelude.{Option, Some, None}

pub says_lists : (kind : ClassList) (row : List ℕ) (n : ℕ) → Says (lists kind row n) (Lists kind row n)
unfolding lists
says_lists Auxiliaries row n = says_or (says_member (fixed_auxiliary_of row) n) (says_member (open_auxiliary_of row) n)
says_lists Superiors row n = says_or (says_member (fixed_superior_of row) n) (says_member (open_superior_of row) n)

says_named_by : (named : Option AttributeNumber) (n : ℕ) → Says (named_by named n) (◌≡◌ {A = Option AttributeNumber} named (Some (record { 0 = n })))
unfolding named_by
says_named_by (Some a) n = says_iff (says_eq a.0 n) (λ e. ap (λ (m : ℕ). Some (record { 0 = m })) e, λ e. inside e)
  where
    inside : ◌≡◌ {A = Option AttributeNumber} (Some a) (Some (record { 0 = n })) → a.0 ≡ n
    inside e = let q : a ≡ record { 0 = n } = cc in ap (λ (x : AttributeNumber). x.0) q
says_named_by None n = record { holds = λ e. absurd (false≢true e); passes = λ e. never e }
  where
    never : ◌≡◌ {A = Option AttributeNumber} None (Some (record { 0 = n })) → false ≡ true
    never e = cc

pub says_names : (t : TableId) (row : List ℕ) (n : ℕ) → Says (names t row n) (Names t row n)
unfolding names
says_names Attributes row n =
    says_or (says_member (mandatory_of row) n)
    (says_or (says_member (fixed_optional_of row) n) (says_or (says_member (open_optional_of row) n) (says_named_by (naming_of row) n)))
says_names Classes row n = says_or (says_eq (superclass_of row) n) (says_or (says_lists Auxiliaries row n) (says_lists Superiors row n))
