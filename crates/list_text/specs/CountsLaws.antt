-- What "must" and "may" are. Document 01: "Ones of the set's words are summed with the language's count of ones and equal the members of the defined set."
-- All four public laws are theorems for a reader: `must_members`, `may_members` say that a kept set has as many members as the defined one,
-- `demanded_count`, `allowed_count` what these members are, with quantifiers.
use Rattle.std.specs.Prelude.{Bool, List, ◌≡◌, ℕ, ◌*◌}
use Rattle.std.proofs.Common.{sym, ap, ◌∙◌}
use Rattle.prelude.specs.Says.{Says}
use Rattle.prelude.specs.Part.{part}
use Rattle.sets.specs.Sets.{member, set_of, count_below, member_count, list_below}
use Rattle.sets.specs.SetsLaws.{set_length, member_within}
use Rattle.sets.specs.CountLaws.{count_cong}
use Rattle.sets.specs.ListLaws.{list_has, list_rises, list_count}
use Rattle.schema.specs.Numbers.{attribute_limit}
use Rattle.schema.specs.Layout.{attribute_set, demanded_at, allowed_at}
use Rattle.schema.specs.Store.{Table, closure_at}
use Rattle.graph.specs.Graph.{Collects, lists_mandatory, lists_optional, demands, allows, closure_row, inherits}
use Rattle.graph.specs.GraphLaws.{says_collects}
use Rattle.graph.proofs.FreshLaws.{allowed_part, demanded_part}
use Rattle.list_text.specs.Listing.{kept_count, kept_counts, defined_counts, CountOf}

-- ---- the counts of a class whose kept sets are those of the definitions

set_count : (f : ℕ → Bool) → member_count (set_of attribute_set f) ≡ count_below attribute_limit f
unfolding member_count
set_count f =
    ap (λ (n : ℕ). count_below (n * 8) (member (set_of attribute_set f))) (set_length attribute_set f)
    ∙ count_cong attribute_limit (member (set_of attribute_set f)) f (λ k l. member_within attribute_set f k l)

-- a kept set that is the set of those that pass a test has as many members
kept_members : (at : ℕ) (closure : List ℕ) (c : ℕ) (f : ℕ → Bool) → part at attribute_set (closure_at closure c) ≡ set_of attribute_set f
    → kept_count at closure c ≡ count_below attribute_limit f
unfolding kept_count
kept_members at closure c f e = ap member_count e ∙ set_count f

module _ (t : Table) (closure : List ℕ) (c : ℕ) (fresh : closure_at closure c ≡ closure_row t c) where
  -- "must": as many attributes as the class demands
  pub must_members : (kept_counts closure).must c ≡ (defined_counts t).must c
  must_members = kept_members demanded_at closure c (demands t c) (ap (part demanded_at attribute_set) fresh ∙ demanded_part t c)

  -- "may": as many as it allows
  pub may_members : (kept_counts closure).may c ≡ (defined_counts t).may c
  may_members = kept_members allowed_at closure c (allows t c) (ap (part allowed_at attribute_set) fresh ∙ allowed_part t c)

-- the numbers that pass a test are those of which its statement holds
counted : (n : ℕ) (p : ℕ → Bool) {P : ℕ → Type 0} → ((b : ℕ) → Says (p b) (P b)) → CountOf n P (count_below n p)
counted n p {P} says = record {
  members = list_below n p;
  rises = list_rises n p;
  has = λ b. (λ m. (let h = (list_has n p b).0 m in (h.0, (says b).holds h.1)), λ h. (list_has n p b).1 (h.0, (says b).passes h.1));
  count = sym (list_count n p);
}

-- "the number of attributes in the kept mandatory set": those that some class reached lists as mandatory; and as optional
pub demanded_count : (t : Table) (c : ℕ) → CountOf attribute_limit (Collects t.count (inherits t) (lists_mandatory t) c) ((defined_counts t).must c)
demanded_count t c = counted attribute_limit (demands t c) (says_collects t.count (inherits t) (lists_mandatory t) c)

pub allowed_count : (t : Table) (c : ℕ) → CountOf attribute_limit (Collects t.count (inherits t) (lists_optional t) c) ((defined_counts t).may c)
allowed_count t c = counted attribute_limit (allows t c) (says_collects t.count (inherits t) (lists_optional t) c)
