-- The order of judging. Document 01: "The smallest number whose condition holds." Document 02 puts 38, 39 and 40 "at 21's place in the order, in the order
-- given here, though their numbers are higher. Demand 2's smallest is the first in this order", and 45 "after 29".
use Rattle.std.specs.Prelude.{cond, List, [], ◌∷◌, ℕ, suc, eqb}
use Rattle.schema.specs.Refusals as refusal

-- every number that a call gives back, from the first to the last
abbrev pub order : List ℕ
order =
    refusal.done ∷ refusal.short_store ∷ refusal.broken_shape ∷ refusal.not_in_order ∷ refusal.unreadable ∷ refusal.no_such_row ∷ refusal.no_free_row ∷
    refusal.wrong_state ∷ refusal.base_row ∷ refusal.added_base_row ∷ refusal.entry_conflict ∷ refusal.still_needed ∷ refusal.name_invalid ∷ refusal.name_taken ∷
    refusal.identifier_invalid ∷ refusal.identifier_taken ∷ refusal.guid_taken ∷ refusal.attribute_not_live ∷ refusal.class_not_live ∷ refusal.not_an_auxiliary ∷
    refusal.not_a_superior ∷ refusal.root_not_abstract ∷ refusal.abstract_under_other ∷ refusal.auxiliary_under_structural ∷ refusal.structural_under_auxiliary ∷
    refusal.naming_unfit ∷ refusal.mapi_taken ∷ refusal.range_crossed ∷ refusal.syntax_misfit ∷ refusal.object_class_wrong ∷
    refusal.link_taken ∷ refusal.link_alone ∷ refusal.link_syntax_unfit ∷ refusal.mandatory_differs ∷ refusal.short_output ∷ []

-- how many numbers of a list stand before n, all of them where n is none of them
unfoldable pub position : List ℕ → ℕ → ℕ
position [] n = 0
position (x ∷ xs) n = cond (eqb x n) 0 (suc (position xs n))

-- the place of a number in the order
unfoldable pub rank : ℕ → ℕ
rank n = position order n
