-- No two refusals have the same number, and none has 0; so what may refuse was refused exactly where its number is not 0.
use Rattle.std.specs.Prelude.{cond, eqb, ◌≡◌, refl, ℕ}
use Rattle.std.proofs.Common.{sym, ap, arith, ◌∙◌}
use Rattle.schema.specs.declared.refusal.Refusal.{Refusal}
use Rattle.schema.specs.declared.refusal.Refusal.TheVariants as kind
use Rattle.schema.specs.Refusals as refusal
use Rattle.schema.specs.Refused.{refusal_number}

-- the refusal of a number
abbrev refusal_of : ℕ → Refusal
refusal_of n =
    cond (eqb n refusal.short_store) kind.ShortStore (
    cond (eqb n refusal.broken_shape) kind.BrokenShape (
    cond (eqb n refusal.not_in_order) kind.NotInOrder (
    cond (eqb n refusal.unreadable) kind.Unreadable (
    cond (eqb n refusal.no_such_row) kind.NoSuchRow (
    cond (eqb n refusal.no_free_row) kind.NoFreeRow (
    cond (eqb n refusal.wrong_state) kind.WrongState (
    cond (eqb n refusal.base_row) kind.BaseRow (
    cond (eqb n refusal.added_base_row) kind.AddedBaseRow (
    cond (eqb n refusal.entry_conflict) kind.EntryConflict (
    cond (eqb n refusal.still_needed) kind.StillNeeded (
    cond (eqb n refusal.name_invalid) kind.NameInvalid (
    cond (eqb n refusal.name_taken) kind.NameTaken (
    cond (eqb n refusal.identifier_invalid) kind.IdentifierInvalid (
    cond (eqb n refusal.identifier_taken) kind.IdentifierTaken (
    cond (eqb n refusal.guid_taken) kind.GuidTaken (
    cond (eqb n refusal.attribute_not_live) kind.AttributeNotLive (
    cond (eqb n refusal.class_not_live) kind.ClassNotLive (
    cond (eqb n refusal.not_an_auxiliary) kind.NotAnAuxiliary (
    cond (eqb n refusal.not_a_superior) kind.NotASuperior (
    cond (eqb n refusal.root_not_abstract) kind.RootNotAbstract (
    cond (eqb n refusal.naming_unfit) kind.NamingUnfit (
    cond (eqb n refusal.mapi_taken) kind.MapiTaken (
    cond (eqb n refusal.range_crossed) kind.RangeCrossed (
    cond (eqb n refusal.syntax_misfit) kind.SyntaxMisfit (
    cond (eqb n refusal.object_class_wrong) kind.ObjectClassWrong (
    cond (eqb n refusal.link_taken) kind.LinkTaken (
    cond (eqb n refusal.link_alone) kind.LinkAlone (
    cond (eqb n refusal.mandatory_differs) kind.MandatoryDiffers (
    cond (eqb n refusal.short_output) kind.ShortOutput (
    cond (eqb n refusal.abstract_under_other) kind.AbstractUnderOther (
    cond (eqb n refusal.auxiliary_under_structural) kind.AuxiliaryUnderStructural (
    cond (eqb n refusal.structural_under_auxiliary) kind.StructuralUnderAuxiliary (
    kind.LinkSyntaxUnfit)))))))))))))))))))))))))))))))))

found_again : (x : Refusal) → refusal_of (refusal_number x) ≡ x
found_again kind.ShortStore = refl
found_again kind.BrokenShape = refl
found_again kind.NotInOrder = refl
found_again kind.Unreadable = refl
found_again kind.NoSuchRow = refl
found_again kind.NoFreeRow = refl
found_again kind.WrongState = refl
found_again kind.BaseRow = refl
found_again kind.AddedBaseRow = refl
found_again kind.EntryConflict = refl
found_again kind.StillNeeded = refl
found_again kind.NameInvalid = refl
found_again kind.NameTaken = refl
found_again kind.IdentifierInvalid = refl
found_again kind.IdentifierTaken = refl
found_again kind.GuidTaken = refl
found_again kind.AttributeNotLive = refl
found_again kind.ClassNotLive = refl
found_again kind.NotAnAuxiliary = refl
found_again kind.NotASuperior = refl
found_again kind.RootNotAbstract = refl
found_again kind.NamingUnfit = refl
found_again kind.MapiTaken = refl
found_again kind.RangeCrossed = refl
found_again kind.SyntaxMisfit = refl
found_again kind.ObjectClassWrong = refl
found_again kind.LinkTaken = refl
found_again kind.LinkAlone = refl
found_again kind.MandatoryDiffers = refl
found_again kind.ShortOutput = refl
found_again kind.AbstractUnderOther = refl
found_again kind.AuxiliaryUnderStructural = refl
found_again kind.StructuralUnderAuxiliary = refl
found_again kind.LinkSyntaxUnfit = refl

pub one_refusal : {x y : Refusal} → refusal_number x ≡ refusal_number y → x ≡ y
one_refusal {x} {y} e = sym (found_again x) ∙ ap refusal_of e ∙ found_again y

pub numbers_differ : {x y : Refusal} → ¬ (x ≡ y) → ¬ (refusal_number x ≡ refusal_number y)
numbers_differ {x} {y} d e = d (one_refusal {x = x} {y = y} e)

pub number_some : (x : Refusal) → ¬ (refusal_number x ≡ 0)
number_some x e =
    let last : kind.LinkSyntaxUnfit ≡ x = sym (ap refusal_of e) ∙ found_again x in
    let z : ◌≡◌ {A = ℕ} 45 0 = ap refusal_number last ∙ e in
    omega arith
