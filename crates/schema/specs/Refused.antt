-- The number of a refusal, and the number and the answer of what may refuse. Refusals.antt has the numbers, by the same names.
use Rattle.std.specs.Prelude.{Err, Ok, Result, ℕ}
use Rattle.schema.specs.Answers.{changed, passed, refused}
use Rattle.schema.specs.declared.answer.Answer.{Answer}
use Rattle.schema.specs.declared.number.RowId.{RowId}
use Rattle.schema.specs.declared.refusal.Refusal.{Refusal}
use Rattle.schema.specs.declared.refusal.Refusal.TheVariants as kind
use Rattle.schema.specs.Numbers.{number_of, table_of}
use Rattle.schema.specs.Refusals as refusal

abbrev pub refusal_number : Refusal → ℕ
refusal_number kind.ShortStore = refusal.short_store
refusal_number kind.BrokenShape = refusal.broken_shape
refusal_number kind.NotInOrder = refusal.not_in_order
refusal_number kind.Unreadable = refusal.unreadable
refusal_number kind.NoSuchRow = refusal.no_such_row
refusal_number kind.NoFreeRow = refusal.no_free_row
refusal_number kind.WrongState = refusal.wrong_state
refusal_number kind.BaseRow = refusal.base_row
refusal_number kind.AddedBaseRow = refusal.added_base_row
refusal_number kind.EntryConflict = refusal.entry_conflict
refusal_number kind.StillNeeded = refusal.still_needed
refusal_number kind.NameInvalid = refusal.name_invalid
refusal_number kind.NameTaken = refusal.name_taken
refusal_number kind.IdentifierInvalid = refusal.identifier_invalid
refusal_number kind.IdentifierTaken = refusal.identifier_taken
refusal_number kind.GuidTaken = refusal.guid_taken
refusal_number kind.AttributeNotLive = refusal.attribute_not_live
refusal_number kind.ClassNotLive = refusal.class_not_live
refusal_number kind.NotAnAuxiliary = refusal.not_an_auxiliary
refusal_number kind.NotASuperior = refusal.not_a_superior
refusal_number kind.RootNotAbstract = refusal.root_not_abstract
refusal_number kind.NamingUnfit = refusal.naming_unfit
refusal_number kind.MapiTaken = refusal.mapi_taken
refusal_number kind.RangeCrossed = refusal.range_crossed
refusal_number kind.SyntaxMisfit = refusal.syntax_misfit
refusal_number kind.ObjectClassWrong = refusal.object_class_wrong
refusal_number kind.LinkTaken = refusal.link_taken
refusal_number kind.LinkAlone = refusal.link_alone
refusal_number kind.MandatoryDiffers = refusal.mandatory_differs
refusal_number kind.ShortOutput = refusal.short_output
refusal_number kind.AbstractUnderOther = refusal.abstract_under_other
refusal_number kind.AuxiliaryUnderStructural = refusal.auxiliary_under_structural
refusal_number kind.StructuralUnderAuxiliary = refusal.structural_under_auxiliary
refusal_number kind.LinkSyntaxUnfit = refusal.link_syntax_unfit

-- "0 done", and the number of the refusal where there is one
abbrev pub outcome_number : {A : Type 0} → Result A Refusal → ℕ
outcome_number (Ok x) = refusal.done
outcome_number (Err why) = refusal_number why

abbrev pub outcome_answer : {A : Type 0} → Result A Refusal → Answer
outcome_answer (Ok x) = passed
outcome_answer (Err why) = refused (refusal_number why)

-- .. that names the row changed or added
abbrev pub changed_answer : Result RowId Refusal → Answer
changed_answer (Ok id) = changed (table_of id) (number_of id)
changed_answer (Err why) = refused (refusal_number why)

-- the answer of what is refused with one
abbrev pub given_answer : {A : Type 0} → Result A Answer → Answer
given_answer (Ok x) = passed
given_answer (Err a) = a
