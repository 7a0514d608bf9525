use Rattle.schema.specs.Refused.{refusal_number}
use Rattle.schema.specs.RefusedLaws.{numbers_differ}
use Rattle.rules.specs.Rules.{numbered, schema_rules, common_numbers}
use Rattle.prelude.specs.Unlike.{among}
use Rattle.rules.specs.RulesLaws.{strays, numbered_unlike}
use Rattle.tables.specs.ShapedLaws.{shaped_wide}
use Rattle.schema.specs.Store.{schema_in}
use Rattle.schema.specs.declared.number.TableId.TheVariants.{Classes}
use mathlib.Core.List.{[], ◌∷◌}
use mathlib.Core.Path.{sym, refl}
use Rattle.schema.specs.Refusals as refusal
use native.Mathlib.Omega.{arith}
use Rattle.rules.proofs.row.class_breaks.Goals as goal

pub category_wrong-requires : goal.category_wrong-requires
category_wrong-requires c =
    (c.requires.0.classes, rw c.class_row-row.ensures (omega (arith, shaped_wide c.requires.0 Classes c.args.c.0 c.requires.1)))

pub category_wrong-requires-in-NotASuperior : goal.category_wrong-requires-in-NotASuperior
category_wrong-requires-in-NotASuperior c =
    (c.requires.0.classes, rw c.class_row-row.ensures (omega (arith, shaped_wide c.requires.0 Classes c.args.c.0 c.requires.1)))

pub naming_wrong-requires : goal.naming_wrong-requires
naming_wrong-requires c =
    (c.requires.0.attributes, rw c.class_row-row.ensures (omega (arith, shaped_wide c.requires.0 Classes c.args.c.0 c.requires.1)))

pub returns-in-AttributeNotLive : goal.returns-in-AttributeNotLive
unfolding numbered
returns-in-AttributeNotLive c =
    rw c.in-AttributeNotLive.is c.attribute_not_live.ensures

pub returns-in-ClassNotLive : goal.returns-in-ClassNotLive
unfolding numbered
returns-in-ClassNotLive c =
    rw c.in-ClassNotLive.is c.class_not_live.ensures

pub returns-in-NotAnAuxiliary : goal.returns-in-NotAnAuxiliary
unfolding numbered
returns-in-NotAnAuxiliary c =
    rw (c.in-NotAnAuxiliary.is, ← c.class_row-row.ensures) c.category_wrong.ensures

pub returns-in-NotASuperior : goal.returns-in-NotASuperior
unfolding numbered
returns-in-NotASuperior c =
    rw (c.in-NotASuperior.is, ← c.class_row-row.ensures) c.category_wrong-in-NotASuperior.ensures

pub returns-in-RootNotAbstract : goal.returns-in-RootNotAbstract
unfolding numbered
returns-in-RootNotAbstract c =
    rw c.in-RootNotAbstract.is (rw (c.number.ensures, c.in-RootNotAbstract.is) at c.inheritance_wrong.ensures)

pub returns-in-AbstractUnderOther : goal.returns-in-AbstractUnderOther
unfolding numbered
returns-in-AbstractUnderOther c =
    rw c.in-AbstractUnderOther.is (rw (c.number-in-AbstractUnderOther.ensures, c.in-AbstractUnderOther.is) at
    c.inheritance_wrong-in-AbstractUnderOther.ensures)

pub returns-in-AuxiliaryUnderStructural : goal.returns-in-AuxiliaryUnderStructural
unfolding numbered
returns-in-AuxiliaryUnderStructural c =
    rw c.in-AuxiliaryUnderStructural.is (rw (c.number-in-AuxiliaryUnderStructural.ensures, c.in-AuxiliaryUnderStructural.is) at
    c.inheritance_wrong-in-AuxiliaryUnderStructural.ensures)

pub returns-in-StructuralUnderAuxiliary : goal.returns-in-StructuralUnderAuxiliary
unfolding numbered
returns-in-StructuralUnderAuxiliary c =
    rw c.in-StructuralUnderAuxiliary.is (rw (c.number-in-StructuralUnderAuxiliary.ensures, c.in-StructuralUnderAuxiliary.is) at
    c.inheritance_wrong-in-StructuralUnderAuxiliary.ensures)

pub returns-in-NamingUnfit : goal.returns-in-NamingUnfit
unfolding numbered
returns-in-NamingUnfit c =
    rw (c.in-NamingUnfit.is, ← c.class_row-row.ensures) c.naming_wrong.ensures

pub returns-in_default : goal.returns-in_default
returns-in_default c =
    sym
    (numbered_unlike (λ r. r.breaks (schema_in c.args.attributes.now c.args.classes.now) Classes c.args.c.0) (λ n. refl)
    (refusal.naming_unfit ∷ refusal.structural_under_auxiliary ∷ refusal.auxiliary_under_structural ∷ refusal.abstract_under_other ∷
    refusal.root_not_abstract ∷ refusal.not_a_superior ∷ refusal.not_an_auxiliary ∷ refusal.class_not_live ∷ refusal.attribute_not_live ∷ [])
    common_numbers (schema_rules c.args.added) (refusal_number c.args.rule) (
      (
        (
          (
            (
              (
                (
                  (
                    (
                      tt,
                      numbers_differ
                          c.in_default.not-AttributeNotLive,
                    ),
                    numbers_differ c.in_default.not-ClassNotLive,
                  ),
                  numbers_differ c.in_default.not-NotAnAuxiliary,
                ),
                numbers_differ c.in_default.not-NotASuperior,
              ),
              numbers_differ c.in_default.not-RootNotAbstract,
            ),
            numbers_differ
                c.in_default.not-AbstractUnderOther,
          ),
          numbers_differ c.in_default.not-AuxiliaryUnderStructural,
        ),
        numbers_differ
            c.in_default.not-StructuralUnderAuxiliary,
      ),
      numbers_differ c.in_default.not-NamingUnfit,
    ) c.requires.2 (unfold strays among in refl))
