use Rattle.schema.specs.Refused.{refusal_number}
use Rattle.schema.specs.RefusedLaws.{numbers_differ}
use Rattle.rules.specs.Rules.{numbered, schema_rules, common_numbers}
use Rattle.prelude.specs.Unlike.{among}
use Rattle.rules.specs.RulesLaws.{strays, numbered_unlike}
use Rattle.tables.specs.ShapedLaws.{shaped_wide}
use Rattle.schema.specs.Store.{schema_in}
use Rattle.schema.specs.declared.number.TableId.TheVariants.{Attributes}
use mathlib.Core.List.{[], ◌∷◌}
use mathlib.Core.Path.{sym, refl}
use Rattle.schema.specs.Refusals as refusal
use native.Mathlib.Omega.{arith}
use Rattle.rules.proofs.row.attribute_breaks.Goals as goal

pub range_wrong-requires : goal.range_wrong-requires
range_wrong-requires c =
    rw c.attribute_row-row.ensures
    (omega (arith, shaped_wide c.requires.0 Attributes c.args.a.0 c.requires.1))

pub syntax_wrong-requires : goal.syntax_wrong-requires
syntax_wrong-requires c =
    rw c.attribute_row-row.ensures
    (omega (arith, shaped_wide c.requires.0 Attributes c.args.a.0 c.requires.1))

pub object_class_wrong-requires : goal.object_class_wrong-requires
object_class_wrong-requires c =
    rw c.attribute_row-row.ensures (
      omega (arith, shaped_wide c.requires.0 Attributes c.args.a.0 c.requires.1),
      (c.requires.0.attributes.bounded c.args.a.0
          c.requires.1).object_class refl,
    )

pub forward_missing-requires : goal.forward_missing-requires
forward_missing-requires c = (
  c.requires.0.attributes,
  rw c.attribute_row-row.ensures
      (omega (arith, shaped_wide c.requires.0 Attributes c.args.a.0 c.requires.1)),
)

pub link_syntax_wrong-requires : goal.link_syntax_wrong-requires
link_syntax_wrong-requires c =
    rw c.attribute_row-row.ensures
    (omega (arith, shaped_wide c.requires.0 Attributes c.args.a.0 c.requires.1))

pub returns-in-RangeCrossed : goal.returns-in-RangeCrossed
unfolding numbered
returns-in-RangeCrossed c =
    rw (c.in-RangeCrossed.is, ← c.attribute_row-row.ensures) c.range_wrong.ensures

pub returns-in-SyntaxMisfit : goal.returns-in-SyntaxMisfit
unfolding numbered
returns-in-SyntaxMisfit c =
    rw (c.in-SyntaxMisfit.is, ← c.attribute_row-row.ensures) c.syntax_wrong.ensures

pub returns-in-ObjectClassWrong : goal.returns-in-ObjectClassWrong
unfolding numbered
returns-in-ObjectClassWrong c =
    rw (c.in-ObjectClassWrong.is, ← c.attribute_row-row.ensures) c.object_class_wrong.ensures

pub returns-in-LinkAlone : goal.returns-in-LinkAlone
unfolding numbered
returns-in-LinkAlone c =
    rw (c.in-LinkAlone.is, ← c.attribute_row-row.ensures) c.forward_missing.ensures

pub returns-in-LinkSyntaxUnfit : goal.returns-in-LinkSyntaxUnfit
unfolding numbered
returns-in-LinkSyntaxUnfit c =
    rw (c.in-LinkSyntaxUnfit.is, ← c.attribute_row-row.ensures) c.link_syntax_wrong.ensures

pub returns-in_default : goal.returns-in_default
returns-in_default c =
    sym
    (numbered_unlike (λ r. r.breaks (schema_in c.args.attributes.now c.args.classes.now) Attributes c.args.a.0) (λ n. refl)
    (refusal.link_syntax_unfit ∷ refusal.link_alone ∷ refusal.object_class_wrong ∷ refusal.syntax_misfit ∷ refusal.range_crossed ∷ []) common_numbers
    (schema_rules c.args.added) (refusal_number c.args.rule) (
      (
        (
          (
            (tt, numbers_differ c.in_default.not-RangeCrossed),
            numbers_differ
                c.in_default.not-SyntaxMisfit,
          ),
          numbers_differ c.in_default.not-ObjectClassWrong,
        ),
        numbers_differ c.in_default.not-LinkAlone,
      ),
      numbers_differ
          c.in_default.not-LinkSyntaxUnfit,
    ) c.requires.2 (unfold strays among in refl))
