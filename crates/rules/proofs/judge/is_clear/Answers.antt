use Rattle.schema.specs.Refused.{refusal_number}
use Rattle.schema.specs.RefusedLaws.{numbers_differ}
use Rattle.rules.specs.Clear.{is_clear, key_numbers}
use Rattle.rules.specs.Judge.{broken}
use Rattle.rules.specs.Rules.{numbered, schema_rules}
use Rattle.rules_unique.specs.Marks.{any_taken}
use Rattle.schema.specs.Store.{schema_in}
use Rattle.prelude.specs.UnlikeLaws.{unlike_among}
use Rattle.prelude.specs.Unlike.{among}
use mathlib.Core.Path.{sym, ap}
use mathlib.Core.Bool.{Bool, not, ◌&&◌}
use Rattle.rules.proofs.judge.is_clear.Goals as goal

pub any_taken-requires : goal.any_taken-requires
any_taken-requires c =
    c.requires

pub any_taken-requires-in-IdentifierTaken : goal.any_taken-requires-in-IdentifierTaken
any_taken-requires-in-IdentifierTaken c =
    c.requires

pub any_taken-requires-in-GuidTaken : goal.any_taken-requires-in-GuidTaken
any_taken-requires-in-GuidTaken c =
    c.requires

pub any_taken-requires-in-MapiTaken : goal.any_taken-requires-in-MapiTaken
any_taken-requires-in-MapiTaken c =
    c.requires

pub any_taken-requires-in-LinkTaken : goal.any_taken-requires-in-LinkTaken
any_taken-requires-in-LinkTaken c =
    c.requires

pub returns-in-NameTaken : goal.returns-in-NameTaken
unfolding is_clear among any_taken numbered
returns-in-NameTaken c =
    rw c.in-NameTaken.is (ap not c.any_taken.ensures)

pub returns-in-IdentifierTaken : goal.returns-in-IdentifierTaken
unfolding is_clear among any_taken numbered
returns-in-IdentifierTaken c =
    rw c.in-IdentifierTaken.is (ap not c.any_taken-in-IdentifierTaken.ensures)

pub returns-in-GuidTaken : goal.returns-in-GuidTaken
unfolding is_clear among any_taken numbered
returns-in-GuidTaken c =
    rw c.in-GuidTaken.is (ap not c.any_taken-in-GuidTaken.ensures)

pub returns-in-MapiTaken : goal.returns-in-MapiTaken
unfolding is_clear among any_taken numbered
returns-in-MapiTaken c =
    rw c.in-MapiTaken.is (ap not c.any_taken-in-MapiTaken.ensures)

pub returns-in-LinkTaken : goal.returns-in-LinkTaken
unfolding is_clear among any_taken numbered
returns-in-LinkTaken c =
    rw c.in-LinkTaken.is (ap not c.any_taken-in-LinkTaken.ensures)

pub returns-in_default : goal.returns-in_default
unfolding is_clear
returns-in_default c =
    sym (ap (λ (q : Bool). q && not (broken (schema_in c.args.attributes.now c.args.classes.now) (numbered (schema_rules
    c.args.added) (refusal_number c.args.rule)))) (unlike_among (refusal_number c.args.rule) key_numbers (
      (
        (
          (
            (
              tt,
              numbers_differ
                  c.in_default.not-NameTaken,
            ),
            numbers_differ c.in_default.not-IdentifierTaken,
          ),
          numbers_differ c.in_default.not-GuidTaken,
        ),
        numbers_differ
            c.in_default.not-MapiTaken,
      ),
      numbers_differ c.in_default.not-LinkTaken,
    )))
