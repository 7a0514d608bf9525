use Rattle.rules.specs.Rules.{numbered}
use Rattle.tables.specs.ShapedLaws.{shaped_within}
use Rattle.rules_unique.proofs.UniqueLaws.{schema_keyed}
use Rattle.schema.specs.Numbers.{table_of, number_of}
use native.Mathlib.Omega.{arith}
use Rattle.rules.proofs.row.breaks_rule.Goals as goal

pub schema_row-row-requires : goal.schema_row-row-requires
schema_row-row-requires c =
    let id = c.args.id in
    (c.requires.0.attributes.long, c.requires.0.classes.long, shaped_within c.requires.0 (table_of id) (number_of id) c.requires.1)

pub name_invalid-requires : goal.name_invalid-requires
name_invalid-requires c =
    let id = c.args.id in
    let y = schema_keyed c.requires.0 (table_of id)
    (number_of id) c.requires.1 in rw c.schema_row-row.ensures (omega (arith, y.wide), y.name)

pub identifier_invalid-requires : goal.identifier_invalid-requires
identifier_invalid-requires c =
    let id = c.args.id in
    let y = schema_keyed c.requires.0 (table_of id)
    (number_of id) c.requires.1 in rw c.schema_row-row.ensures (omega (arith, y.wide))

pub returns-in-NameInvalid : goal.returns-in-NameInvalid
unfolding numbered
returns-in-NameInvalid c =
    rw (c.in-NameInvalid.is, ← c.schema_row-row.ensures) c.name_invalid.ensures

pub returns-in-NameTaken : goal.returns-in-NameTaken
unfolding numbered
returns-in-NameTaken c =
    rw c.in-NameTaken.is c.is_taken.ensures

pub returns-in-IdentifierInvalid : goal.returns-in-IdentifierInvalid
unfolding numbered
returns-in-IdentifierInvalid c =
    rw (c.in-IdentifierInvalid.is, ← c.schema_row-row.ensures) c.identifier_invalid.ensures

pub returns-in-IdentifierTaken : goal.returns-in-IdentifierTaken
unfolding numbered
returns-in-IdentifierTaken c =
    rw c.in-IdentifierTaken.is c.is_taken-in-IdentifierTaken.ensures

pub returns-in-GuidTaken : goal.returns-in-GuidTaken
unfolding numbered
returns-in-GuidTaken c =
    rw c.in-GuidTaken.is c.is_taken-in-GuidTaken.ensures

pub returns-in-MapiTaken : goal.returns-in-MapiTaken
unfolding numbered
returns-in-MapiTaken c =
    rw c.in-MapiTaken.is c.is_taken-in-MapiTaken.ensures

pub returns-in-LinkTaken : goal.returns-in-LinkTaken
unfolding numbered
returns-in-LinkTaken c =
    rw c.in-LinkTaken.is c.is_taken-in-LinkTaken.ensures
