use mathlib.Core.Path.{refl, sym, ap, ◌∙◌}
use native.Mathlib.Omega.{arith}
use Rattle.schema.specs.Refused.{refusal_number}
use Rattle.schema.specs.Store.{schema_in}
use Rattle.schema.specs.declared.number.TableId.TheVariants.{Attributes, Classes}
use Rattle.rules.specs.Judge.{first_row}
use Rattle.rules.specs.Found.{row_answer}
use Rattle.rules.specs.Rules.{numbered, schema_rules}
use Rattle.rules.proofs.Calm.{clear_passed}
use Rattle.rules.proofs.Asked.{broken_at}
use Rattle.rules.proofs.JudgeLaws.{answer_attribute, answer_class, answer_none, found_row, found_no_row}
use Rattle.rules.proofs.judge.judge_rule.Goals as goal

pub returns-then-is_clear : goal.returns-then-is_clear
returns-then-is_clear c =
    sym (clear_passed c.args.added (schema_in c.args.attributes.now c.args.classes.now) (refusal_number c.args.rule)
    (sym c.is_clear.ensures ∙ c.if-is_clear.true))

pub row_id-requires : goal.row_id-requires
row_id-requires c =
    let m = schema_in c.args.attributes.now c.args.classes.now in
    let r = numbered (schema_rules c.args.added) (refusal_number c.args.rule) in
    omega (arith, (found_row r m Attributes c.first_row.ensures c.in-Some.a c.in-Some.is).1, c.requires.attributes.few)

pub returns-in-Some : goal.returns-in-Some
returns-in-Some c =
    let m = schema_in c.args.attributes.now c.args.classes.now in
    let r = numbered (schema_rules c.args.added) (refusal_number c.args.rule) in
    let f = found_row r m Attributes c.first_row.ensures c.in-Some.a c.in-Some.is in
    broken_at Attributes c.in-Some.a c.row_id.ensures (refusal_number c.args.rule)
    ∙ answer_attribute (schema_rules c.args.added) (refusal_number c.args.rule) m c.in-Some.a f.0 f.1

pub returns-in_err-c : goal.returns-in_err-c
returns-in_err-c c =
    let m = schema_in c.args.attributes.now c.args.classes.now in
    let r = numbered (schema_rules c.args.added) (refusal_number c.args.rule) in
    ap (row_answer (refusal_number c.args.rule)) c.from_residual.ensures
    ∙ answer_none (schema_rules c.args.added) (refusal_number c.args.rule) m (first_row r m Attributes) refl
    (found_no_row r m Attributes c.first_row.ensures c.in_default.is) (first_row r m Classes) refl
    (found_no_row r m Classes c.first_row-2.ensures c.in_err-c.was)

pub row_id-requires-2 : goal.row_id-requires-2
row_id-requires-2 c =
    let m = schema_in c.args.attributes.now c.args.classes.now in
    let r = numbered (schema_rules c.args.added) (refusal_number c.args.rule) in
    omega (arith, (found_row r m Classes c.first_row-2.ensures c.in_ok-c.c c.in_ok-c.was).1, c.requires.classes.few)

pub returns : goal.returns
returns c =
    let m = schema_in c.args.attributes.now c.args.classes.now in
    let r = numbered (schema_rules c.args.added) (refusal_number c.args.rule) in
    let f = found_row r m Classes c.first_row-2.ensures c.in_ok-c.c c.in_ok-c.was in
    broken_at Classes c.in_ok-c.c c.row_id-2.ensures (refusal_number c.args.rule)
    ∙ answer_class (schema_rules c.args.added) (refusal_number c.args.rule) m (first_row r m Attributes) refl
    (found_no_row r m Attributes c.first_row.ensures c.in_default.is) c.in_ok-c.c f.0 f.1
