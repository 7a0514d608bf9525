use Rattle.std.proofs.Common.{rules, true, ◌≡◌}
use Rattle.schema.specs.declared.number.TableId.TheVariants.{Classes}
use Rattle.schema.specs.Store.{table_in}
use Rattle.rules_class.specs.Blank.{lists_none}
use Rattle.rules_class.specs.Category.{category_wrong, wrongly_listed}
use Rattle.rules_class.proofs.Bytewise.{none_wrong}
use Rattle.rules_class.proofs.category.category_wrong.Goals as goal

pub returns : goal.returns
unfolding category_wrong
returns c =
    let kind = c.args.kind in
    let classes = table_in Classes c.args.classes.now in
    let row = c.args.row.now in
    c.any_by_bytes.ensures (wrongly_listed kind classes row) (record {
      says = λ n b l h. search rules;
      none = λ at i l k h. let e : lists_none kind row at ≡ true = search rules in none_wrong kind classes row at i k e;
    })
