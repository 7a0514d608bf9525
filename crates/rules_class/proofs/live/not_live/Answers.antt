use Rattle.std.proofs.Common.{rules, true, ◌≡◌, ap, ◌∙◌, ◌*◌, ◌/◌}
use Rattle.prelude.specs.Below.{any_below}
use Rattle.schema.specs.Store.{table_in}
use Rattle.rules_class.specs.Blank.{names_none}
use Rattle.rules_class.specs.Live.{names_dead, not_live}
use Rattle.rules_class.proofs.Bytewise.{none_dead, whole_bytes}
use Rattle.rules_class.proofs.live.not_live.Goals as goal

pub returns : goal.returns
unfolding not_live
returns c =
    let table = c.args.table in
    let rows = table_in table c.args.store.now in
    let row = c.args.row.now in
    c.any_by_bytes.ensures (names_dead table rows row) (record {
      says = λ n b l h. search rules;
      none = λ at i l k h. let e : names_none table row at ≡ true = search rules in none_dead table rows row at i k e;
    }) ∙ ap (λ n. any_below n (names_dead table rows row)) (ap (λ n. n / 8 * 8) c.row_limit.ensures ∙ whole_bytes table)
