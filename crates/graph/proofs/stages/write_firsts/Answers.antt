use borrow.Author.Rules.{rules}
use Rattle.schema.specs.Store.{table_in}
use Rattle.schema.specs.declared.number.TableId.TheVariants.{Classes}
use Rattle.graph.proofs.Rows.{stage_length}
use Rattle.graph.specs.Stages.{stage_row, stage_rows}
use Rattle.graph.proofs.stages.write_firsts.Goals as goal

pub returns : goal.returns
unfolding stage_rows
returns c =
    let t = table_in Classes c.args.classes.now in
    c.rewrite_rows.ensures (stage_row t 0) (λ k l. stage_length t 0 k) (λ k row left l e p. search rules)
