use Rattle.std.proofs.Common.{◌≡◌, ap, ap₂, ◌∙◌, length, arith, rules}
use Rattle.prelude.specs.Part.{padded}
use Rattle.prelude.specs.PartLaws.{padded_full, row_length}
use Rattle.schema.specs.Layout.{closure_width}
use Rattle.schema.specs.Numbers.{class_limit}
use Rattle.schema.specs.Store.{closure_at}
use Rattle.graph.specs.Stages.{passed_row}
use Rattle.graph.proofs.Rows.{passed_rows}
use Rattle.graph.proofs.stages.pass_on.Goals as goal

pub copy_padded-requires : goal.copy_padded-requires
copy_padded-requires c =
    omega (
      arith,
      ap length c.closure_row.ensures,
      row_length 0 closure_width class_limit c.args.k.0 c.args.closure.now (omega
          (arith, c.requires.0)) c.requires.1,
    )

pub returns : goal.returns
returns c =
    let closure = c.args.closure.now in
    let k = c.args.k.0 in
    let own = closure_at closure k in
    let wide : length own ≡ closure_width = row_length 0 closure_width class_limit k closure (omega (arith, c.requires.0)) c.requires.1 in
    let owned = c.copy_padded.ensures ∙ ap (padded closure_width) c.closure_row.ensures ∙ padded_full closure_width own wide in
    c.rewrite_rows.ensures (λ i. passed_row k own (closure_at closure i)) (passed_rows k own closure c.requires.0) (λ i row left l e p.
    let passed : left.now ≡ passed_row k c.copy_padded.new.d row.now = search rules in passed ∙ ap₂ (passed_row k) owned e)
