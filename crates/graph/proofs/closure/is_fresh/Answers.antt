use Rattle.std.proofs.lemmas.Bool.Decides.{Decides-eqb}
use Rattle.std.proofs.lemmas.Slice.Eq.{slice_eq-Decides}
use Rattle.graph.proofs.Rows.{fresh_same_bytes}
use Rattle.graph.proofs.FreshLaws.{closure_rows_length}
use Rattle.graph.specs.Graph.{closure_rows}
use Rattle.prelude.specs.SpliceLaws.{splice_all}
use Rattle.prelude.specs.Part.{same_bytes}
use Rattle.prelude.specs.PartLaws.{says_same_bytes}
use Rattle.prelude.specs.SaysLaws.{says_same}
use mathlib.Core.Path.{sym, ap₂, ◌∙◌}
use Rattle.schema.specs.declared.number.TableId.TheVariants.{Classes}
use Rattle.schema.specs.Store.{table_in}
use Rattle.graph.proofs.closure.is_fresh.Goals as goal

pub returns : goal.returns
returns c =
    let decided = slice_eq-Decides Decides-eqb _ _ _ c.eq.ensures in
    says_same (record { holds = decided.0; passes = decided.1 }) (says_same_bytes _ _)
    ∙ ap₂ same_bytes c.part_of.ensures (c.as_slice.ensures ∙ c.refresh_all.ensures ∙ splice_all (closure_rows (table_in Classes
    c.args.classes.now)) _ (sym (closure_rows_length (table_in Classes c.args.classes.now)))) ∙ fresh_same_bytes (table_in Classes
    c.args.classes.now) c.args.closure.now
