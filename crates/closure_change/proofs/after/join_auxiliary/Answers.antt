use Rattle.closure_change.specs.Kept.{joined_into}
use Rattle.prelude.specs.PartLaws.{padded_full}
use mathlib.Core.Path.{◌∙◌, ap}
use lib.ListN.{length}
use Rattle.closure_change.proofs.KeptLaws.{kept_length}
use native.Mathlib.Omega.{arith}
use Rattle.closure_change.proofs.after.join_auxiliary.Goals as goal

pub copy_padded-requires : goal.copy_padded-requires
copy_padded-requires c =
    omega (arith, ap length c.closure_row.ensures, kept_length c.args.closure.now c.requires.0 c.args.a.0 c.requires.1)

pub returns : goal.returns
returns c =
    c.join_all.ensures ∙ ap (λ more. joined_into c.args.n c.args.k.0 more c.args.closure.now) (c.copy_padded.ensures
    ∙ padded_full _ _ (ap length c.closure_row.ensures ∙ kept_length c.args.closure.now c.requires.0 c.args.a.0
    c.requires.1) ∙ c.closure_row.ensures)
