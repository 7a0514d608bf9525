use mathlib.Core.Path.{◌∙◌}
use native.Mathlib.Omega.{arith}
use Rattle.reader.specs.ReaderLaws.{step_field}
use Rattle.reader.proofs.Front.{front_field, front_length}
use Rattle.reader.proofs.field_within.Goals as goal

pub step_at-requires : goal.step_at-requires
step_at-requires c =
    omega (arith, c.requires.0, front_length c.args.s.now c.value_of.result.now c.args.end c.requires.1 c.value_of.ensures)

pub returns : goal.returns
returns c =
    let lent = c.value_of.result.now in
    step_field lent c.args.at _ c.step_at.ensures
    ∙ front_field c.args.s.now lent c.args.end c.requires.1 c.value_of.ensures c.args.at
