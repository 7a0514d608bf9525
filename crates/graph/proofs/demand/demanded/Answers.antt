use Rattle.std.proofs.Common.{ap, ◌∙◌, arith}
use Rattle.prelude.specs.Part.{part}
use Rattle.prelude.specs.PartLaws.{row_length}
use Rattle.schema.specs.Layout.{attribute_set, closure_width, demanded_at}
use Rattle.schema.specs.Numbers.{class_limit}
use Rattle.graph.proofs.demand.demanded.Goals as goal

pub part_of-requires : goal.part_of-requires
part_of-requires c =
    rw c.closure_row.ensures (omega (arith, row_length 0 closure_width class_limit c.args.c.0 c.args.closure.now (omega arith) c.requires.1))

pub returns : goal.returns
returns c =
    c.part_of.ensures ∙ ap (part demanded_at attribute_set) c.closure_row.ensures
