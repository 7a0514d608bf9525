use mathlib.Core.Path.{sym, ◌∙◌}
use Rattle.sheet_read.proofs.Steps.{heading_late, heading_yes, heading_no}
use Rattle.sheet_read.proofs.read.take_heading.Goals as goal

pub returns-in-Start : goal.returns-in-Start
returns-in-Start c =
    heading_yes c.args.s.now c.args.at c.args.start c.args.stop c.args.phase c.in-Start.is (sym c.is_heading.ensures ∙ c.if-is_heading.true)

pub returns-in_default : goal.returns-in_default
returns-in_default c =
    heading_no c.args.s.now c.args.at c.args.start c.args.stop c.args.phase c.in-Start.is (sym c.is_heading.ensures ∙ c.if-is_heading.false)

pub returns-in_default-2 : goal.returns-in_default-2
returns-in_default-2 c =
    heading_late c.args.s.now c.args.at c.args.start c.args.stop c.args.phase c.in_default.is
