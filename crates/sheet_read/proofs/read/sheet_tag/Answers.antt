use borrow.Author.Tests.{ne_eqb}
use Rattle.sheet_read.specs.Reading.{sheet_tag}
use Rattle.sheet_read.proofs.read.sheet_tag.Goals as goal

pub returns-in_default : goal.returns-in_default
unfolding sheet_tag
returns-in_default c =
    let tag = c.args.tag in
    rw
    (ne_eqb tag 1 c.in_default.in_default-own.rest.0.0.1, ne_eqb tag 32 c.in_default.in_default-own.rest.0.1, ne_eqb tag 48 c.in_default.in_default-own.rest.1)
