use Rattle.std.specs.Prelude.{Err}
use mathlib.Core.Path.{ap, ◌∙◌}
use Rattle.sheet_read.specs.Reading.{read_sheet}
use Rattle.keeper.specs.LoadLaws.{read_bad, read_full}
use Rattle.keeper.proofs.Loading.{read_shaped, read_ends, judge_ends}
use Rattle.keeper.proofs.load.read_and_judge.Goals as goal

pub judge-requires : goal.judge-requires
judge-requires c =
    read_shaped c.args.sheet.now (λ i. (c.shared_slice_known-1.given i).fits) c.args.attributes.now
    c.args.classes.now c.requires c.read_sheet.ensures

pub returns-in-Ok-judge-clause-left : goal.returns-in-Ok-judge-clause-left
returns-in-Ok-judge-clause-left c =
    let sheet = c.args.sheet.now in
    let attributes = c.args.attributes.now in
    let classes = c.args.classes.now in
    read_ends sheet (λ i. (c.shared_slice_known-1.given i).fits) attributes classes c.requires c.read_sheet.ensures c.in-Ok.is
    (judge_ends sheet (λ i. (c.shared_slice_known-1.given i).fits) attributes classes c.requires c.read_sheet.ensures c.in-Ok-judge.ensures)

pub returns-in-Err-clause-left : goal.returns-in-Err-clause-left
returns-in-Err-clause-left c =
    let sheet = c.args.sheet.now in
    let attributes = c.args.attributes.now in
    let classes = c.args.classes.now in
    read_ends sheet (λ i. (c.shared_slice_known-1.given i).fits) attributes classes c.requires c.read_sheet.ensures c.in-Ok.is
    (judge_ends sheet (λ i. (c.shared_slice_known-1.given i).fits) attributes classes c.requires c.read_sheet.ensures (rw c.number.ensures at
    c.broken_by.ensures ∙ c.in-Err.ensures))

pub returns-in-Err-Bad-clause-left : goal.returns-in-Err-Bad-clause-left
returns-in-Err-Bad-clause-left c =
    let sheet = c.args.sheet.now in
    read_ends sheet (λ i. (c.shared_slice_known-1.given i).fits)
    c.args.attributes.now c.args.classes.now c.requires c.read_sheet.ensures (c.in-Err-Bad.is ∙ ap Err c.in-Err-Bad.field-0-is)
    (c.unreadable.ensures ∙ read_bad (read_sheet sheet).rows _)

pub returns-in-Err-Full-clause-left : goal.returns-in-Err-Full-clause-left
returns-in-Err-Full-clause-left c =
    let sheet = c.args.sheet.now in
    read_ends sheet (λ i. (c.shared_slice_known-1.given i).fits)
    c.args.attributes.now c.args.classes.now c.requires c.read_sheet.ensures (c.in-Err-Full.is ∙ ap Err c.in-Err-Full.field-0-is)
    (c.full.ensures ∙ read_full (read_sheet sheet).rows _)
