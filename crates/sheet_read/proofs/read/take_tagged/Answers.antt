use mathlib.Core.Path.{sym, ap, ◌∙◌}
use Rattle.sheet_read.specs.Reading.{step, take_table_row, take_tagged}
use Rattle.sheet_read.proofs.Steps.{tag_told, as_step, same_step, tagged_heading, tagged_row, tagged_late, tagged_unknown}
use Rattle.sheet_read.proofs.read.take_tagged.Goals as goal

pub take_table_row-requires : goal.take_table_row-requires
take_table_row-requires c =
    record { start_le_stop = c.requires.start_le_stop; lent = (c.requires.lent.0, c.requires.lent.1 c.in-Some-Row.table (tag_told c.in-Some-Row.is (rw c.in-Some-Row.is at c.in-Some-Row.field-0-is))) }

pub returns-in-Some-Heading : goal.returns-in-Some-Heading
returns-in-Some-Heading c =
    let tag = c.args.tag in
    let s = c.args.s.now in
    let at = c.args.progress.at in
    let phase = c.args.progress.phase in
    let missing = c.args.progress.missing in
    let start = c.args.start in
    let stop = c.args.stop in
    as_step (take_tagged tag s at phase missing start stop) _ c.args.attributes.now c.args.classes.now
    (λ x a c' h. ap (λ turn. step turn x) c.take_heading.ensures ∙ tagged_heading s at phase missing start stop tag x (tag_told c.in-Some-Heading.is (rw c.in-Some-Heading.is at c.in-Some-Heading.field-0-is)))

pub returns-then-rows_open : goal.returns-then-rows_open
returns-then-rows_open c =
    let s = c.args.s.now in
    let start = c.args.start in
    let stop = c.args.stop in
    let missing = c.args.progress.missing in
    let tag = c.args.tag in
    let at = c.args.progress.at in
    let phase = c.args.progress.phase in
    same_step (take_table_row c.in-Some-Row.table s start stop missing) (take_tagged tag s at phase missing start stop)
    (λ x a c' h. tagged_row s at phase missing start stop tag x c.in-Some-Row.table (tag_told c.in-Some-Row.is (rw c.in-Some-Row.is at c.in-Some-Row.field-0-is))
    (sym c.rows_open.ensures ∙ c.if-rows_open.true))
    c.take_table_row.ensures

pub returns-else-rows_open : goal.returns-else-rows_open
returns-else-rows_open c =
    let tag = c.args.tag in
    let s = c.args.s.now in
    let at = c.args.progress.at in
    let phase = c.args.progress.phase in
    let missing = c.args.progress.missing in
    let start = c.args.start in
    let stop = c.args.stop in
    as_step (take_tagged tag s at phase missing start stop) _ c.args.attributes.now
    c.args.classes.now
    (λ x a c' h. tagged_late s at phase missing start stop tag x c.in-Some-Row.table (tag_told c.in-Some-Row.is (rw c.in-Some-Row.is at c.in-Some-Row.field-0-is))
    (sym c.rows_open.ensures ∙ c.if-rows_open.false))

pub returns-in-None : goal.returns-in-None
returns-in-None c =
    let tag = c.args.tag in let s = c.args.s.now in let at = c.args.progress.at in let phase = c.args.progress.phase in
    let missing = c.args.progress.missing in
    let start = c.args.start in
    let stop = c.args.stop in
    as_step
    (take_tagged tag s at phase missing start stop) _ c.args.attributes.now c.args.classes.now
    (λ x a c' h. tagged_unknown s at phase missing start stop tag x c.in-None.is)
