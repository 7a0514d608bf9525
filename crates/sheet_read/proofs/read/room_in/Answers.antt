use mathlib.Core.Path.{ap, ◌∙◌}
use Rattle.schema.specs.Store.{count_in}
use Rattle.sheet_read.proofs.Steps.{tag_told, room_none, room_left, lent_table}
use Rattle.sheet_read.proofs.read.room_in.Goals as goal

pub row_count-requires : goal.row_count-requires
row_count-requires c =
    rw c.store_of.ensures
    (lent_table c.requires c.in-Some-Row.table)

pub returns-then-row_count-row_limit : goal.returns-then-row_count-row_limit
returns-then-row_count-row_limit c =
    room_none c.in-Some-Row.table c.args.attributes.now c.args.classes.now c.args.tag (tag_told c.in-Some-Row.is (rw c.in-Some-Row.is at c.in-Some-Row.field-0-is)) _ _
    (c.row_count.ensures ∙ ap (count_in c.in-Some-Row.table) c.store_of.ensures) c.row_limit.ensures c.if-row_count-row_limit.true

pub returns-else-row_count-row_limit : goal.returns-else-row_count-row_limit
returns-else-row_count-row_limit c =
    room_left c.in-Some-Row.table c.args.attributes.now c.args.classes.now c.args.tag (tag_told c.in-Some-Row.is (rw c.in-Some-Row.is at c.in-Some-Row.field-0-is)) _ _
    (c.row_count.ensures ∙ ap (count_in c.in-Some-Row.table) c.store_of.ensures) c.row_limit.ensures c.if-row_count-row_limit.false
