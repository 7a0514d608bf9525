use mathlib.Core.Path.{◌∙◌, ap, sym}
use Rattle.prelude.specs.PartLaws.{part_bytes}
use Rattle.change_read.specs.Carried.{list_of}
use Rattle.change_rows.specs.Edits.{list_edited}
use Rattle.change_rows.specs.Lists.{list_width, open_at, open_of}
use Rattle.change_rows.specs.ListsLaws.{entry_beyond, entry_is}
use Rattle.change_rows.proofs.Editing.{list_back, list_kept}
use Rattle.change_rows.proofs.edit.edit_entry.Goals as goal

pub returns : goal.returns
returns g c = λ f is leaves.
    let r = c.args.scratch.now in
    let row = c.args.row.now in
    let number = c.number_of.ensures ∙ (entry_is r (sym c.entry_read.ensures ∙ c.in-Some.is)).number in
    list_back c.list_of-list.result c.open_at-at.result c.list_width.result row c.open_at-at.ensures c.list_width.ensures
    c.requires.wide.1 f c.edit.new.arg2 is.as_long (leaves _ _ _ number c.edit.ensures)
    ∙ ap (λ l. list_edited l f row) c.list_of-list.ensures

pub returns-in_default : goal.returns-in_default
returns-in_default g c = λ f is leaves.
    let r = c.args.scratch.now in
    let row = c.args.row.now in
    let beyond = entry_beyond r (sym c.entry_read.ensures ∙ c.in_default.is) (open_at (list_of r)) row in
    let bytes = part_bytes (open_at (list_of r)) (list_width (list_of r)) row (λ i. (c.slice_known-1.given i).fits) in
    list_kept (list_of r) row c.requires.wide.1 (is.beyond (open_of (list_of r) row) bytes beyond)
