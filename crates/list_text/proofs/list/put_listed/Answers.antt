use Rattle.std.proofs.Common.{sym, ◌∙◌}
use Rattle.list_text.specs.Text.{ascii}
use Rattle.list_text.specs.Listing.{too_long}
use Rattle.list_text.proofs.ListingLaws.{listed_long, listed_loaded}
use Rattle.list_text.proofs.list.put_listed.Goals as goal

pub returns-then-sheet-gt-SHEET_LIMIT : goal.returns-then-sheet-gt-SHEET_LIMIT
unfolding too_long ascii
returns-then-sheet-gt-SHEET_LIMIT c =
    (rw c.requires at c.put.ensures) ∙ sym (listed_long c.args.sheet.now c.if-sheet-gt-SHEET_LIMIT.true)

pub returns-else-sheet-gt-SHEET_LIMIT : goal.returns-else-sheet-gt-SHEET_LIMIT
returns-else-sheet-gt-SHEET_LIMIT c =
    c.put_loaded.ensures ∙ sym (listed_loaded c.args.sheet.now c.if-sheet-gt-SHEET_LIMIT.false)
