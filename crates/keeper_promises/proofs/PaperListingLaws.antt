-- Document 01's own sheet, listed: the two lines that the paper shows.
use Rattle.std.specs.Prelude.{◌≡◌, refl}
use Rattle.std.proofs.Common.{ap, ◌∙◌, arith}
use Rattle.prelude.specs.Below.{all_below, any_below}
use Rattle.prelude.specs.BigEndian.{big_endian, big_endian_bytes}
use Rattle.prelude.specs.Concat.{concat_below}
use Rattle.prelude.specs.Part.{is_zero, padded, part, splice, zeros}
use Rattle.sets.specs.Sets.{bit, count_below, digit, member}
use Rattle.wire.specs.Wire.{field_at}
use Rattle.schema.specs.declared.answer.Answer.{Answer}
use Rattle.tables.specs.Filled.{empty_stores}
use Rattle.tables.specs.Named.{lists}
use Rattle.graph.specs.Graph.{collects_by, inherits, lists_mandatory, lists_optional, reaches_by}
use Rattle.graph.specs.Walk.{via}
use Rattle.rows_format.specs.Columns.{cell_of, column_width, lead, mark, possible, required, takes}
use Rattle.rows_format.specs.Encodings.{accepts, image, passes, room}
use Rattle.rows_format.specs.Formats.{class_columns, columns_of, common_columns, own_columns}
use Rattle.rows_read.specs.ObjectClass.{finish, finished, finished_row, read_row}
use Rattle.rows_read.specs.Reading.{read_by, row_of, took_of, turn_of}
use Rattle.sheet_read.specs.Reading.{ended, field_step, heading_open, is_heading, position, read_from, read_sheet, room_at, room_step, row_turn, rows_open}
use Rattle.sheet_read.specs.Reading.{rows_with, sheet_tag, take_field, take_heading, take_table_row, take_tagged}
use Rattle.keeper.specs.LoadLaws.{empty_long}
use Rattle.keeper_promises.specs.PaperSheet.{paper_sheet}
use Rattle.keeper_promises.proofs.PaperSheetLaws.{paper_sheet_lem}
use Rattle.keeper_promises.specs.PaperTables.{hex_bytes, hex_digit, text}
use Rattle.list_text.specs.Listing.{arc_text, class_line, class_lines, defined_counts, head_line, identifier_text, listed, listing}
use Rattle.list_text.proofs.ListingLaws.{accepted_text, classes_read}
use Rattle.list_text.specs.Text.{ascii, decimal, digits_within, text_line, word}
use Rattle.rows_read.specs.Reading as fields
use Rattle.sheet_read.specs.Reading as sheets

-- "must" and "may" by the sets as they are defined
listing_computed : listing (defined_counts (classes_read paper_sheet)) (classes_read paper_sheet) ≡ ascii "no name oid must may\n0 top 2.5.6.0 0 0\n"
unfolding fields.onward sheets.onward listing head_line class_lines class_line text_line word identifier_text arc_text decimal digits_within ascii
    concat_below count_below member bit digit collects_by reaches_by via inherits lists_mandatory lists_optional lists any_below all_below paper_sheet hex_bytes
    hex_digit text read_sheet read_from ended take_field room_step field_step take_tagged take_table_row rows_with row_turn take_heading is_heading room_at rows_open
    heading_open position sheet_tag read_row read_by turn_of took_of row_of finish finished finished_row field_at takes possible required cell_of lead mark
    column_width room accepts passes image is_zero splice columns_of own_columns common_columns class_columns part zeros padded big_endian big_endian_bytes
listing_computed = refl

pub paper_listing : listed paper_sheet ≡ ascii "no name oid must may\n0 top 2.5.6.0 0 0\n"
paper_listing =
    accepted_text paper_sheet (ap (λ (a : Answer). a.number) (paper_sheet_lem.loads empty_stores empty_long)) paper_sheet_lem.bytes
    (omega (arith, paper_sheet_lem.long)) ∙ listing_computed
