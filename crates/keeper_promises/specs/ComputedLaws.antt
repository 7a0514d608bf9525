-- The tables of document 01 that the judge, the reader of rows and the model of a change give, by computation.
use Rattle.std.specs.Prelude.{◌≡◌, refl}
use Rattle.prelude.specs.Below.{any_below, all_below, first_below}
use Rattle.prelude.specs.BigEndian.{big_endian, big_endian_bytes}
use Rattle.prelude.specs.Part.{is_zero, part, zeros, padded, same_bytes, splice}
use Rattle.prelude.specs.Unlike.{among}
use Rattle.sets.specs.Sets.{without_member, digit, bit, member, digits_of, set_of, with_member, members_from, list_below}
use Rattle.wire.specs.Wire.{field_at}
use Rattle.schema.specs.AttributeRow.{bound_at}
use Rattle.schema.specs.ClassRow.{naming_of}
use Rattle.schema.specs.Numbers.{same_table, same_row}
use Rattle.schema.specs.ObjectClasses.{first_object_class, object_classes, object_class_fits}
use Rattle.schema.specs.Store.{with_row}
use Rattle.schema.specs.declared.number.TableId.TheVariants.{Attributes, Classes}
use Rattle.tables.specs.Live.{live}
use Rattle.tables.specs.Named.{lists, named_by, names}
use Rattle.rows_format.specs.Columns.{cell_of, column_width, lead, mark, possible, required, takes}
use Rattle.rows_format.specs.Encodings.{room, accepts, image, passes}
use Rattle.rows_format.specs.Entries.{entries, rises_below}
use Rattle.rows_format.specs.Formats.{entry_columns, attribute_columns, class_columns, columns_of, common_columns, format_width, own_columns}
use Rattle.rows_read.specs.ObjectClass.{read_row, finish, finished, finished_row, settled, object_class_cell}
use Rattle.rows_read.specs.Reading.{read_by, onward, turn_of, took_of, row_of}
use Rattle.rows_read.specs.RowRead.{Read}
use Rattle.change_read.specs.Carried.{open_list}
use Rattle.change_read.specs.Reading.{change_of, field_out, format_of, read_change, read_value, tagged_out, whole_read}
use Rattle.change_rows.specs.Rows.{schema_after, table_after, edited_row}
use Rattle.rules_names.specs.Name.{between, is_letter, is_name_byte, valid_name, folded, same_name, name_invalid, identifier_invalid}
use Rattle.rules_unique.specs.Unique.{same_key, has_key, same_present, rival_in, taken}
use Rattle.rules_attribute.specs.Links.{is_back_link, is_forward_of, forward_missing}
use Rattle.rules_attribute.specs.Range.{signed, ends_crossed, range_wrong}
use Rattle.rules_attribute.specs.Syntax.{syntax_fits, syntax_wrong, object_class_wrong}
use Rattle.rules_class.specs.Category.{category_wrong, wrongly_listed, other_category, inheritance, root_inheritance, inheritance_of, inheritance_wrong}
use Rattle.rules_class.specs.Live.{names_dead, not_live, superclass_late, class_wrong, naming_wrong}
use Rattle.rules.specs.Judge.{judge_table, judge_rule, judge_rules, judged}
use Rattle.rules.specs.Rules.{barred, entry_dead, attribute_not_live, class_not_live}
use Rattle.keeper_promises.specs.PaperTables.{made_by, changed_by, entered, removed, common_fields, hex_bytes, hex_digit, row_read, text, under}
use Rattle.keeper_promises.specs.PaperTables.{alone, CategoryTable, DefaultTable, ChangeLists, AttributeCells, ClassCells, stored_class}
use Rattle.keeper_promises.specs.PaperTables.{attribute_fields, class_fields, seven_sets}
use Rattle.keeper_promises.specs.Pieces.{arc_bytes, common, end_bytes, attribute_row, class_row, judged_rows, area_ha, classes, demanding}
use Rattle.keeper_promises.specs.Pieces.{two_attributes, three_classes, sample}

-- ---- categories

pub categories : CategoryTable
unfolding under alone attribute_not_live class_not_live barred entry_dead same_table part zeros padded same_bytes big_endian big_endian_bytes any_below all_below
    first_below digit bit member bound_at naming_of between is_letter is_name_byte valid_name folded same_name name_invalid identifier_invalid live same_key
    has_key same_present same_row rival_in taken signed ends_crossed range_wrong syntax_fits syntax_wrong object_classes object_class_fits object_class_wrong
    is_back_link is_forward_of forward_missing lists named_by names names_dead not_live superclass_late class_wrong naming_wrong category_wrong wrongly_listed
    other_category inheritance root_inheritance inheritance_of inheritance_wrong judge_table judge_rule judge_rules judged arc_bytes
    common class_row judged_rows classes
categories = record { under_88 = refl; under_structural = refl; under_abstract = refl; under_auxiliary = refl; row_zero = refl }

-- ---- fields and cells

pub defaults : DefaultTable
unfolding stored_class read_row read_by onward turn_of took_of row_of finish finished finished_row settled object_class_cell field_at takes possible required
    cell_of lead mark column_width room accepts passes image all_below any_below first_below is_zero part splice zeros padded columns_of own_columns
    common_columns attribute_columns class_columns format_width big_endian big_endian_bytes object_classes first_object_class entries rises_below among set_of
    digits_of hex_bytes hex_digit text common_fields row_read
defaults = record { absent = refl; kept = refl; dropped = refl }

pub attribute_read_lem : (row_read Attributes attribute_fields).answer ≡ Read
unfolding attribute_fields read_row read_by onward turn_of took_of row_of finish finished finished_row settled object_class_cell field_at takes possible
    required cell_of lead mark column_width room accepts passes image all_below any_below first_below is_zero part splice zeros padded columns_of own_columns
    common_columns attribute_columns class_columns format_width big_endian big_endian_bytes object_classes first_object_class entries rises_below among set_of
    digits_of hex_bytes hex_digit text common_fields row_read
attribute_read_lem = refl

pub attribute_cells : AttributeCells (row_read Attributes attribute_fields).row
unfolding bound_at attribute_fields read_row read_by onward turn_of took_of row_of finish finished finished_row settled object_class_cell field_at takes possible
    required cell_of lead mark column_width room accepts passes image all_below any_below first_below is_zero part splice zeros padded columns_of own_columns
    common_columns attribute_columns class_columns format_width big_endian big_endian_bytes object_classes first_object_class entries rises_below among set_of
    digits_of hex_bytes hex_digit text common_fields row_read
attribute_cells = record {
  common = record { name = refl; arcs = refl; guid = refl; flags = refl; defunct = refl };
  syntaxes = refl;
  object_class = refl;
  single = refl;
  lower = refl;
  upper = refl;
  links = refl;
}

pub class_read_lem : (row_read Classes class_fields).answer ≡ Read
unfolding class_fields read_row read_by onward turn_of took_of row_of finish finished finished_row settled object_class_cell field_at takes possible required
    cell_of lead mark column_width room accepts passes image all_below any_below first_below is_zero part splice zeros padded columns_of own_columns
    common_columns attribute_columns class_columns format_width big_endian big_endian_bytes object_classes first_object_class entries rises_below among set_of
    digits_of hex_bytes hex_digit text common_fields row_read
class_read_lem = refl

pub class_cells : ClassCells (row_read Classes class_fields).row
unfolding naming_of class_fields seven_sets members_from list_below member bit digit read_row read_by onward turn_of took_of row_of finish finished finished_row
    settled object_class_cell field_at takes possible required cell_of lead mark column_width room accepts passes image all_below any_below first_below is_zero
    part splice zeros padded columns_of own_columns common_columns attribute_columns class_columns format_width big_endian big_endian_bytes object_classes
    first_object_class entries rises_below among set_of digits_of hex_bytes hex_digit text common_fields row_read
class_cells = record {
  common = record { name = refl; arcs = refl; guid = refl; flags = refl; defunct = refl };
  category = refl;
  superclass = refl;
  naming = refl;
  sets = refl;
}

-- ---- changes

pub change_lists : ChangeLists
unfolding entered removed changed_by made_by read_change field_out tagged_out change_of read_value whole_read format_of entry_columns read_row read_by onward
    turn_of took_of row_of finish finished field_at takes possible required cell_of lead mark column_width room accepts passes image is_zero columns_of
    schema_after table_after edited_row with_row open_list with_member without_member set_of digits_of seven_sets members_from list_below member bit digit
    any_below all_below sample two_attributes three_classes demanding attribute_row class_row common arc_bytes end_bytes area_ha part splice zeros padded
    big_endian big_endian_bytes
change_lists = record {
  optional = refl;
  auxiliary = refl;
  superior = refl;
  optional_back = refl;
  auxiliary_back = refl;
  superior_back = refl;
}
