-- The test pieces, computed; P9 by a law of the graph.
use Rattle.std.specs.Prelude.{refl}
use Rattle.rules.specs.Rules.{barred, entry_dead, attribute_not_live, class_not_live}
use Rattle.schema.specs.Numbers.{same_table, same_row}
use Rattle.prelude.specs.Part.{part, zeros, padded, same_bytes, splice}
use Rattle.prelude.specs.BigEndian.{big_endian, big_endian_bytes}
use Rattle.prelude.specs.Below.{any_below, all_below, first_below}
use Rattle.sets.specs.Sets.{digit, bit, member, digits_of, set_of, with_member}
use Rattle.schema.specs.AttributeRow.{bound_at}
use Rattle.schema.specs.ClassRow.{naming_of}
use Rattle.rules_names.specs.Name.{between, is_letter, is_name_byte, valid_name, folded, same_name, name_invalid, identifier_invalid}
use Rattle.tables.specs.Live.{live}
use Rattle.rules_unique.specs.Unique.{same_key, has_key, same_present, rival_in, taken}
use Rattle.rules_attribute.specs.Range.{signed, ends_crossed, range_wrong}
use Rattle.rules_attribute.specs.Syntax.{syntax_fits, syntax_wrong, object_class_wrong}
use Rattle.schema.specs.ObjectClasses.{object_classes, object_class_fits}
use Rattle.rules_attribute.specs.Links.{is_back_link, is_forward_of, forward_missing, link_syntax_fits, link_syntax_wrong}
use Rattle.tables.specs.Named.{lists, named_by, names}
use Rattle.rules_class.specs.Live.{names_dead, not_live, superclass_late, class_wrong, naming_wrong}
use Rattle.rules_class.specs.Category.{category_wrong, wrongly_listed, other_category, inheritance, root_inheritance, inheritance_of, inheritance_wrong}
use Rattle.rules.specs.Judge.{judge_table, judge_rule, judge_rules, judged}
use Rattle.prelude.specs.First.{first_of}
use Rattle.schema.specs.Store.{with_row}
use Rattle.change_rows.specs.Rows.{schema_after, table_after, edited_row}
use Rattle.change_read.specs.Carried.{open_list, list_tag}
use Rattle.change_asked.specs.Asked.{target_absent, table_full, base_added}
use Rattle.graph.specs.Walk.{via}
use Rattle.graph.specs.Graph.{reaches_by, collects_by, inherits, lists_mandatory, demanded_set, mandatory_differs}
use Rattle.change_model.specs.Model.{change_number}
use Rattle.keeper_promises.specs.Pieces.{Pieces}
use Rattle.keeper_promises.specs.Pieces.{arc_bytes, common, end_bytes, attribute_row, class_row, judged_rows, area_ha, one, by_name, by_arcs, by_syntax, by_range}
use Rattle.keeper_promises.specs.Pieces.{with_object_class, linked_by, linked_integers, linked, linked_with_binary}
use Rattle.keeper_promises.specs.Pieces.{classes, under_each_other, demanding, two_attributes, three_classes, sample, joining, renaming}
use Rattle.graph.specs.PiecesLaws as graph

pub pieces : Pieces
unfolding attribute_not_live class_not_live barred entry_dead same_table part zeros padded same_bytes big_endian big_endian_bytes any_below all_below first_below
    digit bit member bound_at naming_of between is_letter is_name_byte valid_name folded same_name name_invalid identifier_invalid live same_key has_key
    same_present same_row rival_in taken signed ends_crossed range_wrong syntax_fits syntax_wrong object_classes object_class_fits object_class_wrong is_back_link
    is_forward_of forward_missing link_syntax_fits link_syntax_wrong lists named_by names names_dead not_live superclass_late class_wrong naming_wrong
    category_wrong wrongly_listed other_category inheritance root_inheritance inheritance_of inheritance_wrong judge_table judge_rule
    judge_rules judged arc_bytes common end_bytes attribute_row class_row judged_rows area_ha one by_name by_arcs by_syntax by_range with_object_class linked_by
    linked_integers linked linked_with_binary classes under_each_other splice first_of digits_of set_of with_member with_row schema_after table_after edited_row open_list
    list_tag target_absent table_full base_added via reaches_by collects_by inherits lists_mandatory demanded_set mandatory_differs change_number demanding
    two_attributes three_classes sample joining renaming
pieces = record {
  p1 = (refl, (refl, refl));
  p2 = (refl, (refl, refl));
  p3 = (refl, refl);
  p4 = (refl, refl);
  p5 = (refl, (refl, refl));
  p6 = (refl, (refl, refl));
  p7 = refl;
  p8 = refl;
  p9 = λ t x y there-x there-y x-y y-x. graph.p9 t x y there-x there-y x-y y-x;
  p10 = refl;
  p11 = refl;
  p12 = refl;
  beyond = refl;
  misfit = refl;
  integers = refl;
  lone = refl;
  binary = (refl, refl);
  equal = (refl, refl);
  crossed = (refl, refl);
  rule_first = refl;
  link_last = refl;
}
