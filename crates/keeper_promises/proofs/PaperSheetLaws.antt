-- The paper's sheet, computed: it reads, its rows are judged, it is exact. The rest follows by the promises.
use Rattle.std.specs.Prelude.{true, List, ◌≡◌, refl, ℕ, ◌+◌, ◌<◌, ◌≤◌, ltb, get_or, length}
use Rattle.std.proofs.Common.{ap, ◌∙◌, arith, ltb-true}
use Rattle.std.proofs.Math.Decide.{dec_lt}
use Rattle.std.proofs.Math.ListN.{get_or-eq_default}
use Rattle.prelude.specs.Below.{all_below, any_below, first_below}
use Rattle.prelude.specs.BelowLaws.{all_each}
use Rattle.prelude.specs.BigEndian.{big_endian, big_endian_bytes}
use Rattle.prelude.specs.Part.{is_zero, padded, part, same_bytes, splice, zeros, Bytes}
use Rattle.sets.specs.Sets.{bit, digit, member}
use Rattle.wire.specs.Wire.{field_at}
use Rattle.schema.specs.Answers.{done}
use Rattle.schema.specs.AttributeRow.{bound_at}
use Rattle.schema.specs.ClassRow.{naming_of}
use Rattle.schema.specs.Numbers.{same_row, same_table}
use Rattle.schema.specs.ObjectClasses.{object_class_fits, object_classes}
use Rattle.schema.specs.Store.{LongEnough, Result, Stores}
use Rattle.tables.specs.Live.{live}
use Rattle.tables.specs.Named.{lists, named_by, names}
use Rattle.rows_format.specs.Columns.{cell_of, column_width, lead, mark, possible, required, takes}
use Rattle.rows_format.specs.Encodings.{accepts, image, passes, room}
use Rattle.rows_format.specs.Formats.{class_columns, columns_of, common_columns, own_columns}
use Rattle.rows_read.specs.ObjectClass.{finish, finished, finished_row, read_row}
use Rattle.rows_read.specs.Reading.{read_by, row_of, turn_of, took_of}
use Rattle.sheet_read.specs.Reading.{ended, field_step, heading_open, is_heading, position, read_from, room_at, room_step, row_turn, rows_open, rows_with}
use Rattle.sheet_read.specs.Reading.{sheet_tag, take_field, take_heading, take_table_row, take_tagged, read_sheet, schema_from}
use Rattle.sheet_read.specs.SheetRead.{Read}
use Rattle.rules_names.specs.Name.{between, folded, is_letter, is_name_byte, same_name, valid_name, name_invalid, identifier_invalid}
use Rattle.rules_unique.specs.Unique.{has_key, rival_in, same_key, same_present, taken}
use Rattle.rules_attribute.specs.Links.{forward_missing, is_back_link, is_forward_of}
use Rattle.rules_attribute.specs.Range.{ends_crossed, range_wrong, signed}
use Rattle.rules_attribute.specs.Syntax.{syntax_fits, syntax_wrong, object_class_wrong}
use Rattle.rules_class.specs.Category.{category_wrong, inheritance, inheritance_of, inheritance_wrong, other_category, root_inheritance, wrongly_listed}
use Rattle.rules_class.specs.Live.{class_wrong, names_dead, naming_wrong, not_live, superclass_late}
use Rattle.rules.specs.Judge.{judge_rule, judge_rules, judge_table, judged}
use Rattle.rules.proofs.JudgeLaws.{judged_zero}
use Rattle.rules.proofs.MeetsLaws.{meets}
use Rattle.rules.specs.Rules.{barred, entry_dead, attribute_not_live, class_not_live}
use Rattle.rules.specs.declared.row.Added.TheVariants.{Nothing}
use Rattle.rows_read.specs.Stopping.{FieldStands}
use Rattle.sheet_round_trip.specs.Exact.{ExactSheet, FieldsStand, none, more}
use Rattle.sheet_round_trip.specs.FieldLaws.{fields_forward}
use Rattle.keeper.specs.Load.{load}
use Rattle.keeper.specs.Write.{write, written}
use Rattle.keeper_promises.specs.PaperSheet.{PaperSheet, paper_sheet}
use Rattle.keeper_promises.specs.PaperTables.{hex_bytes, hex_digit, text}
use Rattle.keeper_promises.specs.Promises.{Acceptable, InOrder}
use Rattle.keeper_promises.proofs.PromisesLaws.{demand2}
use Rattle.rows_read.specs.Reading as fields
use Rattle.sheet_read.specs.Reading as sheets

all_bytes : all_below 67 (λ i. ltb (get_or paper_sheet i 0) 256) ≡ true
unfolding all_below paper_sheet hex_bytes hex_digit text
all_bytes = refl

long : length paper_sheet ≡ 67
unfolding paper_sheet hex_bytes hex_digit text
long = refl

bytes : Bytes paper_sheet
bytes i = go (dec_lt i 67)
  where
    go : Dec (i < 67) → get_or paper_sheet i 0 < 256
    go (yes l) = ltb-true (get_or paper_sheet i 0) 256 (all_each (λ k. ltb (get_or paper_sheet k 0) 256) 67 all_bytes i l)
    go (no d) = let e : get_or paper_sheet i 0 ≡ 0 = get_or-eq_default paper_sheet 0 (omega (arith, long)) in omega arith

-- ---- it reads, and its rows meet every rule

reads : (read_sheet paper_sheet).answer ≡ Read
unfolding fields.onward sheets.onward paper_sheet hex_bytes hex_digit text read_sheet read_from ended take_field room_step field_step take_tagged
    take_table_row rows_with row_turn take_heading is_heading room_at rows_open heading_open position sheet_tag read_row read_by turn_of took_of row_of finish
    finished finished_row field_at takes possible required cell_of lead mark column_width room accepts passes image is_zero splice columns_of own_columns
    common_columns class_columns all_below part zeros padded big_endian big_endian_bytes
reads = refl

judges : (judged Nothing (schema_from (read_sheet paper_sheet).rows)).number ≡ 0
unfolding fields.onward sheets.onward paper_sheet hex_bytes hex_digit text read_sheet read_from ended take_field room_step field_step take_tagged
    take_table_row rows_with row_turn take_heading is_heading room_at rows_open heading_open position sheet_tag read_row read_by turn_of took_of row_of finish
    finished finished_row field_at takes possible required cell_of lead mark column_width room accepts passes image is_zero splice columns_of own_columns
    common_columns class_columns attribute_not_live class_not_live barred entry_dead same_table part zeros padded same_bytes big_endian big_endian_bytes any_below
    all_below first_below digit bit member bound_at naming_of between is_letter is_name_byte valid_name folded same_name name_invalid identifier_invalid live
    same_key has_key same_present same_row rival_in taken signed ends_crossed range_wrong syntax_fits syntax_wrong object_classes object_class_fits
    object_class_wrong is_back_link is_forward_of forward_missing lists named_by names names_dead not_live superclass_late class_wrong naming_wrong category_wrong
    wrongly_listed other_category inheritance root_inheritance inheritance_of inheritance_wrong judge_table judge_rule judge_rules judged
judges = refl

pub accepted : Acceptable paper_sheet
accepted = record {
  reads = reads;
  rules = (meets Nothing (schema_from (read_sheet paper_sheet).rows)).0 ((judged_zero Nothing (schema_from (read_sheet paper_sheet).rows)).0 judges);
}

-- it has two fields, 01 and 30, and no attribute row
first_ends : big_endian 2 1 paper_sheet ≡ 1
unfolding big_endian paper_sheet hex_bytes hex_digit text
first_ends = refl

second_ends : big_endian 2 5 paper_sheet ≡ 60
unfolding big_endian paper_sheet hex_bytes hex_digit text
second_ends = refl

tags : (get_or paper_sheet 0 0 ≡ 1) × (get_or paper_sheet 4 0 ≡ 48)
unfolding paper_sheet hex_bytes hex_digit text
tags = (refl, refl)

module _ (at stop : ℕ) where
  abbrev Attribute : Type 0
  Attribute = FieldStands paper_sheet (length paper_sheet) at 32 stop

  abbrev From : ℕ → Type 0
  From from = FieldsStand paper_sheet (length paper_sheet) from at

  no_third : (from : ℕ) → from ≡ 67 → From from → Attribute → ⊥
  no_third from e b f = omega (arith, fields_forward b, f.header, long)

  no_second : (from : ℕ) → from ≡ 4 → From from → Attribute → ⊥
  no_second from e none f = omega (arith, f.tagged, ap (λ (n : ℕ). get_or paper_sheet n 0) e, tags.1)
  no_second from e (more {stop = z} g b) f =
      no_third z (g.ends ∙ ap (λ (n : ℕ). n + 3 + big_endian 2 (n + 1) paper_sheet) e ∙ ap (λ (n : ℕ). 7 + n) second_ends) b f

  no_first : (from : ℕ) → from ≡ 0 → From from → Attribute → ⊥
  no_first from e none f = omega (arith, f.tagged, ap (λ (n : ℕ). get_or paper_sheet n 0) e, tags.0)
  no_first from e (more {stop = z} g b) f =
      no_second z (g.ends ∙ ap (λ (n : ℕ). n + 3 + big_endian 2 (n + 1) paper_sheet) e ∙ ap (λ (n : ℕ). 3 + n) first_ends) b f

exact : ExactSheet paper_sheet
exact at stop h = absurd (no_first at stop 0 refl h.before h.field)

-- ---- loaded and written

order : (s : Stores) → LongEnough s → InOrder (load paper_sheet s).left
order s l = demand2.load_order paper_sheet s bytes l accepted

writes : (s : Stores) (out : List ℕ) → LongEnough s → 67 ≤ length out
    → write (load paper_sheet s).left out ≡ written (done 67) (splice 0 paper_sheet out)
writes s out l room = rw long at (demand2.load_writes paper_sheet s out bytes l accepted exact (omega (arith, long)))

pub paper_sheet_lem : PaperSheet
paper_sheet_lem = record {
  bytes = bytes;
  long = long;
  accepted = accepted;
  exact = exact;
  loads = λ s l. ap (λ (x : Result). x.answer) (demand2.load_done paper_sheet s l accepted);
  order = order;
  writes = writes;
}
