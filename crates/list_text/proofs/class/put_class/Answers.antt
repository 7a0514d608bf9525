use Rattle.std.proofs.Common.{◌∙◌, ◌++◌, sym, List, ℕ, [], ◌∷◌, ap, length, arith}
use Rattle.schema.specs.Row.{name_of}
use Rattle.schema.specs.declared.number.TableId.TheVariants.{Classes}
use Rattle.schema.specs.Store.{table_in}
use Rattle.list_text.specs.Text.{decimal, word}
use Rattle.list_text.specs.TextLaws.{word_length}
use Rattle.list_text.specs.Listing.{kept_counts, identifier_text}
use Rattle.list_text.proofs.Lines.{put_length, five_put, listed_row, class_length, class_read_lem}
use Rattle.list_text.proofs.class.put_class.Goals as goal

pub put_number-requires : goal.put_number-requires
put_number-requires c =
    omega (
      arith,
      c.requires.1,
      class_length (kept_counts c.args.closure.now) (table_in Classes c.args.classes.now) c.args.c.0,
      word_length (decimal c.args.c.0) 32,
    )

pub name-requires : goal.name-requires
name-requires c =
    let h = listed_row c.args.classes.now c.args.closure.now c.class_row-row.result.now c.args.c.0 c.requires.0
    c.class_row-row.ensures in (h.wide, h.name)

pub put_word-requires : goal.put_word-requires
put_word-requires c =
    omega (
      arith,
      c.requires.1,
      class_length (kept_counts c.args.closure.now) (table_in Classes c.args.classes.now) c.args.c.0,
      word_length (decimal c.args.c.0) 32,
      ap length (c.name.ensures ∙ ap name_of c.class_row-row.ensures),
      word_length c.name.result.now 32,
      put_length c.args.text.now (word (decimal c.args.c.0) 32) c.put_number.ensures,
    )

pub put_identifier-requires : goal.put_identifier-requires
put_identifier-requires c =
    let h = listed_row c.args.classes.now c.args.closure.now c.class_row-row.result.now c.args.c.0 c.requires.0
    c.class_row-row.ensures in (
      h.wide,
      h.arcs,
      omega (
        arith,
        c.requires.1,
        class_length (kept_counts c.args.closure.now) (table_in Classes c.args.classes.now) c.args.c.0,
        word_length (decimal c.args.c.0) 32,
        ap length (c.name.ensures ∙ ap name_of c.class_row-row.ensures),
        word_length c.name.result.now 32,
        ap (λ (r : List ℕ). length (identifier_text r)) c.class_row-row.ensures,
        put_length c.args.text.now (word (decimal c.args.c.0) 32) c.put_number.ensures,
        put_length c.put_number.new.self (word c.name.result.now 32) c.put_word.ensures,
      ),
    )

pub put_byte-requires : goal.put_byte-requires
put_byte-requires c =
    omega (
      arith,
      c.requires.1,
      class_length (kept_counts c.args.closure.now) (table_in Classes c.args.classes.now) c.args.c.0,
      word_length (decimal c.args.c.0) 32,
      ap length (c.name.ensures ∙ ap name_of c.class_row-row.ensures),
      word_length c.name.result.now 32,
      ap (λ (r : List ℕ). length (identifier_text r)) c.class_row-row.ensures,
      put_length c.args.text.now (word (decimal c.args.c.0) 32) c.put_number.ensures,
      put_length c.put_number.new.self (word c.name.result.now 32) c.put_word.ensures,
      put_length c.put_word.new.self (identifier_text c.class_row-row.result.now) c.put_identifier.ensures,
    )

pub put_number-requires-2 : goal.put_number-requires-2
put_number-requires-2 c =
    omega (
      arith,
      c.requires.1,
      class_length (kept_counts c.args.closure.now) (table_in Classes c.args.classes.now) c.args.c.0,
      word_length (decimal c.args.c.0) 32,
      ap length (c.name.ensures ∙ ap name_of c.class_row-row.ensures),
      word_length c.name.result.now 32,
      ap (λ (r : List ℕ). length (identifier_text r)) c.class_row-row.ensures,
      ap (λ (n : ℕ). length (decimal n)) c.kept_count.ensures,
      word_length (decimal c.kept_count.result) 32,
      put_length c.args.text.now (word (decimal c.args.c.0) 32) c.put_number.ensures,
      put_length c.put_number.new.self (word c.name.result.now 32) c.put_word.ensures,
      put_length c.put_word.new.self (identifier_text c.class_row-row.result.now) c.put_identifier.ensures,
      put_length c.put_identifier.new.text (32 ∷ []) c.put_byte.ensures,
    )

pub put_number-requires-3 : goal.put_number-requires-3
put_number-requires-3 c =
    omega (
      arith,
      c.requires.1,
      class_length (kept_counts c.args.closure.now) (table_in Classes c.args.classes.now) c.args.c.0,
      word_length (decimal c.args.c.0) 32,
      ap length (c.name.ensures ∙ ap name_of c.class_row-row.ensures),
      word_length c.name.result.now 32,
      ap (λ (r : List ℕ). length (identifier_text r)) c.class_row-row.ensures,
      ap (λ (n : ℕ). length (decimal n)) c.kept_count.ensures,
      word_length (decimal c.kept_count.result) 32,
      ap (λ (n : ℕ). length (decimal n)) c.kept_count-2.ensures,
      word_length (decimal c.kept_count-2.result) 10,
      put_length c.args.text.now (word (decimal c.args.c.0) 32) c.put_number.ensures,
      put_length c.put_number.new.self (word c.name.result.now 32) c.put_word.ensures,
      put_length c.put_word.new.self (identifier_text c.class_row-row.result.now) c.put_identifier.ensures,
      put_length c.put_identifier.new.text (32 ∷ []) c.put_byte.ensures,
      put_length c.put_byte.new.self (word (decimal c.kept_count.result) 32) c.put_number-2.ensures,
    )

pub returns : goal.returns
returns c =
    five_put c.args.c.0 c.name.result.now (identifier_text c.class_row-row.result.now) c.kept_count.result c.kept_count-2.result c.args.text.now
    c.put_number.ensures c.put_word.ensures c.put_identifier.ensures c.put_byte.ensures c.put_number-2.ensures c.put_number-3.ensures
    ∙ ap (λ (x : List ℕ). c.args.text.now ++ x) (sym (class_read_lem (kept_counts c.args.closure.now) (table_in Classes c.args.classes.now) c.args.c.0
    c.class_row-row.ensures c.name.ensures c.kept_count.ensures c.kept_count-2.ensures))
