use Rattle.std.proofs.Common.{refl, ap, length, arith}
use Rattle.list_text.specs.Text.{ascii, decimal, word}
use Rattle.list_text.specs.TextLaws.{word_length}
use Rattle.list_text.proofs.Lines.{put_length, refused_length, refused_put}
use Rattle.list_text.proofs.Room.{refused_short}
use Rattle.list_text.proofs.list.put_refused.Goals as goal

pub put_word-requires : goal.put_word-requires
unfolding ascii
put_word-requires c =
    omega (
      arith,
      ap length c.requires,
      word_length (ascii "refused") 32,
    )

pub put_number-requires : goal.put_number-requires
unfolding ascii
put_number-requires c =
    omega (
      arith,
      ap length c.requires,
      word_length (ascii "refused") 32,
      refused_short c.args.answer (omega arith) (omega arith) (omega arith),
      refused_length c.args.answer,
      word_length (decimal c.args.answer.number) 32,
      put_length c.args.text.now (word (ascii "refused") 32) c.put_word.ensures,
    )

pub put_number-requires-2 : goal.put_number-requires-2
unfolding ascii
put_number-requires-2 c =
    omega (
      arith,
      ap length c.requires,
      word_length (ascii "refused") 32,
      refused_short c.args.answer (omega arith) (omega arith) (omega arith),
      refused_length c.args.answer,
      word_length (decimal c.args.answer.number) 32,
      word_length (decimal c.args.answer.table) 32,
      put_length c.args.text.now (word (ascii "refused") 32) c.put_word.ensures,
      put_length c.put_word.new.self (word (decimal c.args.answer.number) 32) c.put_number.ensures,
    )

pub put_number-requires-3 : goal.put_number-requires-3
unfolding ascii
put_number-requires-3 c =
    omega (
      arith,
      ap length c.requires,
      word_length (ascii "refused") 32,
      refused_short c.args.answer (omega arith) (omega arith) (omega arith),
      refused_length c.args.answer,
      word_length (decimal c.args.answer.number) 32,
      word_length (decimal c.args.answer.table) 32,
      word_length (decimal c.args.answer.place) 10,
      put_length c.args.text.now (word (ascii "refused") 32) c.put_word.ensures,
      put_length c.put_word.new.self (word (decimal c.args.answer.number) 32) c.put_number.ensures,
      put_length c.put_number.new.self (word (decimal c.args.answer.table) 32) c.put_number-2.ensures,
    )

pub returns : goal.returns
unfolding ascii
returns c =
    refused_put c.args.answer refl (rw c.requires at c.put_word.ensures) c.put_number.ensures c.put_number-2.ensures c.put_number-3.ensures
