use Rattle.std.proofs.Common.{[], ◌∷◌, arith}
use Rattle.list_text.specs.Text.{decimal, word}
use Rattle.list_text.specs.TextLaws.{word_length}
use Rattle.list_text.proofs.Lines.{put_length, put_then}
use Rattle.list_text.proofs.text.Text.put_number.Goals as goal

pub put_decimal-requires : goal.put_decimal-requires
put_decimal-requires c =
    omega (arith, c.requires, word_length (decimal c.args.n) c.args.behind)

pub put_byte-requires : goal.put_byte-requires
put_byte-requires c =
    omega (arith, c.requires, word_length (decimal c.args.n) c.args.behind, put_length c.args.self.now (decimal c.args.n) c.put_decimal.ensures)

pub returns : goal.returns
unfolding word
returns c =
    put_then c.args.self.now (decimal c.args.n) (c.args.behind ∷ []) c.put_decimal.ensures c.put_byte.ensures
