use Rattle.std.proofs.Common.{[], ◌∷◌, arith}
use Rattle.list_text.specs.Text.{word}
use Rattle.list_text.specs.TextLaws.{word_length}
use Rattle.list_text.proofs.Lines.{put_length, put_then}
use Rattle.list_text.proofs.text.Text.put_word.Goals as goal

pub put-requires : goal.put-requires
put-requires c =
    omega (arith, c.requires, word_length c.args.v.now c.args.behind)

pub put_byte-requires : goal.put_byte-requires
put_byte-requires c =
    omega (arith, c.requires, word_length c.args.v.now c.args.behind, put_length c.args.self.now c.args.v.now c.put.ensures)

pub returns : goal.returns
unfolding word
returns c =
    put_then c.args.self.now c.args.v.now (c.args.behind ∷ []) c.put.ensures c.put_byte.ensures
