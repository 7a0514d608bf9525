use Rattle.std.proofs.Common.{ap, sym, length, ◌∙◌}
use Rattle.closure_change.proofs.KeptLaws.{kept_length}
use Rattle.closure_change.proofs.each.take_row.Goals as goal

pub copy_from_slice-requires : goal.copy_from_slice-requires
copy_from_slice-requires c =
    c.requires.2 ∙ sym (ap length c.closure_row.ensures ∙ kept_length c.args.fresh.now c.requires.0 c.args.c.0 c.requires.1)
