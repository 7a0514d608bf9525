use mathlib.Core.Path.{◌∙◌, ap, ap₂}
use Rattle.schema.specs.Numbers.{number_read}
use Rattle.change_rows.specs.Lists.{list_table}
use Rattle.change_rows.proofs.list.entry_read.Goals as goal

pub returns : goal.returns
returns c =
    c.number_read.ensures ∙ ap₂ number_read (c.list_table.ensures ∙ ap list_table c.list_of.ensures) c.entry_of.ensures
