use Rattle.sheet_read.proofs.Steps.{took_row, table_room, as_attributes, as_attributes_kept, as_classes, as_classes_kept}
use mathlib.Core.Path.{◌∙◌}
use Rattle.schema.specs.declared.number.TableId.TheVariants.{Attributes, Classes}
use Rattle.sheet_read.proofs.read.take_table_row.Goals as goal

pub take_row-requires : goal.take_row-requires
take_row-requires c =
    record { start_le_stop = c.requires.start_le_stop; table_in_bounds = table_room c.args.table Attributes c.in-Attributes.is c.requires.lent.0 c.requires.lent.1 }

pub take_row-requires-in-Classes : goal.take_row-requires-in-Classes
take_row-requires-in-Classes c =
    record { start_le_stop = c.requires.start_le_stop; table_in_bounds = table_room c.args.table Classes c.in-Classes.is c.requires.lent.0 c.requires.lent.1 }

pub returns-in-Attributes : goal.returns-in-Attributes
returns-in-Attributes c =
    let table = c.args.table in
    took_row table c.args.s.now c.args.start c.args.stop c.args.missing
    (λ i. (c.shared_slice_known-1.given i).fits) c.requires.start_le_stop.1 c.requires.lent.1 _ c.take_row.ensures.0
    (c.take_row.ensures.1 ∙ as_attributes table c.in-Attributes.is _ c.args.attributes.now)
    (as_attributes_kept table c.in-Attributes.is _ c.args.classes.now)

pub returns-in-Classes : goal.returns-in-Classes
returns-in-Classes c =
    let table = c.args.table in
    took_row table c.args.s.now c.args.start c.args.stop c.args.missing
    (λ i. (c.shared_slice_known-1.given i).fits) c.requires.start_le_stop.1 c.requires.lent.1 _ c.take_row-in-Classes.ensures.0
    (as_classes_kept table c.in-Classes.is _ c.args.attributes.now)
    (c.take_row-in-Classes.ensures.1 ∙ as_classes table c.in-Classes.is _ c.args.classes.now)
