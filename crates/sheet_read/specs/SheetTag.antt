-- What a tag stands for, by names for the three cases: the heading, a row of a table, or nothing that a sheet has.
use Rattle.std.specs.Prelude.{Option, Some, None}
use Rattle.schema.specs.declared.number.TableId.{TableId}
use Rattle.sheet_read.specs.declared.read.SheetTag as declared
use Rattle.sheet_read.specs.declared.read.SheetTag.TheVariants as tag

abbrev pub SheetTag : Type 0
SheetTag = Option declared.SheetTag

pattern abbrev pub Heading : SheetTag
Heading = Some tag.Heading

pattern abbrev pub Row : TableId → SheetTag
Row t = Some (tag.Row t)

pattern abbrev pub Unknown : SheetTag
Unknown = None
