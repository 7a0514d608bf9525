use native.Mathlib.Omega.{arith}
use mathlib.Core.Path.{◌∙◌, sym}
use borrow.Author.Tests.{le-leb, lt-leb}
use Rattle.change_asked.specs.Asked.{addition_asked}
use Rattle.prelude.specs.First.{first_of}
use Rattle.prelude.specs.PartLaws.{part_length}
use Rattle.schema.specs.Layout.{row_width}
use Rattle.schema.specs.LayoutLaws.{common_narrow, narrow_row}
use Rattle.change_asked.proofs.asked.addition_asked.Goals as goal

pub returns-then-row_limit-row_count : goal.returns-then-row_limit-row_count
unfolding addition_asked first_of
returns-then-row_limit-row_count c =
    rw (le-leb _ _ (rw (c.row_limit.ensures, c.row_count.ensures) at c.if-row_limit-row_count.true))

pub added_row-requires : goal.added_row-requires
added_row-requires c =
    omega (arith, c.requires.0, narrow_row c.args.table)

pub is_base-requires : goal.is_base-requires
is_base-requires c =
    rw c.added_row.ensures (omega (
      arith,
      part_length 0 (row_width c.args.table) c.args.scratch.now (omega (
        arith,
        c.requires.0,
        narrow_row c.args.table,
      )),
      common_narrow c.args.table,
    ))

pub returns-then-is_base : goal.returns-then-is_base
unfolding addition_asked first_of
returns-then-is_base c =
    rw (
      lt-leb _ _ (rw (c.row_limit.ensures, c.row_count.ensures) at c.if-row_limit-row_count.false),
      rw c.added_row.ensures at (sym
          c.is_base.ensures ∙ c.if-is_base.true),
    )

pub returns : goal.returns
unfolding addition_asked first_of
returns c =
    rw (
      lt-leb _ _ (rw (c.row_limit.ensures, c.row_count.ensures) at c.if-row_limit-row_count.false),
      rw c.added_row.ensures at (sym
          c.is_base.ensures ∙ c.if-is_base.false),
    )
