use Rattle.std.proofs.Common.{rules}
use Rattle.sets.specs.Sets.{with_member, without_member}
use Rattle.sets.specs.SetsLaws.{with_beyond, with_length, without_beyond, without_length}
use Rattle.change_read.specs.Carried.{entry_of}
use Prim.Native.Nat.{◌+◌}
use native.Mathlib.Omega.{arith}
use mathlib.Core.Path.{◌≡◌, ap, ◌∙◌, sym}
use mathlib.Core.Bool.{true≢false}
use Rattle.change_rows.proofs.Editing.{common_row}
use Rattle.change_rows.specs.Rows.{edited_row, is_addition}
use Rattle.change_rows.specs.RowsLaws.{wide_row}
use Rattle.prelude.specs.PartLaws.{part_short}
use Rattle.prelude.specs.SpliceLaws.{set_splice}
use Rattle.schema.specs.Layout.{defunct_at, name_limit}
use Rattle.rows_format.specs.Formats.{new_lower_at, new_name_at}
use Rattle.change_rows.proofs.edit.edit_row.Goals as goal

pub put_bytes-requires : goal.put_bytes-requires
put_bytes-requires c =
    rw c.new_range.ensures (omega (
      arith,
      (part_short new_lower_at 10 c.args.scratch.now).0,
      wide_row c.args.row.now
          c.in-SetRange.is c.requires.2,
    ))

pub put_bytes-requires-in-Rename : goal.put_bytes-requires-in-Rename
put_bytes-requires-in-Rename c =
    rw c.new_name.ensures (omega (
      arith,
      (part_short new_name_at (1 + name_limit) c.args.scratch.now).0,
      common_row c.args.change
          c.args.row.now c.requires.2,
    ))

pub bounds-row-150 : goal.bounds-row-150
bounds-row-150 c =
    omega (arith, common_row c.args.change c.args.row.now c.requires.2)

pub bounds-row-150-in-Reactivate : goal.bounds-row-150-in-Reactivate
bounds-row-150-in-Reactivate c =
    omega (arith, common_row c.args.change c.args.row.now c.requires.2)

pub edit_entry-requires-clause-wide : goal.edit_entry-requires-clause-wide
edit_entry-requires-clause-wide c =
    (c.requires.1, wide_row c.args.row.now c.in-AddEntry.is c.requires.2)

pub edit_entry-requires-in-RemoveEntry-clause-wide : goal.edit_entry-requires-in-RemoveEntry-clause-wide
edit_entry-requires-in-RemoveEntry-clause-wide c =
    (c.requires.1, wide_row c.args.row.now c.in-RemoveEntry.is c.requires.2)

pub returns-in-Add : goal.returns-in-Add
returns-in-Add c =
    absurd (true≢false (sym (ap is_addition c.in-Add.is) ∙ c.requires.0))

pub returns-in-SetRange : goal.returns-in-SetRange
unfolding edited_row
returns-in-SetRange c =
    rw (c.in-SetRange.is, ← c.new_range.ensures) c.put_bytes.ensures.bytes

pub returns-in-Rename : goal.returns-in-Rename
unfolding edited_row
returns-in-Rename c =
    rw (c.in-Rename.is, ← c.new_name.ensures) c.put_bytes-in-Rename.ensures.bytes

pub returns-in-Deactivate : goal.returns-in-Deactivate
unfolding edited_row
returns-in-Deactivate c =
    rw c.in-Deactivate.is (set_splice defunct_at 1 c.args.row.now (omega (
      arith,
      common_row c.args.change
          c.args.row.now c.requires.2,
    )))

pub returns-in-Reactivate : goal.returns-in-Reactivate
unfolding edited_row
returns-in-Reactivate c =
    rw c.in-Reactivate.is (set_splice defunct_at 0 c.args.row.now (omega (
      arith,
      common_row c.args.change
          c.args.row.now c.requires.2,
    )))

pub returns-in-AddEntry : goal.returns-in-AddEntry
unfolding edited_row
returns-in-AddEntry c =
    let n = entry_of c.args.scratch.now in
    rw c.in-AddEntry.is (c.edit_entry.ensures (with_member n) (record { as_long = with_length n; beyond = λ s b l. with_beyond s n b l }) (λ s left k e p.
    let left_is : left.now ≡ with_member k s.now = search rules in left_is ∙ ap (λ x. with_member x s.now) e))

pub returns-in-RemoveEntry : goal.returns-in-RemoveEntry
unfolding edited_row
returns-in-RemoveEntry c =
    let n = entry_of c.args.scratch.now in
    rw c.in-RemoveEntry.is (c.edit_entry-in-RemoveEntry.ensures (without_member n) (record { as_long = without_length n; beyond = λ s b l. without_beyond s n b l }) (λ s left k e p.
    let left_is : left.now ≡ without_member k s.now = search rules in left_is ∙ ap (λ x. without_member x s.now) e))
