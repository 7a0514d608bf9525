use Rattle.std.proofs.Common.{◌∙◌, ◌++◌, List, ℕ, ap, length, arith}
use Rattle.list_text.specs.Text.{ascii}
use Rattle.list_text.specs.Listing.{kept_counts, class_lines, head_line, listing}
use Rattle.list_text.proofs.Room.{lines_short}
use Rattle.list_text.proofs.list.put_listing.Goals as goal
use Rattle.schema.specs.declared.number.TableId.TheVariants.{Classes}
use Rattle.schema.specs.Store.{table_in}

pub put_classes-requires : goal.put_classes-requires
put_classes-requires c =
    let head = ap length (rw c.requires.2 at c.put.ensures) in (
      c.requires.0,
      c.requires.1,
      omega (
        arith,
        head,
        lines_short c.args.classes.now c.args.closure.now (λ i. omega (arith, c.type_inv.classes i)) c.requires.0,
      ),
    )

pub returns : goal.returns
unfolding listing head_line ascii
returns c =
    c.put_classes.ensures
    ∙ ap (λ (x : List ℕ). x ++ class_lines (kept_counts c.args.closure.now) (table_in Classes c.args.classes.now)) (rw c.requires.2 at c.put.ensures)
