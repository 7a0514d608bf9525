use Rattle.std.proofs.Common.{◌≡◌, ◌++◌}
use Rattle.prelude.specs.Concat.{concat_below}
use Rattle.schema.specs.declared.number.TableId.TheVariants.{Classes}
use Rattle.schema.specs.Store.{table_in}
use Rattle.list_text.specs.Listing.{kept_counts, class_line}
use Rattle.list_text.proofs.class.put_classes.Given as goal

abbrev pub invariant-loop-c : goal.invariant-loop-c
invariant-loop-c l = l.text ≡ l.initial.text ++ concat_below l.c (class_line (kept_counts l.closure) (table_in Classes l.classes))
