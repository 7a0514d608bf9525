use mathlib.Core.Path.{◌∙◌, ap, sym}
use lib.ListN.{length}
use Rattle.schema.specs.Store.{table_in}
use Rattle.schema.specs.declared.number.TableId.TheVariants.{Classes}
use Rattle.closure_change.proofs.KeptLaws.{kept_length}
use Rattle.closure_change.proofs.Joining.{one_named, not_named}
use Rattle.closure_change.proofs.added.join_named.Goals as goal

pub join-requires : goal.join-requires
join-requires c =
    ap length c.closure_row.ensures ∙ kept_length c.args.closure.now c.requires.readable.1 c.args.y.0 c.requires.n_lt_class_limit.1 ∙ sym
    c.requires.n_lt_class_limit.2

pub returns-then-inherits : goal.returns-then-inherits
returns-then-inherits c =
    one_named (table_in Classes c.args.classes.now) c.args.closure.now c.args.n.0 c.args.y.0
    c.args.out.now c.requires.n_lt_class_limit.2 _ _ (sym c.inherits.ensures ∙ c.if-inherits.true) c.closure_row.ensures c.join.ensures

pub returns-else-inherits : goal.returns-else-inherits
returns-else-inherits c =
    not_named (table_in Classes c.args.classes.now) c.args.closure.now c.args.n.0 c.args.y.0
    c.args.out.now c.requires.n_lt_class_limit.2 (λ i. (c.slice_known-1.given i).fits) (sym c.inherits.ensures ∙ c.if-inherits.false)
