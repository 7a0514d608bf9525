-- A plain change that was done: the stores hold the model's rows, and are in order.
use Rattle.std.proofs.Math.ListN.{length}
use Rattle.std.proofs.Common.{arith, ap}
use Rattle.std.specs.Prelude.{◌≤◌, ℕ, List, ◌≡◌, refl, true}
use Rattle.schema.specs.declared.number.TableId.TheVariants.{Attributes, Classes}
use Rattle.schema.specs.Store.{Stores, schema_of, table_store, with_store}
use Rattle.schema.specs.declared.number.TableId.{TableId}
use Rattle.schema.specs.Layout.{closure_length}
use Rattle.change_read.specs.declared.read.Change.{Change}
use Rattle.change_read.specs.ChangeLaws.{Reads}
use Rattle.rules.specs.declared.row.Added.TheVariants.{Nothing}
use Rattle.rules.specs.Meets.{Meets, rule_number}
use Rattle.rules.proofs.SameLaws.{kept_same}
use Rattle.rules.proofs.MeetsLaws.{meets_nothing, met_of, meets}
use Rattle.prelude.specs.Part.{Bytes, splice}
use Rattle.prelude.specs.SpliceLaws.{splice_length}
use Rattle.change_model.specs.Conditions.{Condition}
use Rattle.change_model.specs.Model.{added_by, change_number}
use Rattle.change_model.specs.ModelLaws.{asked_zero}
use Rattle.change_model.proofs.ConditionsLaws.{change_zero}
use Rattle.keeper.specs.InShape.{InShape}
use Rattle.tables.specs.Same.{SameRows}
use Rattle.tables.specs.SameLaws.{same_symmetric}
use Rattle.graph.proofs.FreshLaws.{bytes_fresh, closure_rows_length}
use Rattle.graph.specs.Graph.{closure_rows, is_fresh}
use Rattle.change_asked.specs.Asked.{first_asked}
use Rattle.keeper_change.specs.MadeLaws.{made_same, made_shape}
use Rattle.keeper_change.specs.Made.{rows_made, refreshed}
use Rattle.change_rows.specs.Rows.{schema_after, table_for}
use Rattle.change_rows.specs.Stores.{store_after}

-- a table's store replaced, the closure is as it was
pub closure_stays : (t : TableId) (new : List ℕ) (s : Stores) → (with_store t new s).closure ≡ s.closure
closure_stays Attributes new s = refl
closure_stays Classes new s = refl

module _ (change : Change) (x r : List ℕ) (s : Stores) (bytes : Bytes x) (reads : Reads x change r) (shape : InShape s)
    (zero : change_number change r (schema_of s) ≡ 0) where
  asked : first_asked change r (schema_of s) ≡ 0
  asked = asked_zero change r (schema_of s) zero

  abbrev made : Stores
  made = rows_made change r s

  -- the rows are the model's
  pub done_same : SameRows (schema_of (refreshed made)) (schema_after change r (schema_of s))
  unfolding refreshed
  done_same = made_same change x r s bytes reads shape asked

  made_closure : made.closure ≡ s.closure
  unfolding rows_made
  made_closure = closure_stays (table_for change) (store_after change r (table_store (table_for change) s)) s

  closure_room : closure_length ≤ length made.closure
  closure_room = omega (arith, ap length made_closure, shape.long.closure)

  pub done_shape : InShape (refreshed made)
  unfolding refreshed
  done_shape =
      let h = made_shape change x r s bytes reads shape asked in
      let k : length (splice 0 (closure_rows (schema_of made).classes) made.closure) ≡ length made.closure =
      splice_length 0 (closure_rows (schema_of made).classes) made.closure (omega (arith, closure_rows_length (schema_of made).classes, closure_room)) in
      record {
        long = record { attributes = h.long.attributes; classes = h.long.classes; closure = omega (arith, closure_room) };
        formed = h.formed;
      }

  -- the closure is theirs
  pub done_fresh : is_fresh (schema_of (refreshed made)).classes (refreshed made).closure ≡ true
  unfolding refreshed
  done_fresh = bytes_fresh (schema_of made).classes made.closure closure_room

  -- and they meet every rule, what was added too
  pub result_meets : Meets (added_by change r (schema_of s).classes.count) (schema_after change r (schema_of s))
  result_meets =
      let added = added_by change r (schema_of s).classes.count in
      let after = schema_after change r (schema_of s) in
      let none = (change_zero change r (schema_of s)).0 zero in
      λ rule. met_of added after rule (λ unmet. none (rule_number rule) (Condition.rule rule unmet))

  pub done_meets : Meets Nothing (schema_of (refreshed made))
  done_meets =
      let after = schema_after change r (schema_of s) in
      (meets Nothing (schema_of (refreshed made))).0
      (kept_same (λ t. same_symmetric (done_same t)) Nothing ((meets Nothing after).1 (meets_nothing _ after result_meets)))
