-- What shaped stores give to a function that asks for a row of either table.
use Rattle.std.specs.Prelude.{List, ◌≡◌, ℕ, ◌<◌, length}
use Rattle.std.proofs.Common.{arith, ap, ◌∙◌}
use Rattle.schema.specs.declared.number.TableId.{TableId}
use Rattle.schema.specs.declared.number.TableId.TheVariants.{Attributes, Classes}
use Rattle.schema.specs.Numbers.{limit}
use Rattle.schema.specs.Layout.{row_width}
use Rattle.schema.specs.Store.{table, table_in, schema_in, store_of}
use Rattle.schema.specs.StoreLaws.{table_row_length}
use Rattle.tables.specs.Shaped.{TableShaped, Shaped}

-- a row of a shaped store, as a call gave it, has its width
pub table_wide : {t : TableId} {s row : List ℕ} {k : ℕ} → TableShaped t s → row ≡ (table_in t s).row k → k < (table_in t s).count → length row ≡ row_width t
table_wide {t} {s} {row} {k} h e l = ap length e ∙ table_row_length t s k h.long (omega (arith, h.few))

pub shaped_table : (t : TableId) {a c : List ℕ} → Shaped a c → TableShaped t (store_of t a c)
shaped_table Attributes h = h.attributes
shaped_table Classes h = h.classes

module _ {a c : List ℕ} (h : Shaped a c) where
  -- a row that is there has a number within the limit, and its width
  pub shaped_within : (t : TableId) (k : ℕ) → k < (table t (schema_in a c)).count → k < limit t
  shaped_within Attributes k l = omega (arith, h.attributes.few)
  shaped_within Classes k l = omega (arith, h.classes.few)

  pub shaped_wide : (t : TableId) (k : ℕ) → k < (table t (schema_in a c)).count → length ((table t (schema_in a c)).row k) ≡ row_width t
  shaped_wide Attributes k l = table_row_length Attributes a k h.attributes.long (omega (arith, h.attributes.few))
  shaped_wide Classes k l = table_row_length Classes c k h.classes.long (omega (arith, h.classes.few))
