-- What makes it safe to read every row of a store. It is less than the shape of document 01: it asks nothing of bytes that bound no part.
use Rattle.std.specs.Prelude.{List, ◌≡◌, ℕ, ◌≤◌, ◌<◌, length}
use Rattle.schema.specs.Numbers.{limit}
use Rattle.schema.specs.Layout.{name_limit, arc_limit, object_class_limit, store_length}
use Rattle.schema.specs.Row.{name_length, arc_count}
use Rattle.schema.specs.AttributeRow.{object_class_length}
use Rattle.schema.specs.Store.{table_in}
use Rattle.schema.specs.declared.number.TableId.{TableId}
use Rattle.schema.specs.declared.number.TableId.TheVariants.{Attributes, Classes}

-- the parts that a row of a table bounds itself lie within it
pub record Bounded (t : TableId) (row : List ℕ) : Type 0 where
  pub name : name_length row ≤ name_limit
  pub arcs : arc_count row ≤ arc_limit
  pub object_class : t ≡ Attributes → object_class_length row ≤ object_class_limit

-- the store of a table
pub record TableShaped (t : TableId) (s : List ℕ) : Type 0 where
  pub long : store_length t ≤ length s
  pub few : (table_in t s).count ≤ limit t
  pub bounded : (k : ℕ) → k < (table_in t s).count → Bounded t ((table_in t s).row k)

-- both
pub record Shaped (a c : List ℕ) : Type 0 where
  pub attributes : TableShaped Attributes a
  pub classes : TableShaped Classes c
