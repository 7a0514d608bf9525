-- A change of one row, as far as the rules of the other rows depend on it. "Nothing else changes a row" gives what stays; number 11 gives what is
-- said of a row that becomes defunct.
use Rattle.std.specs.Prelude.{true, false, List, ◌⊎◌, ◌≡◌, ℕ, ◌≤◌, ◌<◌}
use Rattle.schema.specs.declared.number.TableId.{TableId}
use Rattle.schema.specs.declared.number.TableId.TheVariants.{Attributes, Classes}
use Rattle.schema.specs.Numbers.{limit, SameRow}
use Rattle.schema.specs.Row.{is_defunct}
use Rattle.schema.specs.AttributeRow.{syntax_of, is_single_valued, link_of}
use Rattle.schema.specs.ClassRow.{category_of}
use Rattle.schema.specs.Store.{Schema, table}
use Rattle.tables.specs.Changed.{ChangedRow}
use Rattle.tables.specs.Named.{names}
use Rattle.rules_attribute.specs.Links.{is_back_link, is_forward_of}

-- "11 deactivation: an active class names the attribute, or another active class names the class ..; or an active back link needs it": none does
pub record Unneeded (m : Schema) (t : TableId) (k : ℕ) : Type 0 where
  pub classes : (j : ℕ) → j < m.classes.count → ¬ (SameRow t k Classes j) → is_defunct (m.classes.row j) ≡ false → names t (m.classes.row j) k ≡ false
  pub links : t ≡ Attributes → (j : ℕ) → j < m.attributes.count → is_defunct (m.attributes.row j) ≡ false → is_back_link (m.attributes.row j) ≡ true
      → is_forward_of (m.attributes.row j) (m.attributes.row k) ≡ false

-- of what no change gives another value, that which rules look at in other rows
abbrev pub Fixed : TableId → List ℕ → List ℕ → Type 0
Fixed Attributes old new = (syntax_of new ≡ syntax_of old) × (is_single_valued new ≡ is_single_valued old) × (link_of new ≡ link_of old)
Fixed Classes old new = category_of new ≡ category_of old

-- row k of table t was changed or added: m has become n
pub record RowChange (t : TableId) (k : ℕ) (m n : Schema) : Type 0 where
  pub changed : ChangedRow t k m n
  pub few : (table t n).count ≤ limit t
  pub fixed : k < (table t m).count → Fixed t ((table t m).row k) ((table t n).row k)
  pub state : k < (table t m).count → is_defunct ((table t n).row k) ≡ true → (is_defunct ((table t m).row k) ≡ true) ⊎ Unneeded m t k
